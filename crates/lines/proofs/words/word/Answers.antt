use Rattle.lines.proofs.WordLaws.{first_word, next_word, this_word}
use native.Mathlib.Omega.{arith}
use Rattle.lines.proofs.words.word.Goals as goal

pub loop-j-init : goal.loop-j-init
loop-j-init c = (c.first-at.ensures.most, first_word c.args.s.now c.first-at.result c.first-at.ensures.is)

pub loop-j-preserved : goal.loop-j-preserved
loop-j-preserved c =
    let s = c.args.s.now in
    (c.first-at-in-loop-j.ensures.most, next_word s c.loop-j._j c.loop-j.at c.first.result c.first-at-in-loop-j.result c.loop-j.invariant.1 c.first.ensures.is c.first-at-in-loop-j.ensures.is)

pub returns : goal.returns
returns c =
    this_word c.args.s.now c.args.k c.loop-j._j c.loop-j.at c.first-end.result (omega arith) c.loop-j.invariant.1 c.first-end.ensures.is
