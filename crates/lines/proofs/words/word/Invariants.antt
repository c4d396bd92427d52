-- `lines::words::word` meets its contract. The loop's invariant: word j starts here.
use Rattle.std.proofs.Common.{◌≡◌, ◌≤◌, length}
use Rattle.lines.specs.Words.{word_start}
use Rattle.lines.proofs.words.word.Given as goal

abbrev pub invariant-loop-j : goal.invariant-loop-j
invariant-loop-j l = (l.at ≤ length l.s) × (l.at ≡ word_start l.s l._j)
