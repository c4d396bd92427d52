use Rattle.std.proofs.Common.{ap, sym, ◌∙◌, ℕ, ◌+◌, ◌-◌, ◌*◌, List, arith}
use Rattle.octets.specs.Bytes.{get16}
use Rattle.requests.specs.Edit.{renumbered}
use Rattle.requests.proofs.RecordLaws.{renumbered_turn, renumbered-end}
use Rattle.requests.proofs.record.renumber.Goals as goal

pub loop-k-preserved : goal.loop-k-preserved
loop-k-preserved c =
    let l = c.loop-k in
    let i = c.args.i in
    let n = c.args.n in
    record {
      room = omega (arith, c.put_number.auto.s);
      small = omega arith;
      rest = l.invariant.rest ∙ renumbered_turn l.s i n l.k l.first c.loop-k-test.true
          ∙ ap (λ (x : List ℕ). renumbered x (i + 44 * (l.k + 1)) (n - (l.k + 1)) (l.first + get16 l.s (i + 44 * l.k + 42))) (sym c.put_number.ensures)
          ∙ ap (λ (x : ℕ). renumbered c.put_number.new.s (i + 44 * (l.k + 1)) (n - (l.k + 1)) (l.first + x)) (sym c.number_at-count.ensures.0);
    }

pub returns : goal.returns
returns c =
    let l = c.loop-k in
    sym (l.invariant.rest ∙ renumbered-end l.s (c.args.i + 44 * l.k) c.args.n l.k l.first c.loop-k-test.false)
