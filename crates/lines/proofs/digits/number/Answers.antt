use Rattle.std.proofs.Common.{◌≡◌, ℕ, length, sym, ◌∙◌, subst, ◌*◌, ◌<◌, ◌^◌, arith}
use Rattle.lines.proofs.DigitLaws.{grown, numeral_turn, numeral-end, numeral-room}
use Rattle.lines.proofs.digits.number.Goals as goal

pub overflow_mul-r : goal.overflow_mul-r
overflow_mul-r c =
    let g = grown c.args.base c.args.s.now c.loop-b.b-index c.loop-b.r c.requires.0 c.requires.2 (omega arith) c.loop-b.invariant.0 in
    rw c.from.ensures (omega (arith, numeral-room c.loop-b.b-index _ (omega arith) g))

pub overflow_add-r : goal.overflow_add-r
overflow_add-r c =
    let g = grown c.args.base c.args.s.now c.loop-b.b-index c.loop-b.r c.requires.0 c.requires.2 (omega arith) c.loop-b.invariant.0 in
    rw (c.from.ensures, c.from-in-loop-b.ensures, c.worth.ensures) (omega (arith, numeral-room c.loop-b.b-index _ (omega arith) g))

pub loop-b-preserved : goal.loop-b-preserved
loop-b-preserved c =
    let a = c.args in
    let l = c.loop-b in
    rw (c.from.ensures, c.from-in-loop-b.ensures, c.worth.ensures)
    (grown a.base a.s.now l.b-index l.r c.requires.0 c.requires.2 (omega arith) l.invariant.0, l.invariant.1 ∙ numeral_turn a.base l.r a.s.now l.b-index (omega arith))

pub returns : goal.returns
returns c =
    let a = c.args in
    let l = c.loop-b in
    let e : l.b-index ≡ length a.s.now = omega arith in
    record {
      is = sym (l.invariant.1 ∙ numeral-end a.base l.r a.s.now l.b-index (omega arith));
      below = subst (λ (n : ℕ). l.r < 2 ^ (4 * n)) e l.invariant.0;
    }
