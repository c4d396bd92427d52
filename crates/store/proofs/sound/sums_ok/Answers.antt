use mathlib.Core.Path.{◌≡◌, refl, sym, ap, ap₂, ◌∙◌}
use mathlib.Core.Bool.{Bool, true, ◌&&◌}
use lib.Dec.{eqb}
use Prim.Native.Nat.{ℕ, ◌+◌}
use native.Mathlib.Omega.{arith}
use native.Mathlib.Numerals.{add-one}
use borrow.Author.Tests.{eq-eqb, ne_eqb}
use Rattle.octets.specs.Bytes.{all_below}
use Rattle.octets.proofs.BoolLaws.{and_false_left, all_below_more, all_below_fails}
use Rattle.store.specs.Store.{key_count, peer_count, first, sum_before, sum_at, sums_ok}
use Rattle.store.proofs.sound.sums_ok.Goals as goal

pub loop-i-init : goal.loop-i-init
unfolding all_below sum_before
loop-i-init c = (refl, omega arith, refl)

pub returns-then-number_at-sum : goal.returns-then-number_at-sum
unfolding sums_ok
returns-then-number_at-sum c =
    let s = c.args.s.now in
    let i = c.loop-i.i in
    let n = key_count s in
    sym (and_false_left (all_below n (sum_at s)) (eqb (sum_before s n) (peer_count s))
    (all_below_fails n i (sum_at s) (omega arith) (ne_eqb (first s i) (sum_before s i) (λ e. c.if-number_at-sum.true (c.number_at.ensures.0 ∙ e ∙ sym c.loop-i.invariant.0)))))

pub loop-i-preserved : goal.loop-i-preserved
unfolding sum_before
loop-i-preserved c =
    let s = c.args.s.now in
    let i = c.loop-i.i in (
      rw (add-one i) (ap (λ (x : ℕ). x + c.number_at-sum.result) c.loop-i.invariant.0 ∙ ap (λ (x : ℕ). sum_before s i + x) c.number_at-sum.ensures.0),
      omega arith,
      all_below_more i (sum_at s) c.loop-i.invariant.2 (eq-eqb (first s i) (sum_before s i) (sym c.number_at.ensures.0 ∙ c.if-number_at-sum.false ∙ c.loop-i.invariant.0)),
    )

pub returns : goal.returns
unfolding sums_ok
returns c =
    let s = c.args.s.now in
    let e : c.loop-i.i ≡ key_count s = omega arith in
    let t : all_below (key_count s) (sum_at s) ≡ true = rw e at c.loop-i.invariant.2 in
    let u : c.loop-i.sum ≡ sum_before s (key_count s) = c.loop-i.invariant.0 ∙ ap (λ (x : ℕ). sum_before s x) e in
    ap₂ (λ (x y : ℕ). eqb x y) u c.number_at-2.ensures.0 ∙ sym (ap (λ (x : Bool). x && eqb (sum_before s (key_count s)) (peer_count s)) t)
