use mathlib.Core.Path.{◌≡◌, refl, sym, ap, ap₂, ◌∙◌}
use mathlib.Core.List.{List}
use Prim.Native.Nat.{ℕ, ◌+◌}
use native.Mathlib.Omega.{arith}
use native.Mathlib.Numerals.{add-one}
use lib.ListN.{get_or}
use Rattle.des.specs.Bits.{bits}
use Rattle.des.specs.Des as Des
use Rattle.des.specs.Words.{keys_of}
use Rattle.des.proofs.KeyLaws.{turned-below}
use Rattle.des.proofs.iteration.iterations.Goals as goal

next : (ks : ℕ → List ℕ) (n : ℕ) (l s t k : List ℕ) → s ≡ Des.rounds ks n l → t ≡ Des.round k s → k ≡ ks n → t ≡ Des.rounds ks (n + 1) l
unfolding Des.rounds
next ks n l s t k hs ht hk = ht ∙ ap₂ Des.round hk hs ∙ ap (λ (m : ℕ). Des.rounds ks m l) (sym (add-one n))

pub loop-n-init : goal.loop-n-init
unfolding Des.rounds
loop-n-init c = refl

pub turn-requires : goal.turn-requires
turn-requires c = c.loop-n-test.true

pub offset_bounds-keys-turn : goal.offset_bounds-keys-turn
offset_bounds-keys-turn c = omega (arith, turned-below c.args.back c.loop-n.n c.turn.result c.loop-n-test.true c.turn.ensures)

pub bounds-keys-turn : goal.bounds-keys-turn
bounds-keys-turn c = turned-below c.args.back c.loop-n.n c.turn.result c.loop-n-test.true c.turn.ensures

pub loop-n-preserved : goal.loop-n-preserved
loop-n-preserved c =
    let a = c.args in
    let keys = a.keys in
    next (keys_of keys a.back) c.loop-n.n (bits 64 a.lr) (bits 64 c.loop-n.s) (bits 64 c.round-s.result)
    (bits 48 (get_or keys c.turn.result 0)) c.loop-n.invariant c.round-s.ensures (ap (λ (m : ℕ). bits 48 (get_or keys m 0)) c.turn.ensures)

pub returns : goal.returns
returns c =
    let a = c.args in
    let e : c.loop-n.n ≡ 16 = omega arith in
    c.loop-n.invariant ∙ ap (λ (m : ℕ). Des.rounds (keys_of a.keys a.back) m (bits 64 a.lr)) e
