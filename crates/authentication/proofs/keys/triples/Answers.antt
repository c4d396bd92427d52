-- `authentication::keys::triples` meets its contract.
use mathlib.Core.Path.{◌≡◌, sym, ◌∙◌}
use mathlib.Core.List.{List}
use native.Mathlib.Omega.{arith}
use lib.Dec.{lit<}
use lib.ListN.{length}
use Prim.Native.Nat.{ℕ}
use Rattle.fast_des.specs.declared.Halves.{Halves}
use Rattle.des.specs.Bits.{bits}
use Rattle.des.specs.Des.{encipher_bits, decipher_bits}
use Rattle.fast_des.specs.Inside.{Entered, Leaves, EnciphersInside, DeciphersInside}
use Rattle.authentication.specs.Keys.{triple, Triples}
use Rattle.authentication.proofs.keys.triples.Goals as goal

-- one of the three: in, the three keys, and out
through : (k1 k2 k3 : List ℕ) (x r : ℕ) (h a b d : Halves) → Entered h (bits 64 x) → EnciphersInside h k1 a → DeciphersInside a k2 b → EnciphersInside b k3 d → Leaves d r → Triples k1 k2 k3 x r
unfolding triple
through k1 k2 k3 x r h a b d e p q s out =
    record {
      by = λ u v w hu hv hw.
          let first = encipher_bits u (bits 64 x) in
          let second = decipher_bits v first in
          out.by (encipher_bits w second) (s.by w second hw (q.by v first hv (p.by u (bits 64 x) hu e)));
    }

pub returns : goal.returns
returns c =
    let t = c.args in
    let h : Halves = record { left = 0; right = 0 } in
    let x = c.enter-left.ensures in
    let a = c.encipher.ensures in
    let b = c.decipher.ensures in
    let d = c.encipher-2.ensures in
    let lb : 2 ≡ length c.encipher.result.0 = sym a.0.long in
    let ld : 2 ≡ length c.decipher.result.0 = lb ∙ sym b.0.long in (
      through t.k1 t.k2 t.k3 t.x _ _ _ _ _ x (a.0.by 0 h (lit< tt)) (b.0.by 0 h (omega arith)) (d.0.by 0 h (omega arith)) c.leave.ensures,
      (
        through t.k1 t.k2 t.k3 t.y _ _ _ _ _ c.enter.ensures (a.0.by 1 h (lit< tt)) (b.0.by 1 h (omega arith)) (d.0.by 1 h (omega arith)) c.leave-2.ensures,
        through t.k3 t.k2 t.k1 t.x _ _ _ _ _ x a.1 b.1 d.1 c.leave-3.ensures,
      ),
    )
