-- A message that is written field behind field, and a session init that is read.
-- Assumes nothing.
use mathlib.Core.Path.{◌≡◌, refl, sym, ap, ◌∙◌}
use mathlib.Core.Bool.{Bool, ◌||◌}
use mathlib.Core.List.{List, [], ◌∷◌, ◌++◌}
use Prim.Native.Nat.{ℕ, ◌+◌, ◌≤◌, ◌<◌}
use native.Mathlib.Nat.{zero-add}
use native.Mathlib.Omega.{arith}
use lib.Dec.{eqb}
use lib.ListN.{length, set}
use Rattle.std.specs.List.{list_any}
use Rattle.octets.specs.Bytes.{splice}
use Rattle.octets.specs.Words.{elem}
use Rattle.octets.proofs.SpliceLaws.{splice-splice, splice_snoc}

-- ---- the front v of d is written, which makes s; then come more bytes behind it

module _ (d v s : List ℕ) (k : ℕ) (l : length v ≡ k) (e : s ≡ splice d 0 v) where
  pub then-bytes : (w t : List ℕ) → k + length w ≤ length d → t ≡ splice s k w → t ≡ splice d 0 (v ++ w)
  then-bytes w t h f =
      f ∙ ap (λ (x : List ℕ). splice x k w) e ∙ ap (λ (x : ℕ). splice (splice d 0 v) x w) (sym (zero-add k)) ∙ splice-splice d 0 v w k l (omega arith)

  pub then-byte : (x : ℕ) → k < length d → set s k x ≡ splice d 0 (v ++ (x ∷ []))
  then-byte x h =
      ap (λ (y : List ℕ). set y k x) e ∙ ap (λ (y : ℕ). set (splice d 0 v) y x) (sym (zero-add k)) ∙ splice_snoc d 0 v k x l (omega arith)

-- ---- the versions in a session init

pub elem-any : (x : ℕ) (ys : List ℕ) → list_any (λ (y : ℕ). eqb y x) ys ≡ elem x ys
unfolding elem
elem-any x [] = refl
elem-any x (y ∷ ys) = ap (λ (b : Bool). eqb y x || b) (elem-any x ys)
