-- Laws of `&&`, of a number between two bounds, and of tests over every number below a bound.
-- Assumes nothing.
use mathlib.Core.Path.{◌≡◌, refl, sym, ap₂, subst}
use mathlib.Core.Bool.{Bool, true, false, ◌&&◌}
use mathlib.Core.List.{List, [], ◌∷◌}
use mathlib.Core.Logic.{⊎_elim}
use Prim.Native.Nat.{ℕ, zero, suc, ◌+◌, ◌≤◌, ◌<◌}
use native.Mathlib.Nat.{not-suc-le-zero, le_of_suc-le-suc, eq-or-lt_of_le}
use native.Mathlib.Numerals.{add-one}
use native.Mathlib.Omega.{arith}
use lib.Dec.{eqb, leb}
use borrow.Author.Tests.{eqb-true, eq-eqb, leb-true, le-leb, lt-leb}
use Rattle.octets.specs.Bytes.{between, all_below, same}

-- a test is not both true and false
pub clash : {A : Type 0} (a : Bool) → a ≡ true → a ≡ false → A
clash a p q = let z : ◌≡◌ {A = ℕ} 0 1 = cc in absurd (omega arith)

pub and_both : (a b : Bool) → a ≡ true → b ≡ true → (a && b) ≡ true
and_both a b p q = rw (p, q)

pub and_left : (a b : Bool) → (a && b) ≡ true → a ≡ true
and_left true b p = refl
and_left false b p = p

pub and_right : (a b : Bool) → (a && b) ≡ true → b ≡ true
and_right true b p = p
and_right false b p = clash false p refl

pub and_false_left : (a b : Bool) → a ≡ false → (a && b) ≡ false
and_false_left a b p = rw p

pub and_false_right : (a b : Bool) → b ≡ false → (a && b) ≡ false
and_false_right true b p = p
and_false_right false b p = refl

-- ---- a number between two bounds

pub between-true : (low high n : ℕ) → between low high n ≡ true → (low ≤ n) × (n ≤ high)
between-true low high n e = (leb-true low n (and_left (leb low n) (leb n high) e), leb-true n high (and_right (leb low n) (leb n high) e))

pub is-between : (low high n : ℕ) → low ≤ n → n ≤ high → between low high n ≡ true
is-between low high n p q = and_both (leb low n) (leb n high) (le-leb low n p) (le-leb n high q)

pub under : (low high n : ℕ) → n < low → between low high n ≡ false
under low high n h = and_false_left (leb low n) (leb n high) (lt-leb low n h)

pub over : (low high n : ℕ) → high < n → between low high n ≡ false
over low high n h = and_false_right (leb low n) (leb n high) (lt-leb n high h)

-- ---- a test of every number below n

pub all_below_more : (i : ℕ) (p : ℕ → Bool) → all_below i p ≡ true → p i ≡ true → all_below (i + 1) p ≡ true
unfolding all_below
all_below_more i p h t = rw add-one (and_both _ _ h t)

pub all_below_fails : (n i : ℕ) (p : ℕ → Bool) → i < n → p i ≡ false → all_below n p ≡ false
unfolding all_below
all_below_fails zero i p l f = absurd (not-suc-le-zero l)
all_below_fails (suc n) i p l f =
    ⊎_elim (λ (e : i ≡ n). and_false_right (all_below n p) (p n) (subst (λ (k : ℕ). p k ≡ false) e f))
    (λ (h : i < n). and_false_left (all_below n p) (p n) (all_below_fails n i p h f))
    (eq-or-lt_of_le (le_of_suc-le-suc l))

pub all_below-at : (n i : ℕ) (p : ℕ → Bool) → all_below n p ≡ true → i < n → p i ≡ true
unfolding all_below
all_below-at zero i p h l = absurd (not-suc-le-zero l)
all_below-at (suc n) i p h l =
    ⊎_elim (λ (e : i ≡ n). subst (λ (k : ℕ). p k ≡ true) (sym e) (and_right (all_below n p) (p n) h))
    (λ (b : i < n). all_below-at n i p (and_left (all_below n p) (p n) h) b)
    (eq-or-lt_of_le (le_of_suc-le-suc l))

pub all_below-all : (n : ℕ) (p : ℕ → Bool) → ((i : ℕ) → i < n → p i ≡ true) → all_below n p ≡ true
unfolding all_below
all_below-all zero p h = refl
all_below-all (suc n) p h = and_both (all_below n p) (p n) (all_below-all n p (λ i l. h i (omega arith))) (h n (omega arith))

-- ---- two lists are the same

pub same_refl : (a : List ℕ) → same a a ≡ true
unfolding same
same_refl [] = refl
same_refl (x ∷ a) = and_both (eqb x x) (same a a) (eq-eqb x x refl) (same_refl a)

pub same_true : (a b : List ℕ) → same a b ≡ true → a ≡ b
unfolding same
same_true [] [] e = refl
same_true [] (y ∷ b) e = clash false e refl
same_true (x ∷ a) [] e = clash false e refl
same_true (x ∷ a) (y ∷ b) e =
    ap₂ (λ (z : ℕ) (zs : List ℕ). z ∷ zs) (eqb-true x y (and_left (eqb x y) (same a b) e)) (same_true a b (and_right (eqb x y) (same a b) e))
