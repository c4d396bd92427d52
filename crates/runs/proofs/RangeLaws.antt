-- Two lists that are the same in a range of indices: what is read there is the same. And the indices that lie in no KMAC field.
-- Assumes nothing.
use mathlib.Core.Path.{◌≡◌, refl, sym, ap, ap₂, ◌∙◌}
use mathlib.Core.Bool.{Bool, true, false, ◌&&◌}
use mathlib.Core.List.{List}
use Prim.Native.Nat.{ℕ, zero, suc, ◌+◌, ◌*◌, ◌%◌, ◌≤◌, ◌<◌}
use native.Mathlib.Omega.{arith}
use lib.ListN.{length, get_or}
use lib.Dec.{eqb, leb, ltb}
use borrow.Author.Tests.{lt-leb, le-ltb, le-leb, lt-ltb}
use lib.Count.{ones}
use Rattle.octets.specs.Bytes.{get16, get32, part, all_below}
use Rattle.octets.specs.Words.{numbers}
use Rattle.octets.proofs.BoolLaws.{and_both, and_false_left, and_false_right}
use Rattle.octets.proofs.PartLaws.{part_length, part_at}
use Rattle.store.specs.Store.{all_odd, is_odd}
use Rattle.runs.specs.Alike.{in_key}

-- the same from index a on, n elements long
abbrev pub SameIn : List ℕ → List ℕ → ℕ → ℕ → Type 0
SameIn x y a n = (i : ℕ) → a ≤ i → i < a + n → get_or x i 0 ≡ get_or y i 0

module _ (x y : List ℕ) where
  pub get16-same : (a : ℕ) → SameIn x y a 2 → get16 x a ≡ get16 y a
  get16-same a w = rw (w a (omega arith) (omega arith), w (a + 1) (omega arith) (omega arith))

  pub get32-same : (a : ℕ) → SameIn x y a 4 → get32 x a ≡ get32 y a
  get32-same a w =
      rw (w a (omega arith) (omega arith), w (a + 1) (omega arith) (omega arith), w (a + 2) (omega arith) (omega arith), w (a + 3) (omega arith) (omega arith))

  pub numbers-same : (n a : ℕ) → SameIn x y a (4 * n) → numbers x a n ≡ numbers y a n
  unfolding numbers
  numbers-same zero a w = refl
  numbers-same (suc n) a w =
      rw (get32-same a (λ i h l. w i h (omega arith)), numbers-same n (a + 4) (λ i h l. w i (omega arith) (omega arith)))

-- ---- parity

all_below-same : (n : ℕ) (p q : ℕ → Bool) → ((i : ℕ) → i < n → p i ≡ q i) → all_below n p ≡ all_below n q
unfolding all_below
all_below-same zero p q h = refl
all_below-same (suc n) p q h = ap₂ (λ (a b : Bool). a && b) (all_below-same n p q (λ i l. h i (omega arith))) (h n (omega arith))

-- where bytes in the same place have the same parity, so have two parts in the same place
pub all_odd-same : (x y : List ℕ) (a n : ℕ) → length x ≡ length y → a + n ≤ length x → ((i : ℕ) → ones (get_or x i 0) % 2 ≡ ones (get_or y i 0) % 2)
    → all_odd (part x a n) ≡ all_odd (part y a n)
unfolding all_odd
all_odd-same x y a n e h p =
    let lx : length (part x a n) ≡ n = part_length x a n h in
    let ly : length (part y a n) ≡ n = part_length y a n (omega arith) in
    ap (λ (k : ℕ). all_below k (λ j. is_odd (get_or (part x a n) j 0))) lx
    ∙ all_below-same n (λ j. is_odd (get_or (part x a n) j 0)) (λ j. is_odd (get_or (part y a n) j 0))
    (λ j l. ap is_odd (part_at x a n j l) ∙ ap (λ (k : ℕ). eqb k 1) (p (a + j)) ∙ sym (ap is_odd (part_at y a n j l)))
    ∙ sym (ap (λ (k : ℕ). all_below k (λ j. is_odd (get_or (part y a n) j 0))) ly)

-- ---- a KMAC field

pub before-key : (a i : ℕ) → i < a → in_key a i ≡ false
before-key a i h = and_false_left (leb a i) (ltb i (a + 24)) (lt-leb a i h)

pub past-key : (a i : ℕ) → a + 24 ≤ i → in_key a i ≡ false
past-key a i h = and_false_right (leb a i) (ltb i (a + 24)) (le-ltb i (a + 24) h)

pub inside-key : (a j : ℕ) → j < 24 → in_key a (a + j) ≡ true
inside-key a j h = and_both (leb a (a + j)) (ltb (a + j) (a + 24)) (le-leb a (a + j) (omega arith)) (lt-ltb (a + j) (a + 24) (omega arith))
