-- What the tests say that a chain makes of each number below n, or of each element of a list.
-- Assumes nothing.
use mathlib.Core.Path.{◌≡◌, refl, sym, ap, ap₂, ◌∙◌}
use mathlib.Core.Bool.{Bool, true, false, not, ◌&&◌, ◌||◌}
use Prim.Native.Nat.{ℕ, zero, suc, ◌+◌, ◌*◌}
use mathlib.Core.List.{List, [], ◌∷◌}
use native.Mathlib.Omega.{arith}
use lib.Dec.{eqb}
use lib.ListN.{length, get_or}
use Rattle.std.specs.List.{list_all, list_any, range_with_len}
use Rattle.octets.specs.Bytes.{all_below, get32}
use Rattle.octets.specs.Words.{numbers, elem}

and_assoc : (a b c : Bool) → (a && b) && c ≡ a && (b && c)
and_assoc true b c = refl
and_assoc false b c = refl

and_true : (a : Bool) → a && true ≡ a
and_true true = refl
and_true false = refl

-- from the front, as a chain tests, and from the back
all-front : (n : ℕ) (p : ℕ → Bool) → p 0 && all_below n (λ k. p (suc k)) ≡ all_below (suc n) p
unfolding all_below
all-front zero p = and_true (p 0)
all-front (suc n) p = sym (and_assoc (p 0) (all_below n (λ k. p (suc k))) (p (suc n))) ∙ ap (λ b. b && p (suc n)) (all-front n p)

from-there : (a n : ℕ) (p : ℕ → Bool) → list_all p (range_with_len a n) ≡ all_below n (λ k. p (a + k))
unfolding all_below
from-there a zero p = refl
from-there a (suc n) p =
    let e : (k : ℕ) → p (a + 1 + k) ≡ p (a + suc k) = λ k. ap p (omega arith) in
    ap₂ (λ b c. b && c) (ap p (omega arith)) (from-there (a + 1) n p ∙ ap (all_below n) (λ i k. e k i)) ∙ all-front n (λ k. p (a + k))

pub all-range : (n : ℕ) (p : ℕ → Bool) → list_all p (range_with_len 0 n) ≡ all_below n p
all-range n p =
    let e : (k : ℕ) → p (0 + k) ≡ p k = λ k. ap p (omega arith) in
    from-there 0 n p ∙ ap (all_below n) (λ i k. e k i)

none-is-all : (p : ℕ → Bool) (xs : List ℕ) → not (list_any p xs) ≡ list_all (λ x. not (p x)) xs
none-is-all p [] = refl
none-is-all p (x ∷ xs) = go (p x) (none-is-all p xs)
  where
    go : (b : Bool) → not (list_any p xs) ≡ list_all (λ x. not (p x)) xs → not (b || list_any p xs) ≡ not b && list_all (λ x. not (p x)) xs
    go true e = refl
    go false e = e

pub any-range : (n : ℕ) (p : ℕ → Bool) → not (list_any p (range_with_len 0 n)) ≡ all_below n (λ k. not (p k))
any-range n p = none-is-all p (range_with_len 0 n) ∙ all-range n (λ k. not (p k))

pub all-list : (p : ℕ → Bool) (xs : List ℕ) → list_all p xs ≡ all_below (length xs) (λ k. p (get_or xs k 0))
unfolding all_below
all-list p [] = refl
all-list p (x ∷ xs) = ap (λ b. p x && b) (all-list p xs) ∙ all-front (length xs) (λ k. p (get_or (x ∷ xs) k 0))

-- x is among the n numbers from index i
pub elem-range : (x : ℕ) (s : List ℕ) (i n : ℕ) → list_any (λ k. eqb (get32 s (i + 4 * k)) x) (range_with_len 0 n) ≡ elem x (numbers s i n)
unfolding elem numbers
elem-range x s i n = go 0 n ∙ ap (λ m. elem x (numbers s m n)) (omega arith)
  where
    go : (k m : ℕ) → list_any (λ k. eqb (get32 s (i + 4 * k)) x) (range_with_len k m) ≡ elem x (numbers s (i + 4 * k) m)
    go k zero = refl
    go k (suc m) = ap (λ b. eqb (get32 s (i + 4 * k)) x || b) (go (k + 1) m ∙ ap (λ j. elem x (numbers s j m)) (omega arith))
