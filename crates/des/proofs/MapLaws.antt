-- A function or a test at each element of a list: at one element, of parts and shifts, and where a test over the list says that two functions agree.
-- Assumes nothing.
use mathlib.Core.Path.{◌≡◌, refl, ap₂}
use mathlib.Core.Bool.{Bool, true}
use mathlib.Core.List.{List, [], ◌∷◌, map, map-append}
use Prim.Native.Nat.{ℕ, zero, suc, ◌<◌}
use native.Mathlib.Nat.{le_of_suc-le-suc, not-suc-le-zero}
use Rattle.std.proofs.lemmas.List.{take-map, drop-map}
use Rattle.std.proofs.lemmas.List.Sums.{AllPass-from_list_all}
use lib.ListN.{length, get_or}
use Rattle.octets.proofs.BoolLaws.{and_left, and_right}
use Rattle.des.specs.Des.{swap, shift_both}
use Rattle.des.specs.Words.{every}

pub get_d_map : (f : ℕ → ℕ) (l : List ℕ) (n : ℕ) → n < length l → get_or (map f l) n 0 ≡ f (get_or l n 0)
get_d_map f [] n h = absurd (not-suc-le-zero h)
get_d_map f (x ∷ l) zero h = refl
get_d_map f (x ∷ l) (suc n) h = get_d_map f l n (le_of_suc-le-suc h)

pub swap-map : (f : ℕ → ℕ) (n : ℕ) (l : List ℕ) → swap n (map f l) ≡ map f (swap n l)
unfolding swap
swap-map f n l = simp (take-map, drop-map, map-append)

pub shift_map : (f : ℕ → ℕ) (n : ℕ) (l : List ℕ) → shift_both n (map f l) ≡ map f (shift_both n l)
unfolding shift_both
shift_map f n l = simp (take-map, drop-map, swap-map, map-append)

-- what a test over a whole list says of each element
pub every-at : (p : ℕ → Bool) (xs : List ℕ) → every p xs ≡ true → (i : ℕ) → i < length xs → p (get_or xs i 0) ≡ true
every-at p xs t i h = AllPass-from_list_all p xs t i 0 h

-- two functions that agree at each entry that passes the test
pub map-every : (p : ℕ → Bool) (f g : ℕ → ℕ) → ((k : ℕ) → p k ≡ true → f k ≡ g k) → (xs : List ℕ) → every p xs ≡ true → map f xs ≡ map g xs
map-every p f g h [] t = refl
map-every p f g h (x ∷ xs) t =
    ap₂ (λ (y : ℕ) (ys : List ℕ). y ∷ ys) (h x (and_left (p x) (every p xs) t)) (map-every p f g h xs (and_right (p x) (every p xs) t))
