-- Laws of texts of digits, for the loops that read them.
-- Assumes nothing.
use Rattle.std.proofs.Common.{◌≡◌, ℕ, zero, suc, ◌+◌, ◌*◌, ◌^◌, ◌≤◌, ◌<◌, true, List, [], ◌∷◌, length, get_or, drop, add-one, ap, ◌∙◌, arith}
use mathlib.Core.Path.{subst⁻¹}
use Rattle.std.specs.List.{list_all}
use Rattle.std.proofs.Math.Nat.{mul-le-mul_left}
use lib.ListN.{drop_of_length-le}
use lib.Seq.{drop-cons}
use lib.Pow.{pow_mono, pow-add}
use borrow.Author.Tests.{ltb-true}
use Rattle.octets.proofs.BoolLaws.{and_left, and_right}
use Rattle.lines.specs.Digits.{is_digit, are_digits, worth, numeral}

-- ---- a digit of a text of digits is below the base

pub digit_at : (base : ℕ) (s : List ℕ) (i : ℕ) → are_digits base s ≡ true → i < length s → worth (get_or s i 0) < base
unfolding are_digits
digit_at base [] i e h = omega arith
digit_at base (b ∷ s) zero e h = ltb-true (worth b) base (and_left (is_digit base b) (list_all (is_digit base) s) e)
digit_at base (b ∷ s) (suc i) e h = digit_at base s i (and_right (is_digit base b) (list_all (is_digit base) s) e) (omega arith)

-- ---- the number of a text

pub numeral_turn : (base r : ℕ) (s : List ℕ) (i : ℕ) → i < length s → numeral base r (drop i s) ≡ numeral base (r * base + worth (get_or s i 0)) (drop (i + 1) s)
unfolding numeral
numeral_turn base r s i h = rw (add-one, drop-cons s i 0 h)

pub numeral-end : (base r : ℕ) (s : List ℕ) (i : ℕ) → length s ≤ i → numeral base r (drop i s) ≡ r
unfolding numeral
numeral-end base r s i h = rw (drop_of_length-le s h)

-- i digits, and one more
grow : (r base d p : ℕ) → r < p → base ≤ 16 → d < base → r * base + d < p * 16
grow r base d p h b l =
    let m : r * base ≤ r * 16 = mul-le-mul_left r b in
    omega arith

numeral-grow : (i r base d : ℕ) → r < 2 ^ (4 * i) → base ≤ 16 → d < base → r * base + d < 2 ^ (4 * (i + 1))
numeral-grow i r base d h b l =
    let e : 4 * (i + 1) ≡ 4 * i + 4 = omega arith in
    subst⁻¹ (λ (n : ℕ). r * base + d < n) (ap (λ (n : ℕ). 2 ^ n) e ∙ pow-add 2 (4 * i) 4) (grow r base d (2 ^ (4 * i)) h b l)

-- the number with one more digit
pub grown : (base : ℕ) (s : List ℕ) (i r : ℕ) → base ≤ 16 → are_digits base s ≡ true → i < length s → r < 2 ^ (4 * i)
    → r * base + worth (get_or s i 0) < 2 ^ (4 * (i + 1))
grown base s i r b a h l = numeral-grow i r base _ l b (digit_at base s i a h)

pub numeral-room : (i x : ℕ) → i < 16 → x < 2 ^ (4 * (i + 1)) → x < 2 ^ 64
numeral-room i x h l =
    let e : 4 * (i + 1) ≤ 64 = omega arith in
    let m : 2 ^ (4 * (i + 1)) ≤ 2 ^ 64 = pow_mono e in
    omega arith
