-- The laws of lists of bits: length, parts, shifts, sums, `xor`, and the number that they represent.
-- Assumes nothing.
use mathlib.Core.Path.{◌≡◌, refl, sym, ap, ap₂, ◌∙◌}
use mathlib.Core.List.{List, ◌∷◌, ◌++◌}
use Prim.Native.Nat.{ℕ, zero, suc, ◌+◌, ◌*◌, ◌/◌, ◌%◌, ◌^◌, ◌<◌}
use native.Mathlib.Nat.{zero-add, suc-add, add_comm, add_assoc, add-mul, mul_assoc, mul_comm, add-mul-div_right, pow-suc}
use native.Mathlib.Omega.{arith}
use native.Mathlib.Numerals.{one-add}
use lib.Pow.{pow_pos, split, high, shr-shr, mod-pow-add}
use lib.Bits.{bit_xor, xor_shr, xor_add_and}
use lib.ListN.{length, take, drop}
use lib.Seq.{take_at, drop_at}
use Rattle.des.specs.Bits.{bits, value_from, value, xor_bits}

pub length-bits : (w x : ℕ) → length (bits w x) ≡ w
unfolding bits
length-bits zero x = refl
length-bits (suc w) x = ap suc (length-bits w x)

-- the high bits, then the low
pub split-bits : (a b x : ℕ) → bits (a + b) x ≡ bits a (x / 2 ^ b) ++ bits b x
unfolding bits
split-bits zero b x = rw zero-add
split-bits (suc a) b x =
    ap (λ (n : ℕ). bits n x) (suc-add a b)
    ∙ ap₂ (λ (h : ℕ) (t : List ℕ). h % 2 ∷ t) (ap (λ (n : ℕ). x / 2 ^ n) (add_comm a b) ∙ sym (shr-shr x b a)) (split-bits a b x)

pub take-bits : (a b x : ℕ) → take a (bits (a + b) x) ≡ bits a (x / 2 ^ b)
take-bits a b x = rw split-bits (take_at (bits a (x / 2 ^ b)) (bits b x) a (length-bits a (x / 2 ^ b)))

pub drop_bits : (a b x : ℕ) → drop a (bits (a + b) x) ≡ bits b x
drop_bits a b x = rw split-bits (drop_at (bits a (x / 2 ^ b)) (bits b x) a (length-bits a (x / 2 ^ b)))

-- bits above the width do not count
twice-up : (a w b : ℕ) → a * 2 ^ suc w + b ≡ a * 2 * 2 ^ w + b
twice-up a w b = ap (λ (n : ℕ). n + b) (ap (λ (n : ℕ). a * n) (pow-suc 2 w ∙ mul_comm (2 ^ w) 2) ∙ sym (mul_assoc a 2 (2 ^ w)))

head_free : (a w b : ℕ) → (a * 2 ^ suc w + b) / 2 ^ w % 2 ≡ b / 2 ^ w % 2
head_free a w b =
    ap (λ (n : ℕ). n / 2 ^ w % 2) (twice-up a w b ∙ add_comm (a * 2 * 2 ^ w) b)
    ∙ ap (λ (n : ℕ). n % 2) (add-mul-div_right b (a * 2) (pow_pos w))
    ∙ omega arith

low_free : (w a b : ℕ) → bits w (a * 2 ^ w + b) ≡ bits w b
unfolding bits
low_free zero a b = refl
low_free (suc w) a b = ap₂ (λ (h : ℕ) (t : List ℕ). h ∷ t) (head_free a w b) (ap (bits w) (twice-up a w b) ∙ low_free w (a * 2) b)

pub mod_bits : (w x : ℕ) → bits w (x % 2 ^ w) ≡ bits w x
mod_bits w x = sym (low_free w (x / 2 ^ w) (x % 2 ^ w)) ∙ ap (bits w) (split x w)

-- two numbers in one
pub join-bits : (a b x y : ℕ) → y < 2 ^ b → bits (a + b) (x * 2 ^ b + y) ≡ bits a x ++ bits b y
join-bits a b x y h = split-bits a b (x * 2 ^ b + y) ∙ ap₂ (λ (s t : List ℕ). s ++ t) (ap (bits a) (high x b h)) (low_free b x y)

-- `xor` is the sum modulo 2 of each bit
pub xor_digit : (x y : ℕ) → bit_xor x y % 2 ≡ (x % 2 + y % 2) % 2
xor_digit x y = omega (arith, xor_add_and x y)

pub xor_bits_lem : (w x y : ℕ) → bits w (bit_xor x y) ≡ xor_bits (bits w x) (bits w y)
unfolding bits xor_bits
xor_bits_lem zero x y = refl
xor_bits_lem (suc w) x y = ap₂ (λ (h : ℕ) (t : List ℕ). h ∷ t) (ap (λ (n : ℕ). n % 2) (xor_shr x y w) ∙ xor_digit (x / 2 ^ w) (y / 2 ^ w)) (xor_bits_lem w x y)

-- the number that the bits represent
value-from-bits : (w n x : ℕ) → value_from n (bits w x) ≡ n * 2 ^ w + x % 2 ^ w
unfolding bits value_from
value-from-bits zero n x = omega arith
value-from-bits (suc w) n x =
    value-from-bits w (n * 2 + x / 2 ^ w % 2) x
    ∙ ap (λ (k : ℕ). k + x % 2 ^ w) (add-mul (n * 2) (x / 2 ^ w % 2) (2 ^ w))
    ∙ add_assoc (n * 2 * 2 ^ w) (x / 2 ^ w % 2 * 2 ^ w) (x % 2 ^ w)
    ∙ ap (λ (k : ℕ). n * 2 * 2 ^ w + k) (sym (ap (λ (k : ℕ). x % 2 ^ k) (sym (one-add w)) ∙ mod-pow-add x 1 w))
    ∙ sym (twice-up n w (x % 2 ^ suc w))

pub value-bits : (w x : ℕ) → value (bits w x) ≡ x % 2 ^ w
unfolding value
value-bits w x = value-from-bits w 0 x ∙ omega arith
