-- Lists of zeros and ones of a length: what the functions of the standard keep of them.
-- Assumes nothing.
use mathlib.Core.Path.{◌≡◌, refl, sym, ap, ap₂, ◌∙◌}
use mathlib.Core.List.{List, [], ◌∷◌, ◌++◌, map}
use Prim.Native.Nat.{ℕ, zero, suc, ◌+◌, ◌-◌, ◌*◌, ◌/◌, ◌%◌, ◌^◌, ◌≤◌, ◌<◌}
use native.Mathlib.Nat.{le_of_suc-le-suc, not-suc-le-zero, mod-lt}
use native.Mathlib.Omega.{arith}
use native.Mathlib.Numerals.{add-one}
use lib.Dec.{lit<}
use lib.Pow.{shr-shr}
use lib.ListN.{length, get_or, take, drop, length-append, length-take, length-drop, length-map}
use lib.Seq.{get_or-drop}
use Rattle.des.specs.Bits.{bits, value, value_from, xor_bits}
use Rattle.des.specs.Tables.{p}
use Rattle.des.specs.Des.{permute, cipher_function, swap}

-- each element is a zero or a one
abbrev pub Small : List ℕ → Type 0
Small bs = (i : ℕ) → get_or bs i 0 < 2

pub record Block (n : ℕ) (bs : List ℕ) : Type 0 where
  pub long : length bs ≡ n
  pub small : Small bs

pub small-nil : Small []
small-nil i = lit< tt

pub small-cons : (x : ℕ) (xs : List ℕ) → x < 2 → Small xs → Small (x ∷ xs)
small-cons x xs h t zero = h
small-cons x xs h t (suc i) = t i

pub small-append : (a b : List ℕ) → Small a → Small b → Small (a ++ b)
small-append [] b ha hb = hb
small-append (x ∷ a) b ha hb = small-cons x (a ++ b) (ha zero) (small-append a b (λ i. ha (suc i)) hb)

pub small-take : (n : ℕ) (l : List ℕ) → Small l → Small (take n l)
small-take zero l h = small-nil
small-take (suc n) [] h = small-nil
small-take (suc n) (x ∷ l) h = small-cons x (take n l) (h zero) (small-take n l (λ i. h (suc i)))

pub small-drop : (n : ℕ) (l : List ℕ) → Small l → Small (drop n l)
small-drop n l h i = rw get_or-drop (h (n + i))

small-map : (f : ℕ → ℕ) → ((k : ℕ) → f k < 2) → (t : List ℕ) → Small (map f t)
small-map f h [] = small-nil
small-map f h (k ∷ t) = small-cons (f k) (map f t) (h k) (small-map f h t)

pub small-permute : (t bs : List ℕ) → Small bs → Small (permute t bs)
unfolding permute
small-permute t bs h = small-map (λ (k : ℕ). get_or bs (k - 1) 0) (λ k. h (k - 1)) t

pub small-swap : (n : ℕ) (bs : List ℕ) → Small bs → Small (swap n bs)
unfolding swap
small-swap n bs h = small-append (drop n bs) (take n bs) (small-drop n bs h) (small-take n bs h)

pub small_xor : (a b : List ℕ) → Small (xor_bits a b)
unfolding xor_bits
small_xor [] b = small-nil
small_xor (x ∷ a) [] = small-nil
small_xor (x ∷ a) (y ∷ b) = small-cons ((x + y) % 2) (xor_bits a b) (omega arith) (small_xor a b)

pub small-bits : (w x : ℕ) → Small (bits w x)
unfolding bits
small-bits zero x = small-nil
small-bits (suc w) x = small-cons (x / 2 ^ w % 2) (bits w x) (mod-lt (x / 2 ^ w) (lit< tt)) (small-bits w x)

-- ---- lengths

pub length-permute : (t bs : List ℕ) → length (permute t bs) ≡ length t
unfolding permute
length-permute t bs = length-map t (λ (k : ℕ). get_or bs (k - 1) 0)

pub length_xor : (a b : List ℕ) → length a ≤ length b → length (xor_bits a b) ≡ length a
unfolding xor_bits
length_xor [] b h = refl
length_xor (x ∷ a) [] h = absurd (not-suc-le-zero h)
length_xor (x ∷ a) (y ∷ b) h = ap suc (length_xor a b (le_of_suc-le-suc h))

pub length-f : (r k : List ℕ) → length (cipher_function r k) ≡ 32
unfolding cipher_function p
length-f r k = length-permute p _

pub length-swap : (n : ℕ) (bs : List ℕ) → length (swap n bs) ≡ length bs
unfolding swap
length-swap n bs = omega (arith, length-append (drop n bs) (take n bs), length-drop n bs, length-take n bs)

-- ---- the number that bits represent has these bits

pub value-high : (n : ℕ) (bs : List ℕ) → Small bs → value_from n bs / 2 ^ length bs ≡ n
unfolding value_from
value-high n [] s = omega arith
value-high n (x ∷ bs) s =
    let x2 : x < 2 = s zero in
    let q : (n * 2 + x) / 2 ≡ n = omega arith in
    ap (λ (k : ℕ). value_from (n * 2 + x) bs / 2 ^ k) (sym (add-one (length bs))) ∙ sym (shr-shr (value_from (n * 2 + x) bs) (length bs) 1)
    ∙ ap (λ (k : ℕ). k / 2) (value-high (n * 2 + x) bs (λ i. s (suc i))) ∙ q

bits-from : (n : ℕ) (bs : List ℕ) → Small bs → bits (length bs) (value_from n bs) ≡ bs
unfolding bits value_from
bits-from n [] s = refl
bits-from n (x ∷ bs) s =
    let x2 : x < 2 = s zero in
    let q : (n * 2 + x) % 2 ≡ x = omega arith in
    ap₂ (λ (z : ℕ) (zs : List ℕ). z ∷ zs) (ap (λ (k : ℕ). k % 2) (value-high (n * 2 + x) bs (λ i. s (suc i))) ∙ q) (bits-from (n * 2 + x) bs (λ i. s (suc i)))

pub bits-value : (bs : List ℕ) → Small bs → bits (length bs) (value bs) ≡ bs
unfolding value
bits-value bs s = bits-from 0 bs s
