-- The bits 8, 16, .., 64 of a key are not used, and so the lowest bit of each byte.
-- Assumes nothing.
use mathlib.Core.Path.{◌≡◌, refl, sym, ap, ◌∙◌, subst, subst⁻¹}
use mathlib.Core.Bool.{Bool, true, false}
use mathlib.Core.List.{List, [], ◌∷◌, ◌++◌}
use mathlib.Core.Logic.{◌⊎◌, inl, inr, ⊎_elim}
use Prim.Native.Nat.{ℕ, zero, suc, ◌+◌, ◌-◌, ◌/◌, ◌%◌, ◌≤◌, ◌<◌}
use native.Mathlib.Nat.{not-suc-le-zero}
use native.Mathlib.Omega.{arith}
use lib.Dec.{ltb, lit≤}
use borrow.Author.Tests.{ltb-true, ltb-false}
use lib.ListN.{length, get_or, get_or-append}
use lib.Seq.{get_or-append-add}
use Rattle.des.specs.Bits.{bits, bits_of_bytes}
use Rattle.des.specs.Tables.{pc1, pc2, shifts}
use Rattle.des.specs.Des.{permute, shift_both, shifted, subkey, encipher_bits, decipher_bits}
use Rattle.des.specs.Claims.{SameButParity}
use Rattle.des.proofs.MapLaws.{map-every}
use Rattle.des.proofs.BitLaws.{length-bits, split-bits}
use Rattle.des.proofs.KeyLaws.{cipher-by}

-- two keys, as bits, that differ in parity bits alone
pub record SameUsed (a b : List ℕ) : Type 0 where
  pub agree : (k : ℕ) → 0 < k % 8 → get_or a (k - 1) 0 ≡ get_or b (k - 1) 0

used : ℕ → Bool
used k = ltb 0 (k % 8)

same-shifted : (a b : List ℕ) → SameUsed a b → (n : ℕ) → shifted a n ≡ shifted b n
unfolding shifted permute pc1 used
same-shifted a b h zero = map-every used (λ (k : ℕ). get_or a (k - 1) 0) (λ (k : ℕ). get_or b (k - 1) 0) (λ k t. h.agree k (ltb-true 0 (k % 8) t)) pc1 refl
same-shifted a b h (suc n) = ap (shift_both (get_or shifts n 0)) (same-shifted a b h n)

same-subkey : (a b : List ℕ) → SameUsed a b → (n : ℕ) → subkey a n ≡ subkey b n
unfolding subkey
same-subkey a b h n = ap (permute pc2) (same-shifted a b h (suc n))

pub same_encipher : (a b bs : List ℕ) → SameUsed a b → encipher_bits a bs ≡ encipher_bits b bs
unfolding encipher_bits
same_encipher a b bs h = cipher-by (λ (n : ℕ). subkey a n) (λ (n : ℕ). subkey b n) bs (λ m l. same-subkey a b h m)

pub same_decipher : (a b bs : List ℕ) → SameUsed a b → decipher_bits a bs ≡ decipher_bits b bs
unfolding decipher_bits
same_decipher a b bs h = cipher-by (λ (n : ℕ). subkey a (15 - n)) (λ (n : ℕ). subkey b (15 - n)) bs (λ m l. same-subkey a b h (15 - m))

-- ---- the bits of bytes

byte-first : (x y : ℕ) (s t : List ℕ) (k : ℕ) → x / 2 ≡ y / 2 → k < 7 → get_or (bits 8 x ++ s) k 0 ≡ get_or (bits 8 y ++ t) k 0
byte-first x y s t k e h = first x s ∙ ap (λ (n : ℕ). get_or (bits 7 n) k 0) e ∙ sym (first y t)
  where
    first : (x : ℕ) (s : List ℕ) → get_or (bits 8 x ++ s) k 0 ≡ get_or (bits 7 (x / 2)) k 0
    first x s =
        let l8 : k < length (bits 8 x) = omega (arith, length-bits 8 x) in
        let l7 : k < length (bits 7 (x / 2)) = omega (arith, length-bits 7 (x / 2)) in
        get_or-append (bits 8 x) s 0 k l8 ∙ ap (λ (l : List ℕ). get_or l k 0) (split-bits 7 1 x) ∙ get_or-append (bits 7 (x / 2)) (bits 1 x) 0 k l7

byte_next : (x : ℕ) (s : List ℕ) (k : ℕ) → 8 ≤ k → get_or (bits 8 x ++ s) k 0 ≡ get_or s (k - 8) 0
byte_next x s k h =
    let e : k ≡ length (bits 8 x) + (k - 8) = omega (arith, length-bits 8 x) in
    ap (λ (n : ℕ). get_or (bits 8 x ++ s) n 0) e ∙ get_or-append-add (bits 8 x) s (k - 8) 0

side : (k : ℕ) → (k < 8) ⊎ (8 ≤ k)
side k = go (ltb k 8) refl
  where
    go : (b : Bool) → ltb k 8 ≡ b → (k < 8) ⊎ (8 ≤ k)
    go true e = inl (ltb-true k 8 e)
    go false e = inr (ltb-false k 8 e)

parity-at : (a b : List ℕ) → SameButParity a b → (k : ℕ) → 0 < (k + 1) % 8 → get_or (bits_of_bytes a) k 0 ≡ get_or (bits_of_bytes b) k 0
unfolding bits_of_bytes
parity-at [] [] e k h = refl
parity-at [] (y ∷ b) e k h = absurd (not-suc-le-zero (subst (λ (n : ℕ). n ≤ 0) e.long (lit≤ tt)))
parity-at (x ∷ a) [] e k h = absurd (not-suc-le-zero (subst⁻¹ (λ (n : ℕ). n ≤ 0) e.long (lit≤ tt)))
parity-at (x ∷ a) (y ∷ b) e k h =
    let l : length a ≡ length b = omega (arith, e.long) in
    ⊎_elim
    (λ (p : k < 8). byte-first x y (bits_of_bytes a) (bits_of_bytes b) k (e.high zero) (omega arith))
    (λ (p : 8 ≤ k).
    byte_next x (bits_of_bytes a) k p
    ∙ parity-at a b (record { long = l; high = λ i. e.high (suc i) }) (k - 8) (omega arith)
    ∙ sym (byte_next y (bits_of_bytes b) k p))
    (side k)

pub same-used : (a b : List ℕ) → SameButParity a b → SameUsed (bits_of_bytes a) (bits_of_bytes b)
same-used a b e = record { agree = λ k h. parity-at a b e (k - 1) (omega arith) }
