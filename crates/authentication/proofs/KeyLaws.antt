-- Session keys: halves of two words in one, three words joined, and odd parity.
-- Assumes nothing.
use mathlib.Core.Path.{◌≡◌, refl, sym, ap, ap₂, ◌∙◌}
use mathlib.Core.List.{List, [], ◌∷◌, ◌++◌, map, append_assoc}
use Prim.Native.Nat.{ℕ, zero, suc, ◌+◌, ◌-◌, ◌*◌, ◌/◌, ◌%◌, ◌^◌, ◌<◌}
use native.Mathlib.Nat.{not-suc-le-zero, le_of_suc-le-suc}
use native.Mathlib.Numerals.{add-one}
use native.Mathlib.Omega.{arith}
use lib.Bits.{bit_and, bit_or, or_shifted}
use lib.Count.{ones, ones_step}
use lib.Dec.{lit≤}
use lib.ListN.{length, get_or, take, drop, set, length-append, length-map}
use lib.Pow.{shr_lt}
use Rattle.octets.specs.Bytes.{bytes, splice}
use Rattle.octets.proofs.NumberLaws.{length-bytes}
use Rattle.octets.proofs.SpliceLaws.{splice-splice, splice_all}
use Rattle.des.specs.Bits.{bits, bits_of_bytes, bytes_of_bits}
use Rattle.des.proofs.BitLaws.{take-bits, drop_bits}
use Rattle.des.proofs.ByteLaws.{bytes_bits, length-bytes_of_bits}
use Rattle.des.proofs.WordLaws.{pushed, whole, masked}
use Rattle.authentication.specs.Mac.{block}
use Rattle.authentication.specs.Keys.{left, right, triple, ks1, ks2, ks3, odd, session_keys, Drawn}

-- ---- halves

pub lefts_of : (a b : ℕ) → a < 2 ^ 64 → b < 2 ^ 64 → bits 64 (bit_or (a / 2 ^ 32 * 2 ^ 32 % 2 ^ 64) (b / 2 ^ 32)) ≡ take 32 (bits 64 a) ++ take 32 (bits 64 b)
lefts_of a b ha hb =
    (pushed 32 32 (lit≤ tt) (whole 32 (a / 2 ^ 32) (shr_lt 32 32 ha)) (whole 32 (b / 2 ^ 32) (shr_lt 32 32 hb))).same
    ∙ ap₂ (λ (s t : List ℕ). s ++ t) (sym (take-bits 32 32 a)) (sym (take-bits 32 32 b))

pub rights_of : (a b : ℕ) → bits 64 (bit_or (bit_and a (2 ^ 32 - 1) * 2 ^ 32 % 2 ^ 64) (bit_and b (2 ^ 32 - 1))) ≡ drop 32 (bits 64 a) ++ drop 32 (bits 64 b)
rights_of a b =
    (pushed 32 32 (lit≤ tt) (masked 32 a) (masked 32 b)).same
    ∙ ap₂ (λ (s t : List ℕ). s ++ t) (sym (drop_bits 32 32 a)) (sym (drop_bits 32 32 b))

-- ---- three words

pub joined : (d r s t : List ℕ) (a b c : ℕ) → length d ≡ 24 → r ≡ splice d 0 (bytes 8 a) → s ≡ splice r 8 (bytes 8 b) → t ≡ splice s 16 (bytes 8 c)
    → t ≡ bytes 8 a ++ (bytes 8 b ++ bytes 8 c)
joined d r s t a b c h er es et =
    let x = bytes 8 a in
    let y = bytes 8 b in
    let z = bytes 8 c in
    let lx : length x ≡ 8 = length-bytes 8 a in
    let ly : length y ≡ 8 = length-bytes 8 b in
    let lz : length z ≡ 8 = length-bytes 8 c in
    let lxy : length (x ++ y) ≡ 16 = omega (arith, length-append x y) in
    et ∙ ap (λ (l : List ℕ). splice l 16 z) (es ∙ ap (λ (l : List ℕ). splice l 8 y) er ∙ splice-splice d 0 x y 8 lx (omega arith))
    ∙ splice-splice d 0 (x ++ y) z 16 lxy (omega arith)
    ∙ splice_all d ((x ++ y) ++ z) (omega (arith, length-append (x ++ y) z)) ∙ append_assoc x y z

-- ---- parity

pub odd_of : (b : ℕ) → b < 256 → bit_or (b / 2 * 2 % 256) ((ones (b / 2) % 2 + 1) % 2) ≡ odd b
unfolding odd
odd_of b h =
    let e : b / 2 * 2 % 256 ≡ b / 2 * 2 = omega arith in
    let l : (ones (b / 2) % 2 + 1) % 2 < 2 = omega arith in
    let o : (ones (b / 2) % 2 + 1) % 2 ≡ (ones (b / 2) + 1) % 2 = omega arith in
    ap (λ (n : ℕ). bit_or n ((ones (b / 2) % 2 + 1) % 2)) e ∙ or_shifted (b / 2) 1 ((ones (b / 2) % 2 + 1) % 2) l ∙ ap (λ (n : ℕ). b / 2 * 2 + n) o

-- the number of ones is odd, and the other seven bits are as they were
pub odd-ones : (b : ℕ) → ones (odd b) % 2 ≡ 1
unfolding odd
odd-ones b =
    let q = b / 2 in
    let h : (q * 2 + (ones q + 1) % 2) / 2 ≡ q = omega arith in
    let o : ones (q * 2 + (ones q + 1) % 2) ≡ (q * 2 + (ones q + 1) % 2) % 2 + ones q = ones_step (q * 2 + (ones q + 1) % 2) ∙ ap (λ (n : ℕ). (q * 2 + (ones q + 1) % 2) % 2 + ones n) h in
    omega (arith, o)

pub odd-high : (b : ℕ) → odd b / 2 ≡ b / 2
unfolding odd
odd-high b = omega arith

-- a turn of the loop over the bytes: those before i have their parity, the others are as they were
parity-next : (d : List ℕ) (i : ℕ) → i < length d → let r = map odd (take i d) ++ drop i d in set r i (odd (get_or r i 0)) ≡ map odd (take (suc i) d) ++ drop (suc i) d
parity-next [] i h = absurd (not-suc-le-zero h)
parity-next (x ∷ d) zero h = refl
parity-next (x ∷ d) (suc i) h = ap (λ (l : List ℕ). odd x ∷ l) (parity-next d i (le_of_suc-le-suc h))

pub parity_turn : (d r : List ℕ) (i q : ℕ) → i < length d → q ≡ odd (get_or r i 0) → r ≡ map odd (take i d) ++ drop i d → set r i q ≡ map odd (take (i + 1) d) ++ drop (i + 1) d
parity_turn d r i q h e p =
    ap₂ (λ (s : List ℕ) (n : ℕ). set s i n) p (e ∙ ap (λ (s : List ℕ). odd (get_or s i 0)) p)
    ∙ parity-next d i h ∙ ap (λ (n : ℕ). map odd (take n d) ++ drop n d) (sym (add-one i))

-- ---- the three keys

pub derived_of : (kmac ra rb t : List ℕ) (a b x y one two three : ℕ) → bits 64 a ≡ bits_of_bytes ra → bits 64 b ≡ bits_of_bytes rb
    → bits 64 x ≡ take 32 (bits 64 a) ++ take 32 (bits 64 b) → bits 64 y ≡ drop 32 (bits 64 a) ++ drop 32 (bits 64 b)
    → Drawn kmac x y one two three → t ≡ bytes 8 one ++ (bytes 8 two ++ bytes 8 three) → map odd t ≡ session_keys kmac ra rb
unfolding session_keys ks1 ks2 ks3 left right
derived_of kmac ra rb t a b x y one two three ea eb ex ey d e =
    let fx : bits 64 x ≡ left ra ++ left rb = ex ∙ ap₂ (λ (s t : List ℕ). take 32 s ++ take 32 t) ea eb in
    let fy : bits 64 y ≡ right ra ++ right rb = ey ∙ ap₂ (λ (s t : List ℕ). drop 32 s ++ drop 32 t) ea eb in
    let k1 = block kmac 0 in
    let k2 = block kmac 1 in
    let k3 = block kmac 2 in
    ap (map odd)
    (e ∙ ap₂ (λ (s t : List ℕ). s ++ t) (sym (bytes_bits 8 one) ∙ ap (bytes_of_bits 8) (d.first ∙ ap (triple k1 k2 k3) fx))
    (ap₂ (λ (s t : List ℕ). s ++ t) (sym (bytes_bits 8 two) ∙ ap (bytes_of_bits 8) (d.second ∙ ap (triple k1 k2 k3) fy))
    (sym (bytes_bits 8 three) ∙ ap (bytes_of_bits 8) (d.third ∙ ap (triple k3 k2 k1) fx))))

pub length-keys : (kmac ra rb : List ℕ) → length (session_keys kmac ra rb) ≡ 24
unfolding session_keys
length-keys kmac ra rb =
    let a = bytes_of_bits 8 (ks1 kmac ra rb) in
    let b = bytes_of_bits 8 (ks2 kmac ra rb) in
    let c = bytes_of_bits 8 (ks3 kmac ra rb) in
    length-map (a ++ (b ++ c)) odd
    ∙ omega (
      arith,
      length-append a (b ++ c),
      length-append b c,
      length-bytes_of_bits 8 (ks1 kmac ra rb),
      length-bytes_of_bits 8 (ks2 kmac ra rb),
      length-bytes_of_bits 8 (ks3 kmac ra rb),
    )
