-- Laws of big-endian numbers.
-- Assumes nothing.
use mathlib.Core.Path.{◌≡◌, refl, sym, ap, ◌∙◌, subst, subst⁻¹}
use mathlib.Core.List.{List, [], ◌∷◌, ◌++◌}
use Prim.Native.Nat.{ℕ, zero, suc, ◌+◌, ◌*◌, ◌/◌, ◌%◌, ◌^◌, ◌≤◌, ◌<◌}
use native.Mathlib.Nat.{add_assoc}
use native.Mathlib.Numerals.{add-one}
use native.Mathlib.Omega.{arith}
use lib.Arith.{digits_lt}
use lib.Pow.{pow-add, pow_mono, shr_lt}
use Rattle.std.specs.Int.{w64, to_be_bytes, from_be_bytes}
use lib.ListN.{length, get_or, take, drop, length-append}
use lib.Seq.{take_at, drop_at}
use Rattle.octets.specs.Bytes.{Bytes, get16, get32, be16, be32, number, bytes, part}
use Rattle.octets.proofs.PartLaws.{part-cons, part_none, part_snoc, part_at}

-- ---- two bytes and four

pub be16_of : (a b : ℕ) → a < 256 → b < 256 → be16 (a * 256 + b) ≡ a ∷ b ∷ []
be16_of a b p q =
    let e : (a * 256 + b) / 256 % 256 ≡ a = omega arith in
    let f : (a * 256 + b) % 256 ≡ b = omega arith in
    rw (e, f)

pub be32_of : (a b c d : ℕ) → a < 256 → b < 256 → c < 256 → d < 256
    → be32 (a * 16777216 + b * 65536 + c * 256 + d) ≡ a ∷ b ∷ c ∷ d ∷ []
be32_of a b c d p q r t =
    let e : (a * 16777216 + b * 65536 + c * 256 + d) / 16777216 % 256 ≡ a = omega arith in
    let f : (a * 16777216 + b * 65536 + c * 256 + d) / 65536 % 256 ≡ b = omega arith in
    let g : (a * 16777216 + b * 65536 + c * 256 + d) / 256 % 256 ≡ c = omega arith in
    let h : (a * 16777216 + b * 65536 + c * 256 + d) % 256 ≡ d = omega arith in
    rw (e, f, g, h)

pub part-be16 : (s : List ℕ) (i : ℕ) → Bytes s → i + 2 ≤ length s → part s i 2 ≡ be16 (get16 s i)
part-be16 s i b h =
    let h0 : i < length s = omega arith in
    let h1 : i + 1 < length s = omega arith in
    part-cons s i 1 h0 ∙ ap (λ (r : List ℕ). get_or s i 0 ∷ r) (part-cons s (i + 1) 0 h1 ∙ ap (λ (r : List ℕ). get_or s (i + 1) 0 ∷ r) (part_none s _))
    ∙ sym (be16_of (get_or s i 0) (get_or s (i + 1) 0) (b i) (b (i + 1)))

pub part-be32 : (s : List ℕ) (i : ℕ) → Bytes s → i + 4 ≤ length s → part s i 4 ≡ be32 (get32 s i)
part-be32 s i b h =
    let h0 : i < length s = omega arith in
    let h1 : i + 1 < length s = omega arith in
    let h2 : i + 2 < length s = omega arith in
    let h3 : i + 3 < length s = omega arith in
    part-cons s i 3 h0
    ∙ ap (λ (r : List ℕ). get_or s i 0 ∷ r)
    (rw (add_assoc i 1 1) at (part-cons s (i + 1) 2 h1)
    ∙ ap (λ (r : List ℕ). get_or s (i + 1) 0 ∷ r)
    (rw (add_assoc i 2 1) at (part-cons s (i + 2) 1 h2)
    ∙ ap (λ (r : List ℕ). get_or s (i + 2) 0 ∷ r)
    (part-cons s (i + 3) 0 h3 ∙ ap (λ (r : List ℕ). get_or s (i + 3) 0 ∷ r) (part_none s (i + 3 + 1)))))
    ∙ sym (be32_of (get_or s i 0) (get_or s (i + 1) 0) (get_or s (i + 2) 0) (get_or s (i + 3) 0) (b i) (b (i + 1)) (b (i + 2)) (b (i + 3)))

-- ---- n bytes

pub number_more : (n : ℕ) (s : List ℕ) (i x : ℕ) → x ≡ get_or s (i + n) 0 → x < 256 → number (n + 1) s i ≡ number n s i * 256 + x
unfolding number
number_more n s i x e h =
    let m : get_or s (i + n) 0 % 256 ≡ x = omega arith in
    rw (add-one, m)

-- a number of k bytes, fewer than 8, leaves room for one more in a word; and with it is a number of k + 1 bytes
pub word_room : (k r : ℕ) → k < 8 → r < 2 ^ (8 * k) → r < 2 ^ 56
word_room k r h l =
    let e : 8 * k ≤ 56 = omega arith in
    let m : 2 ^ (8 * k) ≤ 2 ^ 56 = pow_mono e in
    omega arith

pub word-grow : (k r b : ℕ) → r < 2 ^ (8 * k) → b < 256 → r * 256 + b < 2 ^ (8 * (k + 1))
word-grow k r b h l =
    let e : 8 * (k + 1) ≡ 8 * k + 8 = omega arith in
    subst⁻¹ (λ (n : ℕ). r * 256 + b < n) (ap (λ (n : ℕ). 2 ^ n) e ∙ pow-add 2 (8 * k) 8) (digits_lt h l)

pub length-bytes : (n v : ℕ) → length (bytes n v) ≡ n
unfolding bytes
length-bytes zero v = refl
length-bytes (suc n) v = omega (arith, length-append (bytes n (v / 256)) (v % 256 ∷ []), length-bytes n (v / 256))

-- the bytes of the number that n bytes are
pub part_bytes : (n : ℕ) (s : List ℕ) (i : ℕ) → Bytes s → i + n ≤ length s → part s i n ≡ bytes n (number n s i)
unfolding bytes number
part_bytes zero s i b h = part_none s i
part_bytes (suc n) s i b h =
    let x = get_or s (i + n) 0 in
    let l : x < 256 = b (i + n) in
    let m : x % 256 ≡ x = omega arith in
    let q : (number n s i * 256 + x) / 256 ≡ number n s i = omega arith in
    let r : (number n s i * 256 + x) % 256 ≡ x = omega arith in
    ap (part s i) (sym (add-one n)) ∙ part_snoc s i n (omega arith) ∙ ap (λ (l : List ℕ). l ++ (x ∷ [])) (part_bytes n s i b (omega arith))
    ∙ rw (m, q, r)

-- a number of n bytes is that of its bytes alone
pub bytes_one : (n v w : ℕ) → v < 2 ^ (8 * n) → w < 2 ^ (8 * n) → bytes n v ≡ bytes n w → v ≡ w
unfolding bytes
bytes_one zero v w hv hw e = omega arith
bytes_one (suc n) v w hv hw e =
    let a = bytes n (v / 256) in
    let b = bytes n (w / 256) in
    let la : length a ≡ n = length-bytes n (v / 256) in
    let lb : length b ≡ n = length-bytes n (w / 256) in
    let front : a ≡ b = sym (take_at a (v % 256 ∷ []) n la) ∙ ap (take n) e ∙ take_at b (w % 256 ∷ []) n lb in
    let last : v % 256 ≡ w % 256 =
    ap (λ (l : List ℕ). get_or l 0 0) (sym (drop_at a (v % 256 ∷ []) n la) ∙ ap (drop n) e ∙ drop_at b (w % 256 ∷ []) n lb) in
    let s : 8 * suc n ≡ 8 * n + 8 = omega arith in
    let high : v / 256 ≡ w / 256 =
    bytes_one n (v / 256) (w / 256) (shr_lt (8 * n) 8 (subst (λ (k : ℕ). v < 2 ^ k) s hv)) (shr_lt (8 * n) 8 (subst (λ (k : ℕ). w < 2 ^ k) s hw)) front in
    omega arith

-- ---- a word of eight bytes, as the library has it

pub bytes_8 : (v : ℕ) → to_be_bytes w64 v ≡ bytes 8 v
unfolding bytes
bytes_8 v =
    let d2 : v / 256 / 256 ≡ v / 65536 = omega arith in
    let d3 : v / 65536 / 256 ≡ v / 16777216 = omega arith in
    let d4 : v / 16777216 / 256 ≡ v / 4294967296 = omega arith in
    let d5 : v / 4294967296 / 256 ≡ v / 1099511627776 = omega arith in
    let d6 : v / 1099511627776 / 256 ≡ v / 281474976710656 = omega arith in
    let d7 : v / 281474976710656 / 256 ≡ v / 72057594037927936 = omega arith in
    rw (d2, d3, d4, d5, d6, d7)

pub number-8 : (s : List ℕ) (i : ℕ) (w : List ℕ) → Bytes s → w ≡ part s i 8 → from_be_bytes w64 w ≡ number 8 s i
unfolding number
number-8 s i w b e =
    let at : (k : ℕ) → k < 8 → get_or w k 0 ≡ get_or s (i + k) 0 % 256 = λ k h. ap (λ (l : List ℕ). get_or l k 0) e ∙ part_at s i 8 k h ∙ omega (arith, b (i + k)) in
    omega (arith, at 0 (omega arith), at 1 (omega arith), at 2 (omega arith), at 3 (omega arith), at 4 (omega arith), at 5 (omega arith), at 6 (omega arith), at 7 (omega arith))
