-- Bytes, the bits of bytes, and the words that hold them.
-- Assumes nothing.
use mathlib.Core.Path.{◌≡◌, refl, sym, ap, ap₂, ◌∙◌}
use mathlib.Core.List.{List, [], ◌∷◌, ◌++◌, append_assoc, append-nil}
use Prim.Native.Nat.{ℕ, zero, suc, ◌+◌, ◌*◌, ◌/◌, ◌%◌, ◌^◌, ◌≤◌, ◌<◌}
use native.Mathlib.Nat.{mod-lt}
use native.Mathlib.Numerals.{add-one}
use native.Mathlib.Omega.{arith}
use lib.Dec.{lit<}
use lib.ListN.{length, get_or, take, drop, length-append, length-take, length-drop, take-append-drop, drop_of_length-le}
use lib.Seq.{take_at, drop_at, take-append-le, drop-append-le}
use Rattle.octets.specs.Bytes.{Bytes, part, number, bytes}
use Rattle.octets.proofs.PartLaws.{part_snoc}
use Rattle.des.specs.Bits.{bits, value, bits_of_bytes, bytes_of_bits}
use Rattle.des.specs.Claims.{Block8}
use Rattle.des.proofs.BitLaws.{length-bits, split-bits, join-bits, mod_bits, value-bits}
use Rattle.des.proofs.BlockLaws.{Small, Block, small-nil, small-append, small-take, small-drop, small-bits, value-high, bits-value}

length-bits_of_bytes : (b : List ℕ) → length (bits_of_bytes b) ≡ 8 * length b
unfolding bits_of_bytes
length-bits_of_bytes [] = refl
length-bits_of_bytes (x ∷ b) = omega (arith, length-append (bits 8 x) (bits_of_bytes b), length-bits 8 x, length-bits_of_bytes b)

small_bytes : (b : List ℕ) → Small (bits_of_bytes b)
unfolding bits_of_bytes
small_bytes [] = small-nil
small_bytes (x ∷ b) = small-append (bits 8 x) (bits_of_bytes b) (small-bits 8 x) (small_bytes b)

pub block_of_bytes : (b : List ℕ) → Block8 b → Block 64 (bits_of_bytes b)
block_of_bytes b h = record { long = omega (arith, h.eight, length-bits_of_bytes b); small = small_bytes b }

-- ---- there and back

pub bytes_of_bits_lem : (b : List ℕ) → Bytes b → bytes_of_bits (length b) (bits_of_bytes b) ≡ b
unfolding bits_of_bytes bytes_of_bits
bytes_of_bits_lem [] h = refl
bytes_of_bits_lem (x ∷ b) h =
    let x8 : x < 256 = h zero in
    let m : x % 256 ≡ x = omega arith in
    ap₂ (λ (z : ℕ) (zs : List ℕ). z ∷ zs)
    (ap value (take_at (bits 8 x) (bits_of_bytes b) 8 (length-bits 8 x)) ∙ value-bits 8 x ∙ m)
    (ap (bytes_of_bits (length b)) (drop_at (bits 8 x) (bits_of_bytes b) 8 (length-bits 8 x)) ∙ bytes_of_bits_lem b (λ i. h (suc i)))

pub bits_of_bytes_lem : (n : ℕ) (bs : List ℕ) → length bs ≡ 8 * n → Small bs → bits_of_bytes (bytes_of_bits n bs) ≡ bs
unfolding bits_of_bytes bytes_of_bits
bits_of_bytes_lem zero bs h s =
    let l : length bs ≤ 0 = omega arith in
    sym (drop_of_length-le bs l)
bits_of_bytes_lem (suc n) bs h s =
    let t8 : length (take 8 bs) ≡ 8 = omega (arith, length-take 8 bs) in
    let d8 : length (drop 8 bs) ≡ 8 * n = omega (arith, length-drop 8 bs) in
    ap₂ (λ (x y : List ℕ). x ++ y)
    (ap (λ (w : ℕ). bits w (value (take 8 bs))) (sym t8) ∙ bits-value (take 8 bs) (small-take 8 bs s))
    (bits_of_bytes_lem n (drop 8 bs) d8 (small-drop 8 bs s))
    ∙ take-append-drop 8 bs

pub byte_values : (n : ℕ) (bs : List ℕ) → length bs ≡ 8 * n → Small bs → Bytes (bytes_of_bits n bs)
unfolding bytes_of_bits value
byte_values zero bs h s i = lit< tt
byte_values (suc n) bs h s zero =
    let t8 : length (take 8 bs) ≡ 8 = omega (arith, length-take 8 bs) in
    let q : value (take 8 bs) / 256 ≡ 0 = ap (λ (k : ℕ). value (take 8 bs) / 2 ^ k) (sym t8) ∙ value-high 0 (take 8 bs) (small-take 8 bs s) in
    omega arith
byte_values (suc n) bs h s (suc i) = byte_values n (drop 8 bs) (omega (arith, length-drop 8 bs)) (small-drop 8 bs s) i

-- ---- a word that holds bytes

bits_of_bytes-append : (s t : List ℕ) → bits_of_bytes (s ++ t) ≡ bits_of_bytes s ++ bits_of_bytes t
unfolding bits_of_bytes
bits_of_bytes-append [] t = refl
bits_of_bytes-append (x ∷ s) t = ap (λ (l : List ℕ). bits 8 x ++ l) (bits_of_bytes-append s t) ∙ sym (append_assoc (bits 8 x) (bits_of_bytes s) (bits_of_bytes t))

bits-byte : (x : ℕ) → bits_of_bytes (x ∷ []) ≡ bits 8 (x % 256)
unfolding bits_of_bytes
bits-byte x = append-nil (bits 8 x) ∙ sym (mod_bits 8 x)

pub bits-number : (n : ℕ) (s : List ℕ) (i : ℕ) → i + n ≤ length s → bits (8 * n) (number n s i) ≡ bits_of_bytes (part s i n)
unfolding bits bits_of_bytes number part
bits-number zero s i h = refl
bits-number (suc n) s i h =
    let e : 8 * suc n ≡ 8 * n + 8 = omega arith in
    let x = get_or s (i + n) 0 in
    ap (λ (k : ℕ). bits k (number n s i * 256 + x % 256)) e
    ∙ join-bits (8 * n) 8 (number n s i) (x % 256) (mod-lt x (lit< tt))
    ∙ ap₂ (λ (u v : List ℕ). u ++ v) (bits-number n s i (omega arith)) (sym (bits-byte x))
    ∙ sym (bits_of_bytes-append (part s i n) (x ∷ []))
    ∙ ap bits_of_bytes (sym (part_snoc s i n (omega arith)) ∙ ap (part s i) (add-one n))

pub length-bytes_of_bits : (n : ℕ) (bs : List ℕ) → length (bytes_of_bits n bs) ≡ n
unfolding bytes_of_bits
length-bytes_of_bits zero bs = refl
length-bytes_of_bits (suc n) bs = ap suc (length-bytes_of_bits n (drop 8 bs))

-- the bytes of the bits before the last eight, and a byte more
bytes_of_bits_snoc : (n : ℕ) (a b : List ℕ) → length a ≡ 8 * n → length b ≡ 8 → bytes_of_bits (suc n) (a ++ b) ≡ bytes_of_bits n a ++ (value b ∷ [])
unfolding bytes_of_bits
bytes_of_bits_snoc zero a b la lb =
    let n : length a ≤ 0 = omega arith in
    let e : a ≡ [] = drop_of_length-le a n in
    ap (λ (l : List ℕ). value (take 8 (l ++ b)) ∷ []) e ∙ ap (λ (l : List ℕ). value l ∷ []) (ap (take 8) (sym (append-nil b)) ∙ take_at b [] 8 lb)
bytes_of_bits_snoc (suc n) a b la lb =
    let l : 8 ≤ length a = omega arith in
    let r : length (drop 8 a) ≡ 8 * n = omega (arith, length-drop 8 a) in
    ap₂ (λ (x : List ℕ) (y : List ℕ). value x ∷ bytes_of_bits (suc n) y) (take-append-le 8 a b l) (drop-append-le 8 a b l)
    ∙ ap (λ (y : List ℕ). value (take 8 a) ∷ y) (bytes_of_bits_snoc n (drop 8 a) b r lb)

pub bytes_bits : (n v : ℕ) → bytes_of_bits n (bits (8 * n) v) ≡ bytes n v
unfolding bytes_of_bits bytes
bytes_bits zero v = refl
bytes_bits (suc n) v =
    let e : 8 * suc n ≡ 8 * n + 8 = omega arith in
    ap (λ (k : ℕ). bytes_of_bits (suc n) (bits k v)) e
    ∙ ap (bytes_of_bits (suc n)) (split-bits (8 * n) 8 v)
    ∙ bytes_of_bits_snoc n (bits (8 * n) (v / 256)) (bits 8 v) (length-bits (8 * n) (v / 256)) (length-bits 8 v)
    ∙ ap₂ (λ (x : List ℕ) (y : ℕ). x ++ (y ∷ [])) (bytes_bits n (v / 256)) (value-bits 8 v)
