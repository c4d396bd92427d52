-- Laws of a number behind a prefix, and of lists of numbers of four bytes.
-- Assumes nothing.
use mathlib.Core.Path.{◌≡◌, refl, sym, ap, ◌∙◌}
use mathlib.Core.Bool.{◌||◌}
use mathlib.Core.List.{List, [], ◌∷◌, ◌++◌, append_assoc}
use Prim.Native.Nat.{ℕ, zero, suc, ◌+◌, ◌-◌, ◌*◌, ◌/◌, ◌%◌, ◌≤◌, ◌<◌}
use native.Mathlib.Nat.{add-zero}
use native.Mathlib.Omega.{arith}
use lib.ListN.{length, get_or, length-append}
use lib.Seq.{get_or-append-add}
use lib.Dec.{eqb}
use Rattle.octets.specs.Bytes.{Bytes, get16, get32, be16, be32, part}
use Rattle.octets.specs.Words.{numbers, words, elem}
use Rattle.octets.proofs.PartLaws.{part_none, part-add}
use Rattle.octets.proofs.NumberLaws.{part-be32}

pub join : {x y z w : List ℕ} → x ≡ y → z ≡ w → x ++ z ≡ y ++ w
join {x} {y} {z} {w} p q = ap (λ (r : List ℕ). r ++ z) p ∙ ap (λ (r : List ℕ). y ++ r) q

-- a part, cut in two at j
pub part_cut : (s : List ℕ) (i n m j k : ℕ) → i + n ≡ j → n + m ≡ k → part s i k ≡ part s i n ++ part s j m
part_cut s i n m j k p q =
    ap (λ (x : ℕ). part s i x) (sym q) ∙ part-add s i n m ∙ ap (λ (x : ℕ). part s i n ++ part s x m) p

-- ---- one number

pub get16-fits : (s : List ℕ) → Bytes s → (i : ℕ) → get16 s i < 65536
get16-fits s b i = omega (arith, b i, b (i + 1))

pub get32-fits : (s : List ℕ) → Bytes s → (i : ℕ) → get32 s i < 4294967296
get32-fits s b i = omega (arith, b i, b (i + 1), b (i + 2), b (i + 3))

-- two bytes hold what is left of a number below 65,536
pub be16_mod : (v : ℕ) → be16 (v % 65536) ≡ be16 v
be16_mod v =
    let e : v % 65536 / 256 % 256 ≡ v / 256 % 256 = omega arith in
    let f : v % 65536 % 256 ≡ v % 256 = omega arith in
    rw (e, f)

-- what stands behind a prefix
past : (a c : List ℕ) (i k : ℕ) → length a ≡ i → get_or (a ++ c) (i + k) 0 ≡ get_or c k 0
past a c i k e = ap (λ (x : ℕ). get_or (a ++ c) (x + k) 0) (sym e) ∙ get_or-append-add a c k 0

pub get16-be16 : (a c : List ℕ) (v i : ℕ) → length a ≡ i → v < 65536 → get16 (a ++ (be16 v ++ c)) i ≡ v
get16-be16 a c v i e h =
    let s : List ℕ = a ++ (be16 v ++ c) in
    let p : get_or s i 0 ≡ v / 256 % 256 = ap (λ (x : ℕ). get_or s x 0) (sym (add-zero i)) ∙ past a (be16 v ++ c) i 0 e in
    let q : get_or s (i + 1) 0 ≡ v % 256 = past a (be16 v ++ c) i 1 e in
    ap (λ (x : ℕ). x * 256 + get_or s (i + 1) 0) p ∙ ap (λ (x : ℕ). v / 256 % 256 * 256 + x) q ∙ omega arith

digit : (x : ℕ) → x ≡ x / 256 * 256 + x % 256
digit x = omega arith

-- a number below 2 ^ 32 is the sum of its four bytes
sum_of_bytes : (v : ℕ) → v < 4294967296 → v / 16777216 % 256 * 16777216 + v / 65536 % 256 * 65536 + v / 256 % 256 * 256 + v % 256 ≡ v
sum_of_bytes v h =
    let two : v / 65536 ≡ v / 256 / 256 = omega arith in
    let three : v / 16777216 ≡ v / 65536 / 256 = omega arith in
    let top : v / 16777216 % 256 ≡ v / 16777216 = omega arith in
    let d1 : v ≡ v / 256 * 256 + v % 256 = digit v in
    let d2 : v / 256 ≡ v / 65536 * 256 + v / 256 % 256 = digit (v / 256) ∙ ap (λ (x : ℕ). x * 256 + v / 256 % 256) (sym two) in
    let d3 : v / 65536 ≡ v / 16777216 * 256 + v / 65536 % 256 = digit (v / 65536) ∙ ap (λ (x : ℕ). x * 256 + v / 65536 % 256) (sym three) in
    sum v (v / 256) (v / 65536) (v / 16777216) (v % 256) (v / 256 % 256) (v / 65536 % 256) (v / 16777216 % 256) d1 d2 d3 top
  where
    sum : (w x y z a b c d : ℕ) → w ≡ x * 256 + a → x ≡ y * 256 + b → y ≡ z * 256 + c → d ≡ z → d * 16777216 + c * 65536 + b * 256 + a ≡ w
    sum w x y z a b c d p q r t = omega arith

pub get32-be32 : (a c : List ℕ) (v i : ℕ) → length a ≡ i → v < 4294967296 → get32 (a ++ (be32 v ++ c)) i ≡ v
get32-be32 a c v i e h =
    let s : List ℕ = a ++ (be32 v ++ c) in
    let p0 : get_or s i 0 ≡ v / 16777216 % 256 = ap (λ (x : ℕ). get_or s x 0) (sym (add-zero i)) ∙ past a (be32 v ++ c) i 0 e in
    let p1 : get_or s (i + 1) 0 ≡ v / 65536 % 256 = past a (be32 v ++ c) i 1 e in
    let p2 : get_or s (i + 2) 0 ≡ v / 256 % 256 = past a (be32 v ++ c) i 2 e in
    let p3 : get_or s (i + 3) 0 ≡ v % 256 = past a (be32 v ++ c) i 3 e in
    rw (p0, p1, p2, p3) (sum_of_bytes v h)

-- ---- lists of numbers

pub length-numbers : (s : List ℕ) (i n : ℕ) → length (numbers s i n) ≡ n
unfolding numbers
length-numbers s i zero = refl
length-numbers s i (suc n) = ap suc (length-numbers s (i + 4) n)

pub numbers_fit : (s : List ℕ) → Bytes s → (n i k : ℕ) → get_or (numbers s i n) k 0 < 4294967296
unfolding numbers
numbers_fit s b zero i k = omega arith
numbers_fit s b (suc n) i zero = get32-fits s b i
numbers_fit s b (suc n) i (suc k) = numbers_fit s b n (i + 4) k

pub length-words : (xs : List ℕ) → length (words xs) ≡ 4 * length xs
unfolding words
length-words [] = refl
length-words (x ∷ xs) = omega (arith, length-words xs)

pub words_append : (xs ys : List ℕ) → words (xs ++ ys) ≡ words xs ++ words ys
unfolding words
words_append [] ys = refl
words_append (x ∷ xs) ys = ap (λ (r : List ℕ). be32 x ++ r) (words_append xs ys)

-- a part is the bytes of its numbers
pub part-words : (s : List ℕ) → Bytes s → (n i : ℕ) → i + 4 * n ≤ length s → part s i (4 * n) ≡ words (numbers s i n)
unfolding words numbers
part-words s b zero i h = part_none s i
part-words s b (suc n) i h =
    part_cut s i 4 (4 * n) (i + 4) (4 * suc n) refl (omega arith) ∙ join (part-be32 s i b (omega arith)) (part-words s b n (i + 4) (omega arith))

pub numbers-words : (xs a c : List ℕ) (i : ℕ) → length a ≡ i → ((k : ℕ) → k < length xs → get_or xs k 0 < 4294967296)
    → numbers (a ++ (words xs ++ c)) i (length xs) ≡ xs
unfolding numbers words
numbers-words [] a c i e h = refl
numbers-words (x ∷ xs) a c i e h =
    let s : List ℕ = a ++ (be32 x ++ (words xs ++ c)) in
    let v : get32 s i ≡ x = get32-be32 a (words xs ++ c) x i e (h 0 (omega arith)) in
    let t : s ≡ (a ++ be32 x) ++ (words xs ++ c) = sym (append_assoc a (be32 x) (words xs ++ c)) in
    ap (λ (y : ℕ). y ∷ numbers s (i + 4) (length xs)) v
    ∙ ap (λ (y : List ℕ). x ∷ y)
    (ap (λ (y : List ℕ). numbers y (i + 4) (length xs)) t
    ∙ numbers-words xs (a ++ be32 x) c (i + 4) (length-append a (be32 x) ∙ ap (λ (y : ℕ). y + 4) e) (λ k l. h (suc k) (omega arith)))

-- a turn of the loop that looks for x among n numbers, the first k passed and the next at index i
module _ (x : ℕ) (s : List ℕ) (i n k : ℕ) where
  elem_open : k < n → elem x (numbers s i (n - k)) ≡ (eqb (get32 s i) x || elem x (numbers s (i + 4) (n - (k + 1))))
  unfolding elem numbers
  elem_open h = let e : n - k ≡ suc (n - (k + 1)) = omega arith in ap (λ (y : ℕ). elem x (numbers s i y)) e
