-- Lists of bytes: big-endian numbers, a part of a list, a list written over from an index, a gap closed or opened.
-- Assumes nothing.
use Rattle.std.specs.List.{list_all}
use Rattle.std.specs.Prelude.{Bool, true, false, ◌&&◌, not, List, [], ◌∷◌, ◌++◌, ℕ, zero, suc, ◌+◌, ◌*◌, ◌/◌, ◌%◌, ◌<◌, eqb, leb, get_or, take, drop, length, replicate}

-- each element is a byte
abbrev pub Bytes : List ℕ → Type 0
Bytes s = (i : ℕ) → get_or s i 0 < 256

-- ---- numbers, the most significant byte first

-- the number in the two bytes, and in the four, from index i
abbrev pub get16 : List ℕ → ℕ → ℕ
get16 s i = get_or s i 0 * 256 + get_or s (i + 1) 0

abbrev pub get32 : List ℕ → ℕ → ℕ
get32 s i = get_or s i 0 * 16777216 + get_or s (i + 1) 0 * 65536 + get_or s (i + 2) 0 * 256 + get_or s (i + 3) 0

-- the number in the n bytes from index i; of an element the lowest eight bits count
unfoldable pub number : ℕ → List ℕ → ℕ → ℕ
number zero s i = 0
number (suc n) s i = number n s i * 256 + get_or s (i + n) 0 % 256

-- the lowest two bytes of a number, and the lowest four
abbrev pub be16 : ℕ → List ℕ
be16 v = v / 256 % 256 ∷ v % 256 ∷ []

abbrev pub be32 : ℕ → List ℕ
be32 v = v / 16777216 % 256 ∷ v / 65536 % 256 ∷ v / 256 % 256 ∷ v % 256 ∷ []

-- the lowest n bytes of a number
unfoldable pub bytes : ℕ → ℕ → List ℕ
bytes zero v = []
bytes (suc n) v = bytes n (v / 256) ++ (v % 256 ∷ [])

-- ---- parts, and lists written over

-- the n elements from index i
unfoldable pub part : List ℕ → ℕ → ℕ → List ℕ
part s i n = take n (drop i s)

-- d, with what stands from index i on replaced by v
unfoldable pub splice : List ℕ → ℕ → List ℕ → List ℕ
splice d i v = take i d ++ (v ++ drop (i + length v) d)

-- d, with the gap at index i taken out, the n bytes behind it moved up, and what falls free zero
unfoldable pub closed : List ℕ → ℕ → ℕ → ℕ → List ℕ
closed d i gap n = splice d i (part d (i + gap) n ++ replicate gap 0)

-- d, with the n bytes at index i moved on by a gap, in which the old bytes stay
unfoldable pub opened : List ℕ → ℕ → ℕ → ℕ → List ℕ
opened d i gap n = splice d (i + gap) (part d i n)

-- ---- tests

-- a byte as no or yes: 0 is no, and any other byte yes
abbrev pub nonzero : ℕ → Bool
nonzero b = not (eqb b 0)

-- a number lies between two bounds, or is one of them
abbrev pub between : ℕ → ℕ → ℕ → Bool
between low high n = leb low n && leb n high

-- every element is zero
unfoldable pub all_zero : List ℕ → Bool
all_zero s = list_all (λ x. eqb x 0) s

-- two lists are the same
unfoldable pub same : List ℕ → List ℕ → Bool
same [] [] = true
same [] (y ∷ ys) = false
same (x ∷ xs) [] = false
same (x ∷ xs) (y ∷ ys) = eqb x y && same xs ys

-- p holds of each number below n
unfoldable pub all_below : ℕ → (ℕ → Bool) → Bool
all_below zero p = true
all_below (suc n) p = all_below n p && p n
