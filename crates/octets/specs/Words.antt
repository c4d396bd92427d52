-- Lists of numbers of four bytes.
-- Assumes nothing.
use Rattle.std.specs.Prelude.{Bool, false, ◌||◌, List, [], ◌∷◌, ◌++◌, ℕ, zero, suc, ◌+◌, eqb}
use Rattle.octets.specs.Bytes.{get32, be32}

-- the n numbers of four bytes from index i
unfoldable pub numbers : List ℕ → ℕ → ℕ → List ℕ
numbers s i zero = []
numbers s i (suc n) = get32 s i ∷ numbers s (i + 4) n

-- the bytes of a list of numbers, four for each
unfoldable pub words : List ℕ → List ℕ
words [] = []
words (x ∷ xs) = be32 x ++ words xs

-- x is one of the list
unfoldable pub elem : ℕ → List ℕ → Bool
elem x [] = false
elem x (y ∷ ys) = eqb y x || elem x ys
