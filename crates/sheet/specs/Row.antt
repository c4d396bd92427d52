-- The lines that are written (change request 14), each with its line end.
-- Assumes nothing.
use Rattle.std.specs.Prelude.{cond, List, [], ◌∷◌, ◌++◌, ℕ, zero, suc, ◌/◌, ltb}
use Rattle.io.specs.Digits.{last_digits}
use Rattle.depot.specs.declared.Tally.{Tally}

-- ---- numbers

-- how many decimal digits a number has: one, and one more for each time that it can be divided by ten, `more` times at most
unfoldable pub places_in : ℕ → ℕ → ℕ
places_in zero n = 1
places_in (suc more) n = cond (ltb n 10) 1 (suc (places_in more (n / 10)))

-- a number of four bytes has ten at most
abbrev pub places_of : ℕ → ℕ
places_of n = places_in 9 n

unfoldable pub decimal : ℕ → List ℕ
decimal n = last_digits 10 (places_of n) n

-- a space and a number
unfoldable pub field : ℕ → List ℕ
field n = 32 ∷ decimal n

unfoldable pub fields : List ℕ → List ℕ
fields [] = []
fields (n ∷ ns) = field n ++ fields ns

-- held, fit, ended, early, reversed, peers: the order of the heading
abbrev pub numbers_of : Tally → List ℕ
numbers_of c = c.held ∷ c.classes.fit ∷ c.classes.ended ∷ c.classes.early ∷ c.classes.reversed ∷ c.peers ∷ []

-- ---- lines

-- the longest: a name of 255 bytes, six numbers of ten digits with a space before each, and the line end
abbrev pub longest : ℕ
longest = 322

-- NAME and the six numbers
unfoldable pub row : List ℕ → Tally → List ℕ
row name c = name ++ (fields (numbers_of c) ++ (10 ∷ []))

-- "bad"
abbrev pub bad : List ℕ
bad = 98 ∷ 97 ∷ 100 ∷ 10 ∷ []

-- NAME bad
unfoldable pub bad_row : List ℕ → List ℕ
bad_row name = name ++ (32 ∷ bad)

-- "file held fit ended early reversed peers"
abbrev pub heading : List ℕ
heading =
    102 ∷ 105 ∷ 108 ∷ 101
    ∷ 32 ∷ 104 ∷ 101 ∷ 108 ∷ 100
    ∷ 32 ∷ 102 ∷ 105 ∷ 116
    ∷ 32 ∷ 101 ∷ 110 ∷ 100 ∷ 101 ∷ 100
    ∷ 32 ∷ 101 ∷ 97 ∷ 114 ∷ 108 ∷ 121
    ∷ 32 ∷ 114 ∷ 101 ∷ 118 ∷ 101 ∷ 114 ∷ 115 ∷ 101 ∷ 100
    ∷ 32 ∷ 112 ∷ 101 ∷ 101 ∷ 114 ∷ 115 ∷ 10 ∷ []

-- "bad moment"
abbrev pub bad_moment : List ℕ
bad_moment = 98 ∷ 97 ∷ 100 ∷ 32 ∷ 109 ∷ 111 ∷ 109 ∷ 101 ∷ 110 ∷ 116 ∷ 10 ∷ []

-- "sum too large"
abbrev pub sum_too_large : List ℕ
sum_too_large = 115 ∷ 117 ∷ 109 ∷ 32 ∷ 116 ∷ 111 ∷ 111 ∷ 32 ∷ 108 ∷ 97 ∷ 114 ∷ 103 ∷ 101 ∷ 10 ∷ []

-- "sum", and the six sums
abbrev pub sum_row : Tally → List ℕ
sum_row c = row (115 ∷ 117 ∷ 109 ∷ []) c
