-- Steps by which the code moves bits of a word, on numbers.
-- Assumes nothing.
use Rattle.std.specs.Prelude.{List, [], ◌∷◌, ℕ, ◌-◌, ◌*◌, ◌/◌, ◌%◌, ◌^◌}
use Rattle.std.specs.Int.Bits.{bit_and, bit_xor}

-- where the bits that m names differ from those d places above them
abbrev pub apart : ℕ → ℕ → ℕ → ℕ
apart d m x = bit_and (bit_xor (x / 2 ^ d) x) m

-- the bits that m names exchanged with those d places above them
unfoldable pub exchange_bits : ℕ → ℕ → ℕ → ℕ
exchange_bits d m x = bit_xor (bit_xor x (apart d m x)) (apart d m x * 2 ^ d % 2 ^ 64)

-- the bits that `high` names n places up, or down, and those that `low` names where they are
unfoldable pub spread_parts : ℕ → ℕ → ℕ → ℕ → ℕ
spread_parts high n low x = bit_xor (bit_and x high * 2 ^ n % 2 ^ 64) (bit_and x low)

unfoldable pub gather_parts : ℕ → ℕ → ℕ → ℕ → ℕ
gather_parts high n low x = bit_xor (bit_and x high / 2 ^ n) (bit_and x low)

-- the bits that `high` names n places up, and those that `low` names round to the other end of 28 bits
unfoldable pub shift_parts : ℕ → ℕ → ℕ → ℕ → ℕ
shift_parts n high low cd = bit_xor (bit_and (cd * 2 ^ n % 2 ^ 64) high) (bit_and (cd / 2 ^ (28 - n)) low)

-- the middle four of each group of six: what E makes of 32 bits, read back
unfoldable pub middle : List ℕ
middle =
    2 ∷ 3 ∷ 4 ∷ 5 ∷ 8 ∷ 9 ∷ 10 ∷ 11 ∷
    14 ∷ 15 ∷ 16 ∷ 17 ∷ 20 ∷ 21 ∷ 22 ∷ 23 ∷
    26 ∷ 27 ∷ 28 ∷ 29 ∷ 32 ∷ 33 ∷ 34 ∷ 35 ∷
    38 ∷ 39 ∷ 40 ∷ 41 ∷ 44 ∷ 45 ∷ 46 ∷ 47 ∷ []
