-- Digits in ASCII: what each stands for, the number and the bytes that a text of them stands for, and bytes as a text.
-- Assumes nothing.
use Rattle.std.specs.Prelude.{Bool, List, [], ◌∷◌, Option, Some, None, ◌≡◌, ℕ, ◌+◌, ◌-◌, ◌*◌, ◌/◌, ◌%◌, ◌<◌, ◌^◌, nat_lt, length, if◌then◌else◌}
use Rattle.std.specs.Option.{unwrap_or}
use Rattle.std.specs.List.{list_all}
use Rattle.octets.specs.Bytes.{between, splice}
use Rattle.io.specs.Counts.{IsPrefixLen}

-- ---- digits

-- 0 to 9 are 48 to 57, A to F are 65 to 70, a to f are 97 to 102
unfoldable pub digit : ℕ → Option ℕ
digit b =
    if between 48 57 b then Some (b - 48)
    else (if between 65 70 b then Some (b - 65 + 10) else (if between 97 102 b then Some (b - 97 + 10) else None))

-- what a byte is worth as a digit; 16, more than any digit, where it is none
abbrev pub worth : ℕ → ℕ
worth b = unwrap_or (digit b) 16

-- a byte is a digit in the base
abbrev pub is_digit : ℕ → ℕ → Bool
is_digit base b = nat_lt (worth b) base

-- every element is a digit in the base
unfoldable pub are_digits : ℕ → List ℕ → Bool
are_digits base s = list_all (is_digit base) s

-- the digit of a value below 16, in lower case
unfoldable pub glyph : ℕ → ℕ
glyph x = if nat_lt x 10 then 48 + x else 87 + x

-- ---- texts of digits

-- the number of a text in a base, where the digits before it stand for r
unfoldable pub numeral : ℕ → ℕ → List ℕ → ℕ
numeral base r [] = r
numeral base r (b ∷ s) = numeral base (r * base + worth b) s

-- the bytes of a text, two digits for each
unfoldable pub from_hex : List ℕ → List ℕ
from_hex [] = []
from_hex (a ∷ []) = []
from_hex (a ∷ b ∷ s) = (worth a * 16 + worth b) ∷ from_hex s

-- the bytes of a text in hex; none where one of its elements is no digit
unfoldable pub bytes_of : List ℕ → List ℕ
bytes_of s = if are_digits 16 s then from_hex s else []

-- bytes as a text, two digits for each
unfoldable pub to_hex : List ℕ → List ℕ
to_hex [] = []
to_hex (x ∷ s) = glyph (x / 16) ∷ glyph (x % 16) ∷ to_hex s

-- ---- what is promised

-- r is the number of a text
pub record Numbers (base : ℕ) (s : List ℕ) (r : ℕ) : Type 0 where
  pub is : r ≡ numeral base 0 s
  pub below : r < 2 ^ (4 * length s)

-- v is written to the front of d, and r counts it
pub record Puts (v d d' : List ℕ) (r : ℕ) : Type 0 where
  pub written : d' ≡ splice d 0 v
  pub many : r ≡ length v
  pub counts : IsPrefixLen r d'
