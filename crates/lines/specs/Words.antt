-- The words of a line: what stands between blanks.
-- Assumes nothing.
use Rattle.std.specs.Prelude.{Bool, ◌||◌, not, List, [], ◌∷◌, ◌≡◌, ℕ, zero, suc, ◌+◌, ◌-◌, ◌≤◌, ◌==◌, length, drop, if◌then◌else◌}
use Rattle.octets.specs.Bytes.{part}
use Rattle.lines.specs.declared.words.Class.{Class}
use Rattle.lines.specs.declared.words.Class.TheVariants.{LineEnd, Blank, Letter}

-- a space, a tab or a carriage return
abbrev pub is_blank : ℕ → Bool
is_blank b = b == 32 || (b == 9 || b == 13)

abbrev pub in_class : Class → ℕ → Bool
in_class LineEnd b = b == 10
in_class Blank b = is_blank b
in_class Letter b = not (is_blank b)

-- how many elements stand before the first of a class
unfoldable pub before : Class → List ℕ → ℕ
before c [] = 0
before c (b ∷ s) = if in_class c b then 0 else suc (before c s)

-- the index of the first element of a class from index i on; where there is none, the length
unfoldable pub first_from : Class → List ℕ → ℕ → ℕ
first_from c s i = i + before c (drop i s)

-- r is that index
pub record First (c : Class) (s : List ℕ) (i r : ℕ) : Type 0 where
  pub is : r ≡ first_from c s i
  pub least : i ≤ r
  pub most : r ≤ length s

-- where word k starts, the first being 0, and where it ends
unfoldable pub word_start : List ℕ → ℕ → ℕ
word_start s zero = first_from Letter s 0
word_start s (suc k) = first_from Letter s (first_from Blank s (word_start s k))

abbrev pub word_end : List ℕ → ℕ → ℕ
word_end s k = first_from Blank s (word_start s k)

-- word k; empty where there are fewer
unfoldable pub word : List ℕ → ℕ → List ℕ
word s k = part s (word_start s k) (word_end s k - word_start s k)
