-- The input of the report (change request 14): its lines, the moment, and the names of files.
-- Assumes nothing.
use Rattle.std.specs.Prelude.{◌≡◌, Bool, ◌&&◌, not, cond, Option, Some, None, List, [], ◌∷◌, ◌++◌, ℕ, ◌+◌, ◌≤◌, ◌<◌, length, take, drop, eqb, leb}
use Rattle.std.specs.List.{list_any}
use Rattle.lines.specs.Digits.{are_digits, numeral}
use Rattle.lines.specs.Words.{before}
use Rattle.lines.specs.declared.words.Class.TheVariants.{LineEnd}
use Rattle.sheet.specs.declared.input.Cut.{Cut}

-- ---- lines

-- "the last line needs no line end", and a line end at the very end opens no further line
abbrev pub last_line : List ℕ → List (List ℕ)
last_line [] = []
last_line (b ∷ bs) = (b ∷ bs) ∷ []

-- the lines of an input of which the bytes `held` of a line have come before
unfoldable pub lines_from : List ℕ → List ℕ → List (List ℕ)
lines_from held [] = last_line held
lines_from held (b ∷ bs) = cond (eqb b 10) (held ∷ lines_from [] bs) (lines_from (held ++ (b ∷ [])) bs)

abbrev pub lines_of : List ℕ → List (List ℕ)
lines_of input = lines_from [] input

-- ---- the moment

-- "T as eight hex digits of either case"
unfoldable pub moment_of : List ℕ → Option ℕ
moment_of line = cond (eqb (length line) 8 && are_digits 16 line) (Some (numeral 16 0 line)) None

-- ---- names

unfoldable pub has_zero : List ℕ → Bool
has_zero line = list_any (λ b. eqb b 0) line

-- "a name line that is empty, over 255 bytes or holds a zero byte" is none
unfoldable pub is_name : List ℕ → Bool
is_name line = not (eqb (length line) 0) && (leb (length line) 255 && not (has_zero line))

-- ---- an input that comes in chunks, of each line of which the first `room` bytes are held

-- the bytes before the first line end, whether there is one, and the bytes behind it
abbrev pub up_to_end : List ℕ → List ℕ
up_to_end s = take (before LineEnd s) s

abbrev pub has_end : List ℕ → Bool
has_end s = not (leb (length s) (before LineEnd s))

abbrev pub behind_end : List ℕ → List ℕ
behind_end s = drop (before LineEnd s + 1) s

-- what `take_line` promises: `line` holds so many bytes of a line; the chunk's bytes from `at` up to a line end follow, as many as there is room for
pub record TakesLine (line : List ℕ) (filled : ℕ) (chunk : List ℕ) (at : ℕ) (line' : List ℕ) (r : Cut) : Type 0 where
  pub kept : take r.filled line' ≡ take (length line) (take filled line ++ up_to_end (drop at chunk))
  pub ended_is : r.ended ≡ has_end (drop at chunk)
  pub rest : drop r.at chunk ≡ behind_end (drop at chunk)
  pub filled_fits : r.filled ≤ length line
  pub at_fits : r.at ≤ length chunk
  pub moves : at < length chunk → at < r.at

-- the lines that ended, and what is held of the one that has not
pub record Fed : Type 0 where
  pub lines : List (List ℕ)
  pub left : List ℕ

abbrev pub after_line : List ℕ → Fed → Fed
after_line line f = record { lines = line ∷ f.lines; left = f.left }

-- a chunk, where the bytes `held` of a line have come before it
unfoldable pub fed : ℕ → List ℕ → List ℕ → Fed
fed room held [] = record { lines = []; left = held }
fed room held (b ∷ bs) = cond (eqb b 10) (after_line held (fed room [] bs)) (fed room (take room (held ++ (b ∷ []))) bs)

-- one chunk and the next
abbrev pub joined : Fed → Fed → Fed
joined f g = record { lines = f.lines ++ g.lines; left = g.left }
