-- What is claimed of the report beside the contracts. proofs/Theorems.antt has a proof of each claim.
-- Assumes nothing.
use Rattle.std.specs.Prelude.{◌≡◌, true, false, Some, None, ℕ, ◌≤◌, length, take}
use mathlib.Core.List.{List, [], ◌∷◌, ◌++◌, flatten}
use Rattle.io.specs.Digits.{IsDigitCount}
use Rattle.lines.specs.Digits.{are_digits, numeral}
use Rattle.depot.specs.Claims.{AddsUp, Within}
use Rattle.depot.specs.Counts.{counts_of, sums, largest}
use Rattle.depot.specs.declared.Tally.{Tally}
use Rattle.sheet.specs.declared.Report.{Report}
use Rattle.sheet.specs.declared.Report.TheVariants.{First, Names, Over}
use Rattle.sheet.specs.Input.{moment_of, is_name, last_line, up_to_end, has_end, behind_end, fed, after_line}
use Rattle.sheet.specs.Row.{decimal, row, bad_row, bad, heading, bad_moment, sum_too_large, sum_row}
use Rattle.sheet.specs.Report.{zeros, line_of, text_of, after_lines, report_from, report_of, asks_file}

-- ---- the first line

-- a moment is exactly eight hex digits, and T is their value
pub record MomentsExactly : Type 0 where
  pub given : (line : List ℕ) → length line ≡ 8 → are_digits 16 line ≡ true → moment_of line ≡ Some (numeral 16 0 line)
  pub other_length : (line : List ℕ) → (length line ≡ 8 → ⊥) → moment_of line ≡ None
  pub no_digits : (line : List ℕ) → length line ≡ 8 → are_digits 16 line ≡ false → moment_of line ≡ None

-- ---- each line, in the request's words

-- what is written of a line, and the report then
abbrev pub Gives : Report → List ℕ → List ℕ → List ℕ → Report → Type 0
Gives r line file text r' = line_of r line file ≡ record { text = text; report = r' }

pub record EachLine : Type 0 where
  -- the first line
  pub begins : (line file : List ℕ) (t : ℕ) → moment_of line ≡ Some t → Gives First line file heading (Names t zeros)
  pub no_moment : (line file : List ℕ) → moment_of line ≡ None → Gives First line file bad_moment Over
  -- a name line
  pub no_name : (t : ℕ) (s : Tally) (line file : List ℕ) → is_name line ≡ false → Gives (Names t s) line file bad (Names t s)
  pub bad_file : (t : ℕ) (s : Tally) (line file : List ℕ) → is_name line ≡ true → counts_of file t ≡ None
      → Gives (Names t s) line file (bad_row line) (Names t s)
  pub store : (t : ℕ) (s : Tally) (line file : List ℕ) (c : Tally) → is_name line ≡ true → counts_of file t ≡ Some c → Within s c
      → Gives (Names t s) line file (row line c) (Names t (sums s c))
  pub too_large : (t : ℕ) (s : Tally) (line file : List ℕ) (c : Tally) → is_name line ≡ true → counts_of file t ≡ Some c → (Within s c → ⊥)
      → Gives (Names t s) line file sum_too_large Over

-- the whole output: what each line gives, one after the other, and what stands at the end. So `bad moment` alone without a moment, the heading and the
-- sums with one, and nothing behind `sum too large`
pub record WholeReport : Type 0 where
  pub next : (file : List ℕ → List ℕ) (r r' : Report) (line text : List ℕ) (ls : List (List ℕ)) → Gives r line (file line) text r'
      → report_from file r (line ∷ ls) ≡ text ++ report_from file r' ls
  pub no_line : (file : List ℕ → List ℕ) → report_of file [] ≡ bad_moment
  pub no_moment : (file : List ℕ → List ℕ) (line : List ℕ) (ls : List (List ℕ)) → moment_of line ≡ None → report_from file First (line ∷ ls) ≡ bad_moment
  pub begins : (file : List ℕ → List ℕ) (line : List ℕ) (ls : List (List ℕ)) (t : ℕ) → moment_of line ≡ Some t
      → report_from file First (line ∷ ls) ≡ heading ++ report_from file (Names t zeros) ls
  pub ends : (file : List ℕ → List ℕ) (t : ℕ) (s : Tally) → report_from file (Names t s) [] ≡ sum_row s
  pub over : (file : List ℕ → List ℕ) (ls : List (List ℕ)) → report_from file Over ls ≡ []

-- the four classes of the sums add up to the keys held, too
pub record SumsAddUp : Type 0 where
  pub add_up : (file : List ℕ → List ℕ) (t : ℕ) (ls : List (List ℕ)) (s : Tally) → after_lines file (Names t zeros) ls ≡ Names t s → AddsUp s

-- a file that is not asked for decides nothing
pub record AskedDecides : Type 0 where
  pub same : (r : Report) (line a b : List ℕ) → asks_file r line ≡ false → line_of r line a ≡ line_of r line b

-- ---- an input that comes in chunks

-- what `take_line` promises is a step of `fed`: a line ends, or the chunk does
pub record StepsAreFed : Type 0 where
  pub line_ends : (room : ℕ) (held s : List ℕ) → length held ≤ room → has_end s ≡ true
      → fed room held s ≡ after_line (take room (held ++ up_to_end s)) (fed room [] (behind_end s))
  pub chunk_ends : (room : ℕ) (held s : List ℕ) → length held ≤ room → has_end s ≡ false
      → fed room held s ≡ record { lines = []; left = take room (held ++ up_to_end s) }

-- chunks one after the other: of each line 256 bytes are held, and what has not ended with the last chunk is a line if it is not empty
unfoldable pub played : (List ℕ → List ℕ) → Report → List ℕ → List (List ℕ) → List ℕ
played file r held [] = report_from file r (last_line held)
played file r held (c ∷ cs) = let f = fed 256 held c in text_of file r f.lines ++ played file (after_lines file r f.lines) f.left cs

-- the whole output is that of the whole input, whatever the chunks are
pub record ChunksDoNotMatter : Type 0 where
  pub same : (file : List ℕ → List ℕ) (chunks : List (List ℕ)) → played file First [] chunks ≡ report_of file (flatten chunks)

-- ---- numbers

-- a number is written in digits that read back as it, and in as few as hold it
pub record NumbersReadBack : Type 0 where
  pub digits : (n : ℕ) → are_digits 10 (decimal n) ≡ true
  pub back : (n : ℕ) → n ≤ largest → numeral 10 0 (decimal n) ≡ n
  pub fewest : (n : ℕ) → n ≤ largest → IsDigitCount 10 1 n (length (decimal n))
