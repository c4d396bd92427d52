-- The report (change request 14): what is written of each line of the input, and at its end.
-- Assumes nothing.
use Rattle.std.specs.Prelude.{Bool, false, cond, Option, Some, None, List, [], ◌∷◌, ◌++◌, ℕ, ◌≤◌, ◌≡◌, length}
use Rattle.lines.specs.Digits.{Puts}
use Rattle.depot.specs.Counts.{counts_of, sum_of}
use Rattle.depot.specs.declared.Tally.{Tally}
use Rattle.sheet.specs.declared.Report.{Report}
use Rattle.sheet.specs.declared.Report.TheVariants.{First, Names, Over}
use Rattle.sheet.specs.declared.Written.{Written}
use Rattle.sheet.specs.Input.{lines_of, moment_of, is_name}
use Rattle.sheet.specs.Row.{row, bad_row, bad, heading, bad_moment, sum_too_large, sum_row}

-- what is written, and the report then
pub record Line : Type 0 where
  pub text : List ℕ
  pub report : Report

abbrev pub zeros : Tally
zeros = record { held = 0; classes = record { fit = 0; ended = 0; early = 0; reversed = 0 }; peers = 0 }

-- ---- a line of the input

-- the first: the heading, or `bad moment` and nothing more
abbrev pub begun : Option ℕ → Line
begun (Some t) = record { text = heading; report = Names t zeros }
begun None = record { text = bad_moment; report = Over }

-- a store with the counts c: its row and the new sums; `sum too large` in place of the row ends the report
abbrev pub store_line : ℕ → List ℕ → Tally → Option Tally → Line
store_line t name c (Some s) = record { text = row name c; report = Names t s }
store_line t name c None = record { text = sum_too_large; report = Over }

-- a file: a store, or `NAME bad`, which adds nothing
abbrev pub file_line : ℕ → Tally → List ℕ → Option Tally → Line
file_line t sums name (Some c) = store_line t name c (sum_of sums c)
file_line t sums name None = record { text = bad_row name; report = Names t sums }

-- a name line, with the bytes of the file that it names; `bad` alone where it is no name
abbrev pub name_line : ℕ → Tally → List ℕ → List ℕ → Line
name_line t sums line file = cond (is_name line) (file_line t sums line (counts_of file t)) (record { text = bad; report = Names t sums })

unfoldable pub line_of : Report → List ℕ → List ℕ → Line
line_of First line file = begun (moment_of line)
line_of (Names t sums) line file = name_line t sums line file
line_of Over line file = record { text = []; report = Over }

-- ---- the end of the input

-- the line of sums; `bad moment` where no line came
unfoldable pub last_of : Report → List ℕ
last_of First = bad_moment
last_of (Names t sums) = sum_row sums
last_of Over = []

-- ---- the whole report

-- lines one after the other; `file` is what each name's file holds, and nothing where it can't be read
unfoldable pub text_of : (List ℕ → List ℕ) → Report → List (List ℕ) → List ℕ
text_of file r [] = []
text_of file r (l ∷ ls) = let s = line_of r l (file l) in s.text ++ text_of file s.report ls

unfoldable pub after_lines : (List ℕ → List ℕ) → Report → List (List ℕ) → Report
after_lines file r [] = r
after_lines file r (l ∷ ls) = after_lines file (line_of r l (file l)).report ls

abbrev pub report_from : (List ℕ → List ℕ) → Report → List (List ℕ) → List ℕ
report_from file r ls = text_of file r ls ++ last_of (after_lines file r ls)

-- all that is written for an input
abbrev pub report_of : (List ℕ → List ℕ) → List ℕ → List ℕ
report_of file input = report_from file First (lines_of input)

-- ---- what is promised

-- whether the bytes of the file that a line names decide what is written
abbrev pub asks_file : Report → List ℕ → Bool
asks_file First line = false
asks_file (Names t sums) line = is_name line
asks_file Over line = false

-- a name leaves room for the numbers in the longest line
abbrev pub ShortName : List ℕ → Type 0
ShortName name = length name ≤ 255

-- a line of the report is at the front of `out`
pub record PutsLine (l : Line) (out out' : List ℕ) (w : Written) : Type 0 where
  pub text : Puts l.text out out' w.count
  pub report : w.report ≡ l.report
