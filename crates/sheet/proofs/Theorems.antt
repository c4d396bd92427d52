-- The claims of specs/Claims.antt.
-- Assumes nothing.
use mathlib.Core.Path.{◌≡◌, refl, sym, ap, ◌∙◌, subst}
use mathlib.Core.Bool.{Bool, true, false, cond}
use mathlib.Core.List.{List, [], ◌∷◌, ◌++◌, append_assoc}
use Rattle.std.proofs.Common.{Option, Some, None}
use Prim.Native.Nat.{ℕ}
use native.Mathlib.Omega.{arith}
use Rattle.lines.specs.Digits.{numeral}
use Rattle.depot.specs.Claims.{AddsUp}
use Rattle.depot.specs.Counts.{counts_of, sum_of}
use Rattle.depot.specs.declared.Tally.{Tally}
use Rattle.depot.proofs.Theorems.{classes-add-up, sums-exactly}
use Rattle.sheet.specs.declared.Report.{Report}
use Rattle.sheet.specs.declared.Report.TheVariants.{First, Names, Over}
use Rattle.sheet.specs.Input.{moment_of, is_name, lines_from}
use Rattle.sheet.specs.Row.{bad, heading, bad_moment}
use Rattle.sheet.specs.Report.{Line, begun, store_line, file_line, name_line, line_of, last_of, text_of, after_lines, report_from, asks_file, zeros}
use Rattle.sheet.specs.Claims.{MomentsExactly, Gives, EachLine, WholeReport, SumsAddUp, AskedDecides, StepsAreFed, ChunksDoNotMatter, NumbersReadBack}
use Rattle.sheet.proofs.InputLaws.{moment_length, moment_digits, moment_read}
use Rattle.sheet.proofs.RowLaws.{decimal-back, decimal-digits, decimal-fewest}
use Rattle.sheet.proofs.StreamLaws.{line_ends, chunk_ends, whole}

-- ---- the first line

pub moments_exactly : MomentsExactly
moments_exactly =
    record {
      given = λ line h d. sym (moment_read line (numeral 16 0 line) h d refl);
      other_length = λ line h. sym (moment_length line h);
      no_digits = λ line h d. sym (moment_digits line h d);
    }

-- ---- each line

pub each_line : EachLine
unfolding line_of
each_line =
    record {
      begins = λ line file t e. rw e;
      no_moment = λ line file e. rw e;
      no_name = λ t s line file e. rw e;
      bad_file = λ t s line file n e. rw (n, e);
      store = λ t s line file c n e w. rw (n, e, sums-exactly.given s c w);
      too_large = λ t s line file c n e w. rw (n, e, sums-exactly.refused s c w);
    }

module _ (file : List ℕ → List ℕ) where
  nothing : (ls : List (List ℕ)) → report_from file Over ls ≡ []
  unfolding text_of after_lines line_of last_of
  nothing [] = refl
  nothing (l ∷ ls) = nothing ls

  next : (r r' : Report) (l text : List ℕ) (ls : List (List ℕ)) → Gives r l (file l) text r' → report_from file r (l ∷ ls) ≡ text ++ report_from file r' ls
  unfolding text_of after_lines
  next r r' l text ls e =
      ap (λ (x : Line). (x.text ++ text_of file x.report ls) ++ last_of (after_lines file x.report ls)) e
      ∙ append_assoc text (text_of file r' ls) (last_of (after_lines file r' ls))

pub whole-report : WholeReport
unfolding lines_from text_of after_lines last_of
whole-report =
    record {
      no_line = λ file. refl;
      next = next;
      no_moment = λ file l ls e. next file First Over l bad_moment ls (each_line.no_moment l (file l) e) ∙ ap (λ (x : List ℕ). bad_moment ++ x) (nothing file ls);
      begins = λ file l ls t e. next file First (Names t zeros) l heading ls (each_line.begins l (file l) t e);
      ends = λ file t s. refl;
      over = nothing;
    }

-- ---- the sums

-- the sums of a report that goes on
sums_in : Report → Tally
sums_in First = zeros
sums_in (Names t s) = s
sums_in Over = zeros

module _ (t : ℕ) (s : Tally) (h : AddsUp s) where
  after_store : (name : List ℕ) (c : Tally) → AddsUp c → (z : Option Tally) → sum_of s c ≡ z → AddsUp (sums_in (store_line t name c z).report)
  unfolding sums_in
  after_store name c k (Some u) e = subst AddsUp (sym (sums-exactly.only s c u e).1) (omega arith)
  after_store name c k None e = refl

  after_file : (name file : List ℕ) (z : Option Tally) → counts_of file t ≡ z → AddsUp (sums_in (file_line t s name z).report)
  unfolding sums_in
  after_file name file (Some c) e = after_store name c (classes-add-up.of_store file t c e) (sum_of s c) refl
  after_file name file None e = h

  after_name : (line file : List ℕ) → AddsUp (sums_in (name_line t s line file).report)
  unfolding sums_in
  after_name line file = go (is_name line)
    where
      go : (b : Bool) → AddsUp (sums_in (cond b (file_line t s line (counts_of file t)) (record { text = bad; report = Names t s })).report)
      go true = after_file line file (counts_of file t) refl
      go false = h

after_moment : (m : Option ℕ) → AddsUp (sums_in (begun m).report)
unfolding sums_in
after_moment (Some t) = refl
after_moment None = refl

after_line_lem : (r : Report) (line file : List ℕ) → AddsUp (sums_in r) → AddsUp (sums_in (line_of r line file).report)
unfolding line_of sums_in
after_line_lem First line file h = after_moment (moment_of line)
after_line_lem (Names t s) line file h = after_name t s h line file
after_line_lem Over line file h = refl

after-all : (file : List ℕ → List ℕ) (r : Report) (ls : List (List ℕ)) → AddsUp (sums_in r) → AddsUp (sums_in (after_lines file r ls))
unfolding after_lines
after-all file r [] h = h
after-all file r (l ∷ ls) h = after-all file (line_of r l (file l)).report ls (after_line_lem r l (file l) h)

pub sums-add-up : SumsAddUp
unfolding sums_in
sums-add-up = record { add_up = λ file t ls s e. subst (λ (r : Report). AddsUp (sums_in r)) e (after-all file (Names t zeros) ls refl) }

-- ---- the file that is asked for, chunks, numbers

unasked : (r : Report) (line a b : List ℕ) → asks_file r line ≡ false → line_of r line a ≡ line_of r line b
unfolding line_of
unasked First line a b e = refl
unasked (Names t s) line a b e = rw e
unasked Over line a b e = refl

pub asked-decides : AskedDecides
asked-decides = record { same = unasked }

pub steps_are_fed : StepsAreFed
steps_are_fed = record { line_ends = line_ends; chunk_ends = chunk_ends }

pub chunks_do_not_matter : ChunksDoNotMatter
chunks_do_not_matter = record { same = whole }

pub numbers-read-back : NumbersReadBack
numbers-read-back = record { digits = decimal-digits; back = λ n h. decimal-back n (omega arith); fewest = λ n h. decimal-fewest n (omega arith) }
