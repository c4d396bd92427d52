-- The report (change request 14): the definitions, computed on examples. They stand here, where no edit computes them again.
-- Assumes nothing.
use mathlib.Core.Path.{◌≡◌, refl}
use mathlib.Core.Bool.{true, false, cond}
use mathlib.Core.List.{List, [], ◌∷◌, ◌++◌}
use Prim.Native.Nat.{ℕ}
use lib.ListN.{replicate}
use lib.Count.{ones, ones_in}
use Rattle.octets.specs.Bytes.{part, all_below, all_zero, same}
use Rattle.octets.specs.Words.{numbers, words}
use Rattle.store.specs.Layout.{edition1, edition_of, edition_in}
use Rattle.store.specs.Store.{Entry, peers_of, header, key_record, key_records, encode, entries, entries_from, sound, all_hold, header_ok, counts_ok, sum_before, sums_ok, new_key, unique_ok, all_odd, parity_ok, unused_ok}
use Rattle.lines.specs.Digits.{digit, are_digits, numeral}
use Rattle.depot.specs.Counts.{class_of, classes_of, tally_of, counts_in, counts_of, sum_of}
use Rattle.depot.specs.declared.Class.TheVariants.{Fit, Ended, Early, Reversed}
use Rattle.depot.specs.declared.Tally.{Tally}
use Rattle.sheet.specs.Input.{lines_from, lines_of, moment_of, has_zero, is_name}
use Rattle.sheet.specs.Row.{places_in, decimal, field, fields, row, bad_row, heading, bad_moment}
use Rattle.sheet.specs.Report.{line_of, last_of, text_of, after_lines, report_of}
use Rattle.sheet.specs.declared.Report.TheVariants.{Names, Over}

-- ---- the example of the request

-- a key with two peers
abbrev key : Entry
key = record { issuer = 1; serial = 1; kmac = replicate 24 1; start = 0x10000000; end = 0x20000000; peers = 5 ∷ 6 ∷ [] }

-- a.st is an empty store, b.st has 10 bytes, c.st is a store of one key; other files can't be read
abbrev files : List ℕ → List ℕ
files name =
    cond (same name (97 ∷ 46 ∷ 115 ∷ 116 ∷ [])) (encode edition1 [])
    (cond (same name (98 ∷ 46 ∷ 115 ∷ 116 ∷ [])) (48 ∷ 49 ∷ 50 ∷ 51 ∷ 52 ∷ 53 ∷ 54 ∷ 55 ∷ 56 ∷ 57 ∷ [])
    (cond (same name (99 ∷ 46 ∷ 115 ∷ 116 ∷ [])) (encode edition1 (key ∷ [])) []))

-- "1800abCD", "a.st", "b.st" and, with no line end, "c.st": crates/report/stdin
abbrev input : List ℕ
input =
    49 ∷ 56 ∷ 48 ∷ 48 ∷ 97 ∷ 98 ∷ 67 ∷ 68 ∷ 10
    ∷ 97 ∷ 46 ∷ 115 ∷ 116 ∷ 10
    ∷ 98 ∷ 46 ∷ 115 ∷ 116 ∷ 10
    ∷ 99 ∷ 46 ∷ 115 ∷ 116 ∷ []

-- the five lines that the request prints: crates/report/stdout
abbrev output : List ℕ
output =
    102 ∷ 105 ∷ 108 ∷ 101 ∷ 32 ∷ 104 ∷ 101 ∷ 108 ∷ 100 ∷ 32 ∷ 102 ∷ 105 ∷ 116 ∷ 32 ∷ 101 ∷ 110 ∷ 100 ∷ 101 ∷ 100 ∷ 32 ∷ 101 ∷ 97 ∷ 114 ∷ 108 ∷ 121 ∷ 32 ∷ 114 ∷ 101 ∷ 118 ∷ 101 ∷ 114 ∷ 115 ∷ 101 ∷ 100 ∷ 32 ∷ 112 ∷ 101 ∷ 101 ∷ 114 ∷ 115 ∷ 10
    ∷ 97 ∷ 46 ∷ 115 ∷ 116 ∷ 32 ∷ 48 ∷ 32 ∷ 48 ∷ 32 ∷ 48 ∷ 32 ∷ 48 ∷ 32 ∷ 48 ∷ 32 ∷ 48 ∷ 10
    ∷ 98 ∷ 46 ∷ 115 ∷ 116 ∷ 32 ∷ 98 ∷ 97 ∷ 100 ∷ 10
    ∷ 99 ∷ 46 ∷ 115 ∷ 116 ∷ 32 ∷ 49 ∷ 32 ∷ 49 ∷ 32 ∷ 48 ∷ 32 ∷ 48 ∷ 32 ∷ 48 ∷ 32 ∷ 50 ∷ 10
    ∷ 115 ∷ 117 ∷ 109 ∷ 32 ∷ 49 ∷ 32 ∷ 49 ∷ 32 ∷ 48 ∷ 32 ∷ 48 ∷ 32 ∷ 48 ∷ 32 ∷ 50 ∷ 10 ∷ []

example : report_of files input ≡ output
unfolding lines_from text_of after_lines line_of last_of moment_of are_digits digit numeral is_name has_zero same counts_of counts_in edition_of edition_in tally_of classes_of sum_of row bad_row fields field decimal places_in encode header key_record key_records peers_of words numbers entries entries_from sound all_hold header_ok counts_ok sum_before sums_ok new_key unique_ok all_odd parity_ok unused_ok all_below all_zero part ones ones_in
example = refl

-- ---- edges

-- no line at all; T with a carriage return behind it; T alone; T and the name of a file that can't be read
edges : report_of files []
    ∷ report_of files (49 ∷ 56 ∷ 48 ∷ 48 ∷ 97 ∷ 98 ∷ 67 ∷ 68 ∷ 13 ∷ 10 ∷ [])
    ∷ report_of files (49 ∷ 56 ∷ 48 ∷ 48 ∷ 97 ∷ 98 ∷ 67 ∷ 68 ∷ [])
    ∷ report_of files (49 ∷ 56 ∷ 48 ∷ 48 ∷ 97 ∷ 98 ∷ 67 ∷ 68 ∷ 10 ∷ 120 ∷ [])
    ∷ []
    ≡ bad_moment
    ∷ bad_moment
    ∷ (heading ++ (115 ∷ 117 ∷ 109 ∷ 32 ∷ 48 ∷ 32 ∷ 48 ∷ 32 ∷ 48 ∷ 32 ∷ 48 ∷ 32 ∷ 48 ∷ 32 ∷ 48 ∷ 10 ∷ []))
    ∷ (heading ++ (120 ∷ 32 ∷ 98 ∷ 97 ∷ 100 ∷ 10 ∷ 115 ∷ 117 ∷ 109 ∷ 32 ∷ 48 ∷ 32 ∷ 48 ∷ 32 ∷ 48 ∷ 32 ∷ 48 ∷ 32 ∷ 48 ∷ 32 ∷ 48 ∷ 10 ∷ []))
    ∷ []
unfolding lines_from text_of after_lines line_of last_of moment_of are_digits digit numeral is_name has_zero same counts_of counts_in edition_of edition_in row bad_row fields field decimal places_in
edges = refl

-- a line end at the very end opens no line, and two in a row make an empty one
line_ends : lines_of (97 ∷ 10 ∷ []) ++ lines_of (97 ∷ 10 ∷ 10 ∷ []) ≡ (97 ∷ []) ∷ (97 ∷ []) ∷ [] ∷ []
unfolding lines_from
line_ends = refl

-- 0, 9, 10, 1000 and the largest number
numbers-written : decimal 0 ++ (decimal 9 ++ (decimal 10 ++ (decimal 1000 ++ decimal 4294967295)))
    ≡ 48 ∷ 57 ∷ 49 ∷ 48 ∷ 49 ∷ 48 ∷ 48 ∷ 48 ∷ 52 ∷ 50 ∷ 57 ∷ 52 ∷ 57 ∷ 54 ∷ 55 ∷ 50 ∷ 57 ∷ 53 ∷ []
unfolding decimal places_in
numbers-written = refl

-- a name of 255 bytes and one of 256, an empty one, one with a zero byte
names : is_name (replicate 255 97) ∷ is_name (replicate 256 97) ∷ is_name [] ∷ is_name (97 ∷ 0 ∷ 98 ∷ []) ∷ [] ≡ true ∷ false ∷ false ∷ false ∷ []
unfolding is_name has_zero
names = refl

-- T = start, T = end, behind the end, before the start; start = end; start after end, whatever T is; the least T and the largest
classes : class_of 5 9 5 ∷ class_of 5 9 9 ∷ class_of 5 9 10 ∷ class_of 5 9 4 ∷ class_of 7 7 7 ∷ class_of 9 5 4 ∷ class_of 9 5 7 ∷ class_of 9 5 10 ∷ class_of 0 0 0
    ∷ class_of 0 0xfffffffe 0xffffffff ∷ class_of 0xffffffff 0xffffffff 0xffffffff ∷ []
    ≡ Fit ∷ Fit ∷ Ended ∷ Early ∷ Fit ∷ Reversed ∷ Reversed ∷ Reversed ∷ Fit ∷ Ended ∷ Fit ∷ []
classes = refl

-- a sum of peers of 4,294,967,293 takes two more, and one of 4,294,967,294 does not
abbrev peers_before : ℕ → Tally
peers_before n = record { held = 7; classes = record { fit = 7; ended = 0; early = 0; reversed = 0 }; peers = n }

sums : (line_of (Names 0x1800abcd (peers_before 4294967293)) (99 ∷ 46 ∷ 115 ∷ 116 ∷ []) (encode edition1 (key ∷ []))).report
    ∷ (line_of (Names 0x1800abcd (peers_before 4294967294)) (99 ∷ 46 ∷ 115 ∷ 116 ∷ []) (encode edition1 (key ∷ []))).report
    ∷ []
    ≡ Names 0x1800abcd (record { held = 8; classes = record { fit = 8; ended = 0; early = 0; reversed = 0 }; peers = 4294967295 }) ∷ Over ∷ []
unfolding line_of is_name has_zero counts_of counts_in edition_of edition_in tally_of classes_of sum_of encode header key_record key_records peers_of words numbers entries entries_from sound all_hold header_ok counts_ok sum_before sums_ok new_key unique_ok all_odd parity_ok unused_ok all_below all_zero part ones ones_in
sums = refl
