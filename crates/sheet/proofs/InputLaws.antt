-- Laws of the input.
-- Assumes nothing.
use mathlib.Core.Path.{◌≡◌, sym, ap, ◌∙◌}
use mathlib.Core.Bool.{Bool, true, false, ◌&&◌, not}
use mathlib.Core.List.{List, ◌++◌}
use Rattle.std.proofs.Common.{Some, None}
use Prim.Native.Nat.{ℕ, ◌+◌, ◌-◌, ◌≤◌, ◌<◌, min}
use native.Mathlib.Omega.{arith}
use native.Mathlib.Nat.{min-le_left, min-le_right}
use lib.ListN.{length, take, drop, drop_of_length-le, length-drop}
use lib.Seq.{length-take-le, take-append-add, take-take, drop-drop}
use lib.Dec.{eqb, leb}
use borrow.Author.Tests.{eq-eqb, ne_eqb, le-leb, lt-leb, leb-true}
use Rattle.octets.specs.Bytes.{part, splice}
use Rattle.octets.proofs.SpliceLaws.{splice-take}
use Rattle.octets.proofs.BoolLaws.{and_left, and_right}
use Rattle.lines.specs.Digits.{are_digits, numeral}
use Rattle.lines.specs.Words.{before, first_from, First}
use Rattle.lines.specs.declared.words.Class.TheVariants.{LineEnd}
use Rattle.lines.proofs.HexLaws.{take-least}
use Rattle.sheet.specs.Input.{moment_of, has_zero, is_name, up_to_end, TakesLine}

-- ---- the moment

pub moment_length : (s : List ℕ) → (length s ≡ 8 → ⊥) → None ≡ moment_of s
unfolding moment_of
moment_length s h = rw (ne_eqb (length s) 8 h)

pub moment_digits : (s : List ℕ) → length s ≡ 8 → are_digits 16 s ≡ false → None ≡ moment_of s
unfolding moment_of
moment_digits s h d = rw (eq-eqb (length s) 8 h, d)

pub moment_read : (s : List ℕ) (t : ℕ) → length s ≡ 8 → are_digits 16 s ≡ true → t ≡ numeral 16 0 s → Some t ≡ moment_of s
unfolding moment_of
moment_read s t h d e = rw (eq-eqb (length s) 8 h, d) (ap Some e)

-- ---- names

pub name_empty : (s : List ℕ) → eqb (length s) 0 ≡ true → false ≡ is_name s
unfolding is_name
name_empty s h = rw h

pub name_long : (s : List ℕ) → 255 < length s → false ≡ is_name s
unfolding is_name
name_long s h = let z : eqb (length s) 0 ≡ false = ne_eqb (length s) 0 (λ e. omega arith) in rw (z, lt-leb (length s) 255 h)

pub name_judged : (s : List ℕ) (b : Bool) → eqb (length s) 0 ≡ false → length s ≤ 255 → b ≡ has_zero s → not b ≡ is_name s
unfolding is_name
name_judged s b z h e = rw (z, le-leb (length s) 255 h) (ap not e)

pub name_short : (s : List ℕ) → is_name s ≡ true → length s ≤ 255
unfolding is_name
name_short s e =
    leb-true (length s) 255
    (and_left (leb (length s) 255) (not (has_zero s)) (and_right (not (eqb (length s) 0)) (leb (length s) 255 && not (has_zero s)) e))

-- ---- lines

module _ (line : List ℕ) (filled : ℕ) (chunk : List ℕ) (at : ℕ) (e k : ℕ) (line' : List ℕ) (room : filled ≤ length line) (first : First LineEnd chunk at e)
    (k-is : k ≡ min (e - at) (length line - filled)) (copied : line' ≡ splice line filled (part chunk at k)) where
  b-is : before LineEnd (drop at chunk) ≡ e - at
  unfolding first_from
  b-is = omega (arith, first.is)

  kept_line : take (filled + k) line' ≡ take (length line) (take filled line ++ up_to_end (drop at chunk))
  unfolding part
  kept_line =
      let A : List ℕ = take filled line in
      let u : List ℕ = take (e - at) (drop at chunk) in
      let m : ℕ = length line - filled in
      let lx : length (drop at chunk) ≡ length chunk - at = length-drop at chunk in
      let l_a : length A ≡ filled = length-take-le filled line room in
      let lu : length u ≡ e - at = length-take-le (e - at) (drop at chunk) (omega (arith, first.most, first.least)) in
      let kb : k ≤ e - at = omega (arith, min-le_left (e - at) m) in
      let lv : length (take k (drop at chunk)) ≡ k = length-take-le k (drop at chunk) (omega (arith, first.most, first.least)) in
      let q : length line ≡ length A + m = omega arith in
      let ku : k ≡ min (length u) m = k-is ∙ ap (λ (x : ℕ). min x m) (sym lu) in
      ap (take (filled + k)) copied
      ∙ splice-take line filled (take k (drop at chunk)) k lv room
      ∙ sym (ap (λ (x : ℕ). take (length line) (A ++ take x (drop at chunk))) b-is
      ∙ ap (λ (x : ℕ). take x (A ++ u)) q
      ∙ take-append-add A u m
      ∙ ap (λ (x : List ℕ). A ++ x) (sym (take-least u k m ku) ∙ take-take k (e - at) (drop at chunk) kb))

  pub line_ended : e < length chunk → TakesLine line filled chunk at line' (record { at = e + 1; filled = filled + k; ended = true })
  line_ended h =
      let lx : length (drop at chunk) ≡ length chunk - at = length-drop at chunk in
      let l : before LineEnd (drop at chunk) < length (drop at chunk) = omega (arith, b-is, first.least) in
      let n : at + (before LineEnd (drop at chunk) + 1) ≡ e + 1 = omega (arith, b-is, first.least) in
      record {
        kept = kept_line;
        ended_is = sym (ap not (lt-leb (length (drop at chunk)) (before LineEnd (drop at chunk)) l));
        rest = sym (drop-drop (before LineEnd (drop at chunk) + 1) at chunk ∙ ap (λ (x : ℕ). drop x chunk) n);
        filled_fits = omega (arith, k-is, min-le_right (e - at) (length line - filled));
        at_fits = omega arith;
        moves = λ _. omega (arith, first.least);
      }

  pub line_open : length chunk ≤ e → TakesLine line filled chunk at line' (record { at = e; filled = filled + k; ended = false })
  line_open h =
      let lx : length (drop at chunk) ≡ length chunk - at = length-drop at chunk in
      let l : length (drop at chunk) ≤ before LineEnd (drop at chunk) = omega (arith, b-is, first.least) in
      let l2 : length (drop at chunk) ≤ before LineEnd (drop at chunk) + 1 = omega arith in
      record {
        kept = kept_line;
        ended_is = sym (ap not (le-leb (length (drop at chunk)) (before LineEnd (drop at chunk)) l));
        rest = drop_of_length-le chunk h ∙ sym (drop_of_length-le (drop at chunk) l2);
        filled_fits = omega (arith, k-is, min-le_right (e - at) (length line - filled));
        at_fits = first.most;
        moves = λ m. omega (arith, m);
      }
