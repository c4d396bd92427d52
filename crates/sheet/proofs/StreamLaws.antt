-- Laws of a stream of lines.
-- Assumes nothing.
use mathlib.Core.Path.{◌≡◌, refl, sym, ap, ap₂, ◌∙◌}
use mathlib.Core.Bool.{Bool, true, false, cond}
use mathlib.Core.List.{List, [], ◌∷◌, ◌++◌, map, flatten, append_assoc, append-nil}
use Rattle.std.proofs.Common.{None}
use Prim.Native.Nat.{ℕ, zero, suc, ◌+◌, ◌≤◌, ◌<◌}
use native.Mathlib.Numerals.{add-one}
use native.Mathlib.Omega.{arith}
use lib.ListN.{length, take, drop, length-take}
use lib.Seq.{take_all, length-take-le}
use lib.Dec.{eqb, leb}
use borrow.Author.Tests.{leb-true, leb-false, le-leb, lt-leb, not-true, not-false}
use Rattle.lines.specs.Words.{before}
use Rattle.lines.specs.declared.words.Class.TheVariants.{LineEnd}
use Rattle.sheet.proofs.InputLaws.{moment_length, name_long, name_short}
use Rattle.sheet.specs.Input.{moment_of, is_name, last_line, lines_from, lines_of, up_to_end, has_end, behind_end, Fed, fed, after_line, joined}
use Rattle.sheet.specs.Report.{Line, begun, name_line, line_of, last_of, text_of, after_lines, report_from, report_of}
use Rattle.sheet.specs.Claims.{played}
use Rattle.sheet.specs.declared.Report.{Report}
use Rattle.sheet.specs.declared.Report.TheVariants.{First, Names, Over}

-- ---- chunks

fed-join : (room : ℕ) (held a b : List ℕ) → fed room held (a ++ b) ≡ joined (fed room held a) (fed room (fed room held a).left b)
unfolding fed
fed-join room held [] b = refl
fed-join room held (x ∷ a) b = go (fed-join room [] a b) (fed-join room (take room (held ++ (x ∷ []))) a b) (eqb x 10) refl
  where
    go : fed room [] (a ++ b) ≡ joined (fed room [] a) (fed room (fed room [] a).left b)
        → fed room (take room (held ++ (x ∷ []))) (a ++ b) ≡ joined (fed room (take room (held ++ (x ∷ []))) a) (fed room (fed room (take room (held ++ (x ∷ []))) a).left b)
        → (t : Bool) → eqb x 10 ≡ t
        → cond t (after_line held (fed room [] (a ++ b))) (fed room (take room (held ++ (x ∷ []))) (a ++ b))
        ≡ joined (cond t (after_line held (fed room [] a)) (fed room (take room (held ++ (x ∷ []))) a))
        (fed room (cond t (after_line held (fed room [] a)) (fed room (take room (held ++ (x ∷ []))) a)).left b)
    go p q true e = ap (after_line held) p
    go p q false e = q

-- ---- steps

take_again : (r : ℕ) (x y : List ℕ) → take r (take r x ++ y) ≡ take r (x ++ y)
take_again zero x y = refl
take_again (suc r) [] y = refl
take_again (suc r) (a ∷ x) y = ap (λ (l : List ℕ). a ∷ l) (take_again r x y)

held_all : (room : ℕ) (held : List ℕ) → length held ≤ room → take room (held ++ []) ≡ held
held_all room held h = ap (take room) (append-nil held) ∙ take_all room held h

one_more_lem : (room : ℕ) (held u : List ℕ) (b : ℕ) → take room (take room (held ++ (b ∷ [])) ++ u) ≡ take room (held ++ (b ∷ u))
one_more_lem room held u b = take_again room (held ++ (b ∷ [])) u ∙ ap (take room) (append_assoc held (b ∷ []) u)

short : (room : ℕ) (l : List ℕ) → length (take room l) ≤ room
short room l = omega (arith, length-take room l)

either : (A : Type 0) (b : Bool) → (b ≡ true → A) → (b ≡ false → A) → A
either A true f g = f refl
either A false f g = g refl

leb-suc : (n k : ℕ) → leb n k ≡ leb (suc n) (suc k)
leb-suc n k =
    either (leb n k ≡ leb (suc n) (suc k)) (leb n k)
    (λ e. let l : n ≤ k = leb-true n k e in e ∙ sym (le-leb (suc n) (suc k) (omega arith)))
    (λ e. let l : k < n = leb-false n k e in e ∙ sym (lt-leb (suc n) (suc k) (omega arith)))

-- a step of `fed`, for each byte that comes before the line end
step : (room : ℕ) (held s : List ℕ) → length held ≤ room → (t : Bool) → leb (length s) (before LineEnd s) ≡ t
    → fed room held s ≡ cond t (record { lines = []; left = take room (held ++ take (before LineEnd s) s) }) (after_line (take room (held ++ take (before LineEnd s) s)) (fed room [] (drop (before LineEnd s + 1) s)))
unfolding fed before
step room held [] h true e = ap (λ (x : List ℕ). record { lines = []; left = x }) (sym (held_all room held h))
step room held [] h false e = absurd (omega (arith, leb-false 0 0 e))
step room held (b ∷ s) h t e = go (λ q. step room (take room (held ++ (b ∷ []))) s (short room (held ++ (b ∷ []))) t q) (eqb b 10) refl e
  where
    here : (t : Bool) → leb (suc (length s)) 0 ≡ t
        → after_line held (fed room [] s) ≡ cond t (record { lines = []; left = take room (held ++ []) }) (after_line (take room (held ++ [])) (fed room [] (drop (0 + 1) (b ∷ s))))
    here true q = absurd (omega (arith, leb-true (suc (length s)) 0 q))
    here false q = ap (λ (x : List ℕ). after_line x (fed room [] s)) (sym (held_all room held h))

    go : (leb (length s) (before LineEnd s) ≡ t
        → fed room (take room (held ++ (b ∷ []))) s
        ≡ cond t (record { lines = []; left = take room (take room (held ++ (b ∷ [])) ++ take (before LineEnd s) s) })
        (after_line (take room (take room (held ++ (b ∷ [])) ++ take (before LineEnd s) s)) (fed room [] (drop (before LineEnd s + 1) s))))
        → (x : Bool) → eqb b 10 ≡ x → leb (suc (length s)) (cond x 0 (suc (before LineEnd s))) ≡ t
        → cond x (after_line held (fed room [] s)) (fed room (take room (held ++ (b ∷ []))) s)
        ≡ cond t (record { lines = []; left = take room (held ++ take (cond x 0 (suc (before LineEnd s))) (b ∷ s)) })
        (after_line (take room (held ++ take (cond x 0 (suc (before LineEnd s))) (b ∷ s))) (fed room [] (drop (cond x 0 (suc (before LineEnd s)) + 1) (b ∷ s))))
    go r true p q = here t q
    go r false p q =
        let k : ℕ = before LineEnd s in
        let f : drop (k + 1) s ≡ drop (suc k + 1) (b ∷ s) = rw (add-one, add-one) in
        r (leb-suc (length s) k ∙ q)
        ∙ ap₂ (λ (x y : List ℕ). cond t (record { lines = []; left = x }) (after_line x (fed room [] y))) (one_more_lem room held (take k s) b) f

pub line_ends : (room : ℕ) (held s : List ℕ) → length held ≤ room → has_end s ≡ true → fed room held s ≡ after_line (take room (held ++ up_to_end s)) (fed room [] (behind_end s))
line_ends room held s h e = step room held s h false (not-true (leb (length s) (before LineEnd s)) e)

pub chunk_ends : (room : ℕ) (held s : List ℕ) → length held ≤ room → has_end s ≡ false → fed room held s ≡ record { lines = []; left = take room (held ++ up_to_end s) }
chunk_ends room held s h e = step room held s h true (not-false (leb (length s) (before LineEnd s)) e)

-- ---- what is held decides

-- of lines over 255 bytes f says c: so the first 256 bytes of a line say what the line says
held-says : {A : Type 0} (f : List ℕ → A) (c : A) → ((s : List ℕ) → 255 < length s → c ≡ f s) → (line : List ℕ) → f (take 256 line) ≡ f line
held-says f c over line = either (f (take 256 line) ≡ f line) (leb (length line) 256) short long
  where
    short : leb (length line) 256 ≡ true → f (take 256 line) ≡ f line
    short e = ap f (take_all 256 line (leb-true (length line) 256 e))

    long : leb (length line) 256 ≡ false → f (take 256 line) ≡ f line
    long e =
        let l : 256 < length line = leb-false (length line) 256 e in
        let n : length (take 256 line) ≡ 256 = length-take-le 256 line (omega arith) in
        sym (over (take 256 line) (omega arith)) ∙ over line (omega arith)

name_same : (line : List ℕ) → is_name (take 256 line) ≡ is_name line
name_same = held-says is_name false name_long

moment_same : (line : List ℕ) → moment_of (take 256 line) ≡ moment_of line
moment_same = held-says moment_of None (λ s h. moment_length s (λ q. omega arith))

name_whole : (line : List ℕ) → is_name line ≡ true → take 256 line ≡ line
name_whole line e = take_all 256 line (omega (arith, name_short line e))

-- ---- the whole report

-- the lines that ended, and the one that has not
all_of : Fed → List (List ℕ)
all_of f = f.lines ++ last_line f.left

module _ (file : List ℕ → List ℕ) where
  text-join : (r : Report) (a b : List (List ℕ)) → text_of file r (a ++ b) ≡ text_of file r a ++ text_of file (after_lines file r a) b
  unfolding text_of after_lines
  text-join r [] b = refl
  text-join r (l ∷ a) b =
      let s : Line = line_of r l (file l) in
      ap (λ (x : List ℕ). s.text ++ x) (text-join s.report a b) ∙ sym (append_assoc s.text (text_of file s.report a) (text_of file (after_lines file s.report a) b))

  after-join : (r : Report) (a b : List (List ℕ)) → after_lines file r (a ++ b) ≡ after_lines file (after_lines file r a) b
  unfolding after_lines
  after-join r [] b = refl
  after-join r (l ∷ a) b = after-join (line_of r l (file l)).report a b

  report-join : (r : Report) (a b : List (List ℕ)) → report_from file r (a ++ b) ≡ text_of file r a ++ report_from file (after_lines file r a) b
  report-join r a b =
      ap₂ (λ (x : List ℕ) (y : Report). x ++ last_of y) (text-join r a b) (after-join r a b)
      ∙ append_assoc (text_of file r a) (text_of file (after_lines file r a) b) (last_of (after_lines file (after_lines file r a) b))

  played-all : (r : Report) (held : List ℕ) (cs : List (List ℕ)) → played file r held cs ≡ report_from file r (all_of (fed 256 held (flatten cs)))
  unfolding played fed flatten all_of
  played-all r held [] = refl
  played-all r held (c ∷ cs) =
      let f : Fed = fed 256 held c in
      let g : Fed = fed 256 f.left (flatten cs) in
      ap (λ (x : List ℕ). text_of file r f.lines ++ x) (played-all (after_lines file r f.lines) f.left cs)
      ∙ sym (report-join r f.lines (g.lines ++ last_line g.left))
      ∙ sym (ap (λ (x : Fed). report_from file r (all_of x)) (fed-join 256 held c (flatten cs))
      ∙ ap (report_from file r) (append_assoc f.lines g.lines (last_line g.left)))

  -- what is held of a line says what the line says
  line_same : (r : Report) (l : List ℕ) → line_of r (take 256 l) (file (take 256 l)) ≡ line_of r l (file l)
  unfolding line_of
  line_same First l = ap begun (moment_same l)
  line_same (Names t s) l = go (is_name l) refl
    where
      go : (b : Bool) → is_name l ≡ b → name_line t s (take 256 l) (file (take 256 l)) ≡ name_line t s l (file l)
      go true e = ap (λ (x : List ℕ). name_line t s x (file x)) (name_whole l e)
      go false e = rw (name_same l ∙ e, e)
  line_same Over l = refl

  report-same : (r : Report) (ls : List (List ℕ)) → report_from file r (map (take 256) ls) ≡ report_from file r ls
  unfolding text_of after_lines
  report-same r [] = refl
  report-same r (l ∷ ls) =
      let s : Line = line_of r l (file l) in
      append_assoc (line_of r (take 256 l) (file (take 256 l))).text (text_of file (line_of r (take 256 l) (file (take 256 l))).report (map (take 256) ls)) (last_of (after_lines file (line_of r (take 256 l) (file (take 256 l))).report (map (take 256) ls)))
      ∙ ap (λ (x : Line). x.text ++ report_from file x.report (map (take 256) ls)) (line_same r l)
      ∙ ap (λ (x : List ℕ). s.text ++ x) (report-same s.report ls)
      ∙ sym (append_assoc s.text (text_of file s.report ls) (last_of (after_lines file s.report ls)))

-- the lines that are held are the first bytes of the input's lines
module _ (m : ℕ) where
  last-held : (held : List ℕ) → last_line (take (suc m) held) ≡ map (take (suc m)) (last_line held)
  last-held [] = refl
  last-held (b ∷ bs) = refl

  lines-held : (held s : List ℕ) → all_of (fed (suc m) (take (suc m) held) s) ≡ map (take (suc m)) (lines_from held s)
  unfolding fed lines_from all_of
  lines-held held [] = last-held held
  lines-held held (b ∷ s) = go (lines-held [] s) (lines-held (held ++ (b ∷ [])) s) (eqb b 10)
    where
      go : all_of (fed (suc m) [] s) ≡ map (take (suc m)) (lines_from [] s)
          → all_of (fed (suc m) (take (suc m) (held ++ (b ∷ []))) s) ≡ map (take (suc m)) (lines_from (held ++ (b ∷ [])) s)
          → (x : Bool)
          → all_of (cond x (after_line (take (suc m) held) (fed (suc m) [] s)) (fed (suc m) (take (suc m) (take (suc m) held ++ (b ∷ []))) s))
          ≡ map (take (suc m)) (cond x (held ∷ lines_from [] s) (lines_from (held ++ (b ∷ [])) s))
      go p q true = ap (λ (x : List (List ℕ)). take (suc m) held ∷ x) p
      go p q false = ap (λ (x : List ℕ). all_of (fed (suc m) x s)) (take_again (suc m) held (b ∷ [])) ∙ q

pub whole : (file : List ℕ → List ℕ) (cs : List (List ℕ)) → played file First [] cs ≡ report_of file (flatten cs)
unfolding all_of
whole file cs =
    played-all file First [] cs
    ∙ ap (report_from file First) (lines-held 255 [] (flatten cs))
    ∙ report-same file First (lines_of (flatten cs))
