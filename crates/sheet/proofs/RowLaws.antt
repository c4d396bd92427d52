-- Laws of the lines that are written.
-- Assumes nothing.
use mathlib.Core.Path.{◌≡◌, refl, sym, ap, ap₂, ◌∙◌, subst}
use Rattle.std.proofs.Common.{Some}
use mathlib.Core.Bool.{Bool, true, false, cond}
use mathlib.Core.List.{List, [], ◌∷◌, ◌++◌, append_assoc}
use Prim.Native.Nat.{ℕ, zero, suc, ◌+◌, ◌-◌, ◌*◌, ◌/◌, ◌%◌, ◌^◌, ◌≤◌, ◌<◌}
use native.Mathlib.Nat.{zero-add, pow-suc, pow-le-pow_right}
use native.Mathlib.Numerals.{add-one}
use native.Mathlib.Omega.{arith}
use lib.ListN.{length, set, get_or, drop, length-append, drop_of_length-le}
use lib.Seq.{drop-cons}
use lib.Dec.{ltb, leb}
use borrow.Author.Tests.{lt-ltb, ltb-true, ltb-false, leb-true, leb-false}
use Rattle.io.specs.Digits.{hex_digit_ascii, last_digits, IsDigitCount}
use Rattle.octets.specs.Bytes.{splice, part}
use Rattle.octets.proofs.BoolLaws.{and_both, and_left, and_right, is-between}
use Rattle.octets.proofs.PartLaws.{part-whole}
use Rattle.octets.proofs.SpliceLaws.{splice-none, set-splice, splice-splice, splice_snoc}
use Rattle.lines.specs.Digits.{Puts, digit, is_digit, are_digits, worth, numeral}
use Rattle.lines.proofs.HexLaws.{puts_all}
use Rattle.depot.specs.declared.Tally.{Tally}
use Rattle.sheet.specs.Row.{places_in, places_of, decimal, field, fields, numbers_of, row, bad_row}

-- ---- how many digits a number has

one_place : (n k : ℕ) → n < 10 → IsDigitCount 10 1 n k → k ≡ 1
one_place n k h w = go (leb k 1) refl
  where
    go : (b : Bool) → leb k 1 ≡ b → k ≡ 1
    go true e = let l : k ≤ 1 = leb-true k 1 e in omega (arith, w.0)
    go false e =
        let l : 1 < k = leb-false k 1 e in
        let m : 1 ≤ k - 1 = omega arith in
        absurd (omega (arith, w.2 l, pow-le-pow_right {n = 10} (omega arith) m))

-- a tenth of a number has a digit less
shorter : (n j : ℕ) → 10 ≤ n → IsDigitCount 10 1 n (suc j) → IsDigitCount 10 1 (n / 10) j
shorter n zero h w = absurd (omega (arith, w.1))
shorter n (suc i) h w =
    let u : n < 10 ^ suc i * 10 = subst (λ (x : ℕ). n < x) (pow-suc 10 (suc i)) w.1 in
    let v : 10 ^ suc i ≡ 10 ^ i * 10 = pow-suc 10 i in
    let d : suc (suc i) - 1 ≡ suc i = omega arith in
    let e : suc i - 1 ≡ i = omega arith in
    let a : 10 ^ suc i ≤ n = subst (λ (x : ℕ). 10 ^ x ≤ n) d (w.2 (omega arith)) in
    (omega arith, omega arith, λ l. subst (λ (x : ℕ). 10 ^ x ≤ n / 10) (sym e) (omega arith))

pub places_are : (more n k : ℕ) → n < 10 ^ suc more → IsDigitCount 10 1 n k → k ≡ places_in more n
unfolding places_in
places_are more n zero l w = absurd (omega (arith, w.0))
places_are zero n (suc j) l w = one_place n (suc j) l w
places_are (suc more) n (suc j) l w =
    let u : n < 10 ^ suc more * 10 = subst (λ (x : ℕ). n < x) (pow-suc 10 (suc more)) l in
    go (λ h. places_are more (n / 10) j (omega arith) (shorter n j h w)) (ltb n 10) refl
  where
    go : (10 ≤ n → j ≡ places_in more (n / 10)) → (b : Bool) → ltb n 10 ≡ b → suc j ≡ cond b 1 (suc (places_in more (n / 10)))
    go r true e = one_place n (suc j) (ltb-true n 10 e) w
    go r false e = ap suc (r (ltb-false n 10 e))

few_places : (more n : ℕ) → places_in more n ≤ suc more
unfolding places_in
few_places zero n = omega arith
few_places (suc more) n = go (few_places more (n / 10)) (ltb n 10)
  where
    go : places_in more (n / 10) ≤ suc more → (b : Bool) → cond b 1 (suc (places_in more (n / 10))) ≤ suc (suc more)
    go h true = omega arith
    go h false = omega arith

-- they hold the number, and one less does not
fewest : (more n : ℕ) → n < 10 ^ suc more → IsDigitCount 10 1 n (places_in more n)
unfolding places_in
fewest zero n l = (omega arith, l, λ q. absurd (omega (arith, q)))
fewest (suc more) n l =
    let u : n < 10 ^ suc more * 10 = subst (λ (x : ℕ). n < x) (pow-suc 10 (suc more)) l in
    go (fewest more (n / 10) (omega arith)) (ltb n 10) refl
  where
    -- ten times the least number of so many digits
    tenfold : (p : ℕ) → 10 ≤ n → IsDigitCount 10 1 (n / 10) p → 10 ^ p ≤ n
    tenfold zero h w = absurd (omega (arith, w.0))
    tenfold (suc zero) h w = h
    tenfold (suc (suc p)) h w =
        let v : 10 ^ suc (suc p) ≡ 10 ^ suc p * 10 = pow-suc 10 (suc p) in
        let d : suc (suc p) - 1 ≡ suc p = omega arith in
        let a : 10 ^ suc p ≤ n / 10 = subst (λ (x : ℕ). 10 ^ x ≤ n / 10) d (w.2 (omega arith)) in
        omega arith

    go : IsDigitCount 10 1 (n / 10) (places_in more (n / 10)) → (b : Bool) → ltb n 10 ≡ b → IsDigitCount 10 1 n (cond b 1 (suc (places_in more (n / 10))))
    go w true e = (omega arith, ltb-true n 10 e, λ q. absurd (omega (arith, q)))
    go w false e =
        let p : ℕ = places_in more (n / 10) in
        let v : 10 ^ suc p ≡ 10 ^ p * 10 = pow-suc 10 p in
        let d : p ≡ suc p - 1 = omega arith in
        let a : 10 ^ p ≤ n = tenfold p (ltb-false n 10 e) w in
        (omega arith, omega (arith, w.1), λ q. subst (λ (x : ℕ). 10 ^ x ≤ n) d a)

-- ---- the digits read back

length_digits : (k n : ℕ) → length (last_digits 10 k n) ≡ k
length_digits zero n = refl
length_digits (suc k) n = length-append (last_digits 10 k (n / 10)) (hex_digit_ascii (n % 10) ∷ []) ∙ omega (arith, length_digits k (n / 10))

digit_glyph : (d : ℕ) → d < 10 → digit (hex_digit_ascii d) ≡ Some d
unfolding digit
digit_glyph d h =
    let e : 48 + d - 48 ≡ d = omega arith in
    rw (lt-ltb d 10 h, is-between 48 57 (48 + d) (omega arith) (omega arith)) (ap Some e)

worth_glyph : (d : ℕ) → d < 10 → worth (hex_digit_ascii d) ≡ d
worth_glyph d h = rw (digit_glyph d h)

numeral_snoc : (r : ℕ) (s : List ℕ) (b : ℕ) → numeral 10 r (s ++ (b ∷ [])) ≡ numeral 10 r s * 10 + worth b
unfolding numeral
numeral_snoc r [] b = refl
numeral_snoc r (a ∷ s) b = numeral_snoc (r * 10 + worth a) s b

back : (k n : ℕ) → n < 10 ^ k → numeral 10 0 (last_digits 10 k n) ≡ n
unfolding numeral
back zero n h = omega arith
back (suc k) n h =
    let u : n < 10 ^ k * 10 = subst (λ (x : ℕ). n < x) (pow-suc 10 k) h in
    let q : numeral 10 0 (last_digits 10 k (n / 10)) ≡ n / 10 = back k (n / 10) (omega arith) in
    let g : worth (hex_digit_ascii (n % 10)) ≡ n % 10 = worth_glyph (n % 10) (omega arith) in
    numeral_snoc 0 (last_digits 10 k (n / 10)) (hex_digit_ascii (n % 10)) ∙ omega (arith, q, g)

digits-join : (s : List ℕ) (b : ℕ) → are_digits 10 s ≡ true → is_digit 10 b ≡ true → are_digits 10 (s ++ (b ∷ [])) ≡ true
unfolding are_digits
digits-join [] b h l = rw l
digits-join (a ∷ s) b h l =
    and_both (is_digit 10 a) (are_digits 10 (s ++ (b ∷ []))) (and_left (is_digit 10 a) (are_digits 10 s) h) (digits-join s b (and_right (is_digit 10 a) (are_digits 10 s) h) l)

all_digits : (k n : ℕ) → are_digits 10 (last_digits 10 k n) ≡ true
unfolding are_digits
all_digits zero n = refl
all_digits (suc k) n =
    digits-join (last_digits 10 k (n / 10)) (hex_digit_ascii (n % 10)) (all_digits k (n / 10)) (rw (digit_glyph (n % 10) (omega arith)) (lt-ltb (n % 10) 10 (omega arith)))

pub decimal-digits : (n : ℕ) → are_digits 10 (decimal n) ≡ true
unfolding decimal
decimal-digits n = all_digits (places_of n) n

pub decimal-back : (n : ℕ) → n < 10 ^ 10 → numeral 10 0 (decimal n) ≡ n
unfolding decimal
decimal-back n h = back (places_of n) n (fewest 9 n h).1

pub decimal-fewest : (n : ℕ) → n < 10 ^ 10 → IsDigitCount 10 1 n (length (decimal n))
unfolding decimal
decimal-fewest n h = subst (IsDigitCount 10 1 n) (sym (length_digits (places_of n) n)) (fewest 9 n h)

-- ---- the line of a file that is bad

pub bad-written : (d d1 d2 name : List ℕ) (n : ℕ) → n ≡ length name → length name + 5 ≤ length d
    → d1 ≡ splice d 0 (part name 0 n)
    → d2 ≡ splice d1 n (part (32 ∷ 98 ∷ 97 ∷ 100 ∷ 10 ∷ []) 0 5)
    → Puts (bad_row name) d d2 (n + 5)
unfolding bad_row part
bad-written d d1 d2 name n z h e1 e2 =
    let bad : List ℕ = 32 ∷ 98 ∷ 97 ∷ 100 ∷ 10 ∷ [] in
    let p : part name 0 n ≡ name = part-whole name n (sym z) in
    let w : d2 ≡ splice d 0 (name ++ bad) =
    e2 ∙ ap (λ (x : List ℕ). splice x n bad) (e1 ∙ ap (splice d 0) p) ∙ ap (λ (x : ℕ). splice (splice d 0 name) x bad) (sym (zero-add n)) ∙ splice-splice d 0 name bad n (sym z) (omega arith) in
    puts_all (name ++ bad) d d2 (n + 5) (omega (arith, length-append name bad)) (omega arith) w

-- ---- fields

pub length-field : (n : ℕ) → length (field n) ≡ 1 + places_of n
unfolding field decimal
length-field n = omega (arith, length_digits (places_of n) n)

pub field-written : (d d2 text : List ℕ) (at n k : ℕ) → n < 10 ^ 10 → IsDigitCount 10 1 n k → text ≡ last_digits 10 k n → at + length (field n) ≤ length d
    → d2 ≡ splice (set d at 32) (at + 1) (part text 0 k)
    → (d2 ≡ splice d at (field n)) × (at + 1 + k ≡ at + length (field n))
unfolding field decimal
field-written d d2 text at n k b f t h w =
    let e : k ≡ places_of n = places_are 9 n k b f in
    let l : length (field n) ≡ 1 + places_of n = length-field n in
    let m : at < length d = omega arith in
    let v : List ℕ = last_digits 10 (places_of n) n in
    let r : at + 1 + length v ≤ length d = omega (arith, length_digits (places_of n) n) in (
      w
          ∙ ap₂ (λ (x y : List ℕ). splice x (at + 1) y) (set-splice d at 32 m) (part-whole text k (ap length t ∙ length_digits k n) ∙ t ∙ ap (λ (x : ℕ). last_digits 10 x n) e)
          ∙ splice-splice d at (32 ∷ []) v 1 refl r,
      omega arith,
    )

fields_open : (ns : List ℕ) (i : ℕ) → i < length ns → fields (drop i ns) ≡ field (get_or ns i 0) ++ fields (drop (i + 1) ns)
unfolding fields
fields_open ns i h = rw (add-one, drop-cons ns i 0 h)

pub fields_turn : (d d' ns : List ℕ) (end end' i : ℕ) → i < length ns → end + length (fields (drop i ns)) ≤ length d
    → d' ≡ splice d end (field (get_or ns i 0)) → end' ≡ end + length (field (get_or ns i 0))
    → (splice d end (fields (drop i ns)) ≡ splice d' end' (fields (drop (i + 1) ns))) × (end' + length (fields (drop (i + 1) ns)) ≡ end + length (fields (drop i ns)))
fields_turn d d' ns end end' i h l e f =
    let x : List ℕ = field (get_or ns i 0) in
    let r : List ℕ = fields (drop (i + 1) ns) in
    let o : fields (drop i ns) ≡ x ++ r = fields_open ns i h in
    let k : length (fields (drop i ns)) ≡ length x + length r = ap length o ∙ length-append x r in (
      ap (splice d end) o
          ∙ sym (splice-splice d end x r (length x) refl (omega arith))
          ∙ ap₂ (λ (y : List ℕ) (z : ℕ). splice y z r) (sym e) (sym f),
      omega arith,
    )

pub fields-room : (ns : List ℕ) (i : ℕ) → i < length ns → length (field (get_or ns i 0)) ≤ length (fields (drop i ns))
fields-room ns i h =
    let k = ap length (fields_open ns i h) ∙ length-append (field (get_or ns i 0)) (fields (drop (i + 1) ns)) in
    omega (arith, k)

pub fields-end : (d ns : List ℕ) (end i : ℕ) → length ns ≤ i → (splice d end (fields (drop i ns)) ≡ d) × (end + length (fields (drop i ns)) ≡ end)
unfolding fields
fields-end d ns end i h = rw (drop_of_length-le ns h) (splice-none d end, omega arith)

-- ---- the line of a file

pub fields-few : (ns : List ℕ) → length (fields ns) ≤ 11 * length ns
unfolding fields
fields-few [] = omega arith
fields-few (n ∷ ns) = omega (arith, length-append (field n) (fields ns), length-field n, few_places 9 n, fields-few ns)

pub row_written : (d d1 d2 d3 name ns : List ℕ) (c : Tally) (n end : ℕ) → ns ≡ numbers_of c → n ≡ length name → length name + 67 ≤ length d
    → d1 ≡ splice d 0 (part name 0 n)
    → d2 ≡ splice d1 n (fields ns)
    → end ≡ n + length (fields ns)
    → d3 ≡ set d2 end 10
    → Puts (row name c) d d3 (end + 1)
unfolding row
row_written d d1 d2 d3 name ns c n end q z h e1 e2 f e3 =
    let F : List ℕ = fields (numbers_of c) in
    let few : length F ≤ 66 = fields-few (numbers_of c) in
    let fl : length (fields ns) ≡ length F = ap (λ (x : List ℕ). length (fields x)) q in
    let p : d1 ≡ splice d 0 name = e1 ∙ ap (splice d 0) (part-whole name n (sym z)) in
    let w2 : d2 ≡ splice d 0 (name ++ F) =
    e2 ∙ ap₂ (λ (x y : List ℕ). splice x n (fields y)) p q ∙ ap (λ (x : ℕ). splice (splice d 0 name) x F) (sym (zero-add n)) ∙ splice-splice d 0 name F n (sym z) (omega arith) in
    let lv : length (name ++ F) ≡ end = length-append name F ∙ omega arith in
    let w3 : d3 ≡ splice d 0 ((name ++ F) ++ (10 ∷ [])) =
    e3 ∙ ap (λ (x : List ℕ). set x end 10) w2 ∙ ap (λ (x : ℕ). set (splice d 0 (name ++ F)) x 10) (sym (zero-add end)) ∙ splice_snoc d 0 (name ++ F) end 10 lv (omega arith) in
    puts_all (name ++ (F ++ (10 ∷ []))) d d3 (end + 1) (omega (arith, length-append name (F ++ (10 ∷ [])), length-append F (10 ∷ []))) (omega arith) (w3 ∙ ap (splice d 0) (append_assoc name F (10 ∷ [])))

-- ---- a text

pub text-written : (d d' v : List ℕ) (n : ℕ) → n ≡ length v → length v ≤ length d → d' ≡ splice d 0 (part v 0 n) → Puts v d d' n
text-written d d' v n e h w = puts_all v d d' n e (omega arith) (w ∙ ap (splice d 0) (part-whole v n (sym e)))

pub none_written : (d : List ℕ) → Puts [] d d 0
none_written d = puts_all [] d d 0 refl (omega arith) (sym (splice-none d 0))
