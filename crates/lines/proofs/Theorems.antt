-- Bytes that are written in hex are read as the same bytes.
-- Assumes nothing.
use mathlib.Core.Bool.{Bool, true, false}
use Rattle.std.proofs.Common.{Some}
use mathlib.Core.List.{List, [], ◌∷◌}
use mathlib.Core.Path.{◌≡◌, refl, ap, ap₂, ◌∙◌}
use Prim.Native.Nat.{ℕ, suc, ◌+◌, ◌-◌, ◌*◌, ◌/◌, ◌%◌, ◌≤◌, ◌<◌}
use native.Mathlib.Omega.{arith}
use lib.Dec.{ltb}
use Rattle.std.specs.Prelude.{if◌then◌else◌}
use borrow.Author.Tests.{lt-ltb, le-leb, lt-leb, ltb-true, ltb-false}
use Rattle.octets.specs.Bytes.{Bytes}
use Rattle.octets.proofs.BoolLaws.{and_both}
use Rattle.lines.specs.Digits.{digit, is_digit, are_digits, worth, glyph, from_hex, bytes_of, to_hex}
use Rattle.lines.specs.Claims.{ReadsBack}

-- ---- a digit

glyph-by : (x : ℕ) (b : Bool) → ltb x 10 ≡ b → x < 16 → digit (glyph x) ≡ Some x
unfolding digit glyph
glyph-by x true e h =
    let l : x < 10 = ltb-true x 10 e in
    let k : 48 + x - 48 ≡ x = omega arith in
    simp (e, le-leb 48 (48 + x) (omega arith), le-leb (48 + x) 57 (omega arith), k)
glyph-by x false e h =
    let l : 10 ≤ x = ltb-false x 10 e in
    let k : 87 + x - 97 + 10 ≡ x = omega arith in
    simp
    (e, le-leb 48 (87 + x) (omega arith), lt-leb (87 + x) 57 (omega arith), le-leb 65 (87 + x) (omega arith), lt-leb (87 + x) 70 (omega arith), le-leb 97 (87 + x) (omega arith), le-leb (87 + x) 102 (omega arith), k)

digit_glyph : (x : ℕ) → x < 16 → digit (glyph x) ≡ Some x
digit_glyph x h = glyph-by x (ltb x 10) refl h

below : (x : ℕ) → x < 16 → is_digit 16 (glyph x) ≡ true
below x h = rw (digit_glyph x h) (lt-ltb x 16 h)

worth_glyph : (x : ℕ) → x < 16 → worth (glyph x) ≡ x
worth_glyph x h = rw (digit_glyph x h)

-- ---- bytes

pub digits-written : (s : List ℕ) → Bytes s → are_digits 16 (to_hex s) ≡ true
unfolding are_digits to_hex
digits-written [] b = refl
digits-written (x ∷ s) b =
    let h : x < 256 = b 0 in
    and_both (is_digit 16 (glyph (x / 16))) _ (below (x / 16) (omega arith))
    (and_both (is_digit 16 (glyph (x % 16))) _ (below (x % 16) (omega arith)) (digits-written s (λ i. b (suc i))))

bytes_back : (s : List ℕ) → Bytes s → from_hex (to_hex s) ≡ s
unfolding from_hex to_hex
bytes_back [] b = refl
bytes_back (x ∷ s) b =
    let h : x < 256 = b 0 in
    let p = worth_glyph (x / 16) (omega arith) in
    let q = worth_glyph (x % 16) (omega arith) in
    let e : worth (glyph (x / 16)) * 16 + worth (glyph (x % 16)) ≡ x = omega arith in
    ap₂ (λ (y : ℕ) (t : List ℕ). y ∷ t) e (bytes_back s (λ i. b (suc i)))

pub reads_back : ReadsBack
unfolding bytes_of
reads_back s b = ap (λ (t : Bool). if t then from_hex (to_hex s) else []) (digits-written s b) ∙ bytes_back s b
