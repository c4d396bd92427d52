-- Laws of bytes as texts in hex, for the loops that read and write them.
-- Assumes nothing.
use mathlib.Core.Bool.{Bool, true, false}
use mathlib.Core.Path.{◌≡◌, refl, sym, ap, ap₂, ◌∙◌}
use mathlib.Core.List.{List, [], ◌∷◌, ◌++◌, append_assoc}
use Prim.Native.Nat.{ℕ, zero, suc, ◌+◌, ◌*◌, ◌/◌, ◌%◌, ◌≤◌, ◌<◌, min}
use native.Mathlib.Numerals.{add-one}
use native.Mathlib.Omega.{arith}
use lib.Dec.{leb}
use borrow.Author.Tests.{leb-true, leb-false}
use lib.ListN.{length, get_or, set, take, length-append}
use lib.Seq.{take-suc, take_all, take-nil, length-take-le}
use native.Mathlib.Nat.{zero-add, min-eq_left, min-eq_right, min-le_left, min-le_right}
use Rattle.octets.specs.Bytes.{splice}
use Rattle.octets.proofs.SpliceLaws.{splice_turn, splice-none, splice-length}
use Rattle.lines.specs.Digits.{worth, are_digits, glyph, from_hex, bytes_of, to_hex, Puts}

-- ---- what is written

pub puts_all : (v d d' : List ℕ) (r : ℕ) → r ≡ length v → r ≤ length d → d' ≡ splice d 0 v → Puts v d d' r
puts_all v d d' r e h w =
    let l : length d' ≡ length d = ap length w ∙ splice-length d 0 v (omega arith) in
    record { written = w; many = e; counts = (omega arith, sym (length-take-le r d' (omega arith))) }

-- as much of a list as there is, and as there is room for
take-either : (v : List ℕ) (n m : ℕ) (b : Bool) → leb (length v) m ≡ b → n ≡ min (length v) m → take n v ≡ take m v
take-either v n m true h e =
    let l : length v ≤ m = leb-true (length v) m h in
    let k : n ≡ length v = e ∙ min-eq_left l in
    take_all n v (omega arith) ∙ sym (take_all m v l)
take-either v n m false h e =
    let l : m < length v = leb-false (length v) m h in
    let m-least : m ≤ length v = omega arith in
    ap (λ (k : ℕ). take k v) (e ∙ min-eq_right m-least)

pub take-least : (v : List ℕ) (n m : ℕ) → n ≡ min (length v) m → take n v ≡ take m v
take-least v n m e = take-either v n m (leb (length v) m) refl e

-- ---- bytes read

pub length-from_hex : (s : List ℕ) → length (from_hex s) ≡ length s / 2
unfolding from_hex
length-from_hex [] = refl
length-from_hex (a ∷ []) = refl
length-from_hex (a ∷ b ∷ s) = let e = length-from_hex s in omega arith

-- a text with an element that is no digit has no bytes
pub none_read : (s d : List ℕ) → are_digits 16 s ≡ false → Puts (take (length d) (bytes_of s)) d d 0
unfolding bytes_of
none_read s d e = rw (e, take-nil) (puts_all [] d d 0 refl (omega arith) (sym (splice-none d 0)))

pub all_read : (s d d' : List ℕ) (n : ℕ) → are_digits 16 s ≡ true → n ≡ min (length s / 2) (length d) → d' ≡ splice d 0 (take n (from_hex s))
    → Puts (take (length d) (bytes_of s)) d d' n
unfolding bytes_of
all_read s d d' n e k w =
    let l : n ≡ min (length (from_hex s)) (length d) = k ∙ ap (λ (x : ℕ). min x (length d)) (sym (length-from_hex s)) in
    rw (e, ← take-least (from_hex s) n (length d) l) (puts_all (take n (from_hex s)) d d' n (sym (length-take-le n (from_hex s) (omega (arith, min-le_left (length (from_hex s)) (length d))))) (omega (arith, min-le_right (length (from_hex s)) (length d))) w)

pub from_hex-at : (s : List ℕ) (i : ℕ) → 2 * i + 1 < length s → get_or (from_hex s) i 0 ≡ worth (get_or s (2 * i) 0) * 16 + worth (get_or s (2 * i + 1) 0)
unfolding from_hex
from_hex-at [] i h = omega arith
from_hex-at (a ∷ []) i h = omega arith
from_hex-at (a ∷ b ∷ s) zero h = refl
from_hex-at (a ∷ b ∷ s) (suc i) h =
    let e : 2 * suc i ≡ suc (suc (2 * i)) = omega arith in
    let f : 2 * suc i + 1 ≡ suc (suc (2 * i + 1)) = omega arith in
    from_hex-at s i (omega arith)
    ∙ ap₂ (λ (x y : ℕ). worth (get_or (a ∷ b ∷ s) x 0) * 16 + worth (get_or (a ∷ b ∷ s) y 0)) (sym e) (sym f)

-- one more of the n bytes of a text
more_bytes : (s : List ℕ) (i : ℕ) → 2 * i + 1 < length s
    → take i (from_hex s) ++ ((worth (get_or s (2 * i) 0) * 16 + worth (get_or s (2 * i + 1) 0)) ∷ []) ≡ take (i + 1) (from_hex s)
more_bytes s i h =
    let l : i < length (from_hex s) = omega (arith, length-from_hex s) in
    ap (λ (x : ℕ). take i (from_hex s) ++ (x ∷ [])) (sym (from_hex-at s i h))
    ∙ sym (take-suc (from_hex s) i 0 l)
    ∙ ap (λ (n : ℕ). take n (from_hex s)) (sym (add-one i))

-- a turn of the loop that writes them to d, which is t so far; a and b are the values of the two digits
pub bytes_turn : (s d t : List ℕ) (i a b : ℕ) → 2 * i + 1 < length s → i < length d
    → a ≡ worth (get_or s (2 * i) 0) → b ≡ worth (get_or s (2 * i + 1) 0) → t ≡ splice d 0 (take i (from_hex s))
    → set t i (a * 16 + b) ≡ splice d 0 (take (i + 1) (from_hex s))
bytes_turn s d t i a b h l p q e =
    let n : length (take i (from_hex s)) ≡ i = length-take-le i (from_hex s) (omega (arith, length-from_hex s)) in
    let z : 0 + i < length d = omega arith in
    ap (λ (k : ℕ). set t k (a * 16 + b)) (sym (zero-add i))
    ∙ ap₂ (λ (x y : ℕ). set t (0 + i) (x * 16 + y)) p q
    ∙ splice_turn d 0 i _ t (take i (from_hex s)) _ z n e (more_bytes s i h)

-- ---- bytes written

pub length-to_hex : (s : List ℕ) → length (to_hex s) ≡ 2 * length s
unfolding to_hex
length-to_hex [] = refl
length-to_hex (x ∷ s) = let e = length-to_hex s in omega arith

to_hex-append : (s t : List ℕ) → to_hex (s ++ t) ≡ to_hex s ++ to_hex t
unfolding to_hex
to_hex-append [] t = refl
to_hex-append (x ∷ s) t = ap (λ (r : List ℕ). glyph (x / 16) ∷ glyph (x % 16) ∷ r) (to_hex-append s t)

-- one more byte
more_digits : (s : List ℕ) (i : ℕ) → i < length s
    → (to_hex (take i s) ++ (glyph (get_or s i 0 / 16) ∷ [])) ++ (glyph (get_or s i 0 % 16) ∷ []) ≡ to_hex (take (i + 1) s)
unfolding to_hex
more_digits s i h =
    append_assoc (to_hex (take i s)) (glyph (get_or s i 0 / 16) ∷ []) (glyph (get_or s i 0 % 16) ∷ [])
    ∙ sym (to_hex-append (take i s) (get_or s i 0 ∷ []))
    ∙ ap to_hex (sym (take-suc s i 0 h))
    ∙ ap (λ (n : ℕ). to_hex (take n s)) (sym (add-one i))

-- a turn of the loop that writes its digits to d, which is t so far
pub digits_turn : (s d t : List ℕ) (i a b : ℕ) → i < length s → 2 * i + 1 < length d
    → a ≡ glyph (get_or s i 0 / 16) → b ≡ glyph (get_or s i 0 % 16) → t ≡ splice d 0 (to_hex (take i s))
    → set (set t (2 * i) a) (2 * i + 1) b ≡ splice d 0 (to_hex (take (i + 1) s))
digits_turn s d t i a b h l p q e =
    let n : length (to_hex (take i s)) ≡ 2 * i = omega (arith, length-to_hex (take i s), length-take-le i s (omega arith)) in
    let m : length (to_hex (take i s) ++ (a ∷ [])) ≡ 2 * i + 1 = omega (arith, length-append (to_hex (take i s)) (a ∷ []), n) in
    let first : set t (2 * i) a ≡ splice d 0 (to_hex (take i s) ++ (a ∷ [])) =
    ap (λ (k : ℕ). set t k a) (sym (zero-add (2 * i))) ∙ splice_turn d 0 (2 * i) a t (to_hex (take i s)) _ (omega arith) n e refl in
    ap (λ (k : ℕ). set (set t (2 * i) a) k b) (sym (zero-add (2 * i + 1)))
    ∙ splice_turn d 0 (2 * i + 1) b (set t (2 * i) a) (to_hex (take i s) ++ (a ∷ [])) _ (omega arith) m first
    (ap₂ (λ (x y : ℕ). (to_hex (take i s) ++ (x ∷ [])) ++ (y ∷ [])) p q ∙ more_digits s i h)

pub all-written : (s d d' : List ℕ) (n : ℕ) → n ≡ min (length s) (length d / 2) → d' ≡ splice d 0 (to_hex (take n s)) → Puts (to_hex (take (length d / 2) s)) d d' (2 * n)
all-written s d d' n e w =
    let l : n ≤ length s = omega (arith, min-le_left (length s) (length d / 2)) in
    let m : n ≤ length d / 2 = omega (arith, min-le_right (length s) (length d / 2)) in
    rw (← take-least s n (length d / 2) e) (puts_all (to_hex (take n s)) d d' (2 * n) (omega (arith, length-to_hex (take n s), length-take-le n s l)) (omega arith) w)
