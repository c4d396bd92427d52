-- Laws of a list that is written over, and of a gap closed or opened.
-- Assumes nothing.
use mathlib.Core.Path.{◌≡◌, refl, sym, ap, ◌∙◌}
use mathlib.Core.List.{List, [], ◌∷◌, ◌++◌, append_assoc, append-nil}
use Prim.Native.Nat.{ℕ, ◌+◌, ◌-◌, ◌≤◌, ◌<◌}
use native.Mathlib.Nat.{add-zero, zero-add, add_assoc}
use native.Mathlib.Numerals.{add-one}
use native.Mathlib.Omega.{arith}
use lib.ListN.{length, get_or, set, take, drop, replicate, length-append, length-drop, take-append-drop, length-replicate, drop_of_length-le}
use lib.Seq.{get_or-drop, set_split, take_at, drop_at, drop-drop, length-take-le}
use borrow.Rule.Slice.PartMut.{put_mid}
use Rattle.std.specs.List.{copy_within}
use Rattle.std.proofs.lemmas.List.Edits.{paste_all}
use Rattle.std.proofs.lemmas.Slice.{put_mid-paste}
use Rattle.octets.specs.Bytes.{part, splice, closed}
use Rattle.octets.proofs.PartLaws.{part_snoc, part-add, part_length, part_mid}

pub splice-none : (d : List ℕ) (i : ℕ) → splice d i [] ≡ d
unfolding splice
splice-none d i = ap (λ (k : ℕ). take i d ++ drop k d) (add-zero i) ∙ take-append-drop i d

-- the part that stands before what is left of d
front : (d : List ℕ) (i : ℕ) (v : List ℕ) → i ≤ length d → length (take i d ++ v) ≡ i + length v
front d i v h = length-append (take i d) v ∙ ap (λ (k : ℕ). k + length v) (length-take-le i d h)

pub splice-length : (d : List ℕ) (i : ℕ) (v : List ℕ) → i + length v ≤ length d → length (splice d i v) ≡ length d
unfolding splice
splice-length d i v h =
    let l : i ≤ length d = omega arith in
    ap length (sym (append_assoc (take i d) v (drop (i + length v) d)))
    ∙ length-append (take i d ++ v) (drop (i + length v) d)
    ∙ ap (λ (k : ℕ). k + length (drop (i + length v) d)) (front d i v l)
    ∙ omega (arith, length-drop (i + length v) d)

pub splice-drop : (d : List ℕ) (i : ℕ) (v : List ℕ) (k : ℕ) → length v ≡ k → i ≤ length d → drop (i + k) (splice d i v) ≡ drop (i + k) d
unfolding splice
splice-drop d i v k e h =
    ap (λ (l : List ℕ). drop (i + k) l) (sym (append_assoc (take i d) v (drop (i + length v) d)))
    ∙ drop_at (take i d ++ v) (drop (i + length v) d) (i + k) (front d i v h ∙ ap (λ (x : ℕ). i + x) e)
    ∙ ap (λ (x : ℕ). drop (i + x) d) e

pub splice-take : (d : List ℕ) (i : ℕ) (v : List ℕ) (k : ℕ) → length v ≡ k → i ≤ length d → take (i + k) (splice d i v) ≡ take i d ++ v
unfolding splice
splice-take d i v k e h =
    ap (λ (l : List ℕ). take (i + k) l) (sym (append_assoc (take i d) v (drop (i + length v) d)))
    ∙ take_at (take i d ++ v) (drop (i + length v) d) (i + k) (front d i v h ∙ ap (λ (x : ℕ). i + x) e)

-- what stands past the splice is as it was
pub splice-past : (d : List ℕ) (i : ℕ) (v : List ℕ) (k j : ℕ) → length v ≡ k → i ≤ length d → get_or (splice d i v) (i + k + j) 0 ≡ get_or d (i + k + j) 0
splice-past d i v k j e h =
    sym (get_or-drop (i + k) (splice d i v) j 0) ∙ ap (λ (l : List ℕ). get_or l j 0) (splice-drop d i v k e h) ∙ get_or-drop (i + k) d j 0

-- two splices, one behind the other
pub splice-splice : (d : List ℕ) (i : ℕ) (v w : List ℕ) (k : ℕ) → length v ≡ k → i + k + length w ≤ length d
    → splice (splice d i v) (i + k) w ≡ splice d i (v ++ w)
unfolding splice
splice-splice d i v w k e h =
    let l : i ≤ length d = omega arith in
    ap (λ (x : List ℕ). x ++ (w ++ drop (i + k + length w) (splice d i v))) (splice-take d i v k e l)
    ∙ append_assoc (take i d) v (w ++ drop (i + k + length w) (splice d i v))
    ∙ ap (λ (x : List ℕ). take i d ++ x) (sym (append_assoc v w (drop (i + k + length w) (splice d i v))))
    ∙ ap (λ (x : List ℕ). take i d ++ ((v ++ w) ++ x))
    (sym (drop-drop (length w) (i + k) (splice d i v))
    ∙ ap (λ (x : List ℕ). drop (length w) x) (splice-drop d i v k e l)
    ∙ drop-drop (length w) (i + k) d
    ∙ ap (λ (x : ℕ). drop x d)
    (add_assoc i k (length w)
    ∙ ap (λ (x : ℕ). i + (x + length w)) (sym e)
    ∙ ap (λ (x : ℕ). i + x) (sym (length-append v w))))

-- a list all written over
pub splice_all : (d v : List ℕ) → length d ≡ length v → splice d 0 v ≡ v
unfolding splice
splice_all d v e =
    let l : length d ≤ 0 + length v = omega arith in
    ap (λ (z : List ℕ). v ++ z) (drop_of_length-le d l) ∙ append-nil v

-- the front of a list written over from its start
pub splice_front : (d v : List ℕ) (n : ℕ) → length v ≡ n → take n (splice d 0 v) ≡ v
unfolding splice
splice_front d v n e = take_at v (drop (0 + length v) d) n e

-- a store is a splice of one
pub set-splice : (d : List ℕ) (i x : ℕ) → i < length d → set d i x ≡ splice d i (x ∷ [])
unfolding splice
set-splice d i x h = set_split d i x h ∙ ap (λ (k : ℕ). take i d ++ x ∷ drop k d) (sym (add-one i))

-- a store just behind the splice, and just before it
pub splice_snoc : (d : List ℕ) (i : ℕ) (v : List ℕ) (k x : ℕ) → length v ≡ k → i + k < length d
    → set (splice d i v) (i + k) x ≡ splice d i (v ++ (x ∷ []))
splice_snoc d i v k x e h =
    let l : i + length v ≤ length d = omega arith in
    let b : i + k < length (splice d i v) = omega (arith, splice-length d i v l) in
    let b2 : i + k + 1 ≤ length d = omega arith in
    set-splice (splice d i v) (i + k) x b ∙ splice-splice d i v (x ∷ []) k e b2

-- ---- of a list that is cut at the ends of what is written

pub splice_mid : (a x c w : List ℕ) (i : ℕ) → length a ≡ i → length x ≡ length w → splice (a ++ (x ++ c)) i w ≡ a ++ (w ++ c)
unfolding splice
splice_mid a x c w i e f =
    ap (λ (l : List ℕ). l ++ (w ++ drop (i + length w) (a ++ (x ++ c)))) (take_at a (x ++ c) i e)
    ∙ ap (λ (l : List ℕ). a ++ (w ++ drop (i + length w) l)) (sym (append_assoc a x c))
    ∙ ap (λ (l : List ℕ). a ++ (w ++ l)) (drop_at (a ++ x) c (i + length w) (omega (arith, length-append a x)))

pub closed_mid : (a g b c : List ℕ) (i gap n : ℕ) → length a ≡ i → length g ≡ gap → length b ≡ n
    → closed (a ++ (g ++ (b ++ c))) i gap n ≡ a ++ (b ++ (replicate gap 0 ++ c))
unfolding closed
closed_mid a g b c i gap n ea eg eb =
    let s : List ℕ = a ++ (g ++ (b ++ c)) in
    let p : part s (i + gap) n ≡ b =
    ap (λ (l : List ℕ). part l (i + gap) n) (sym (append_assoc a g (b ++ c))) ∙ part_mid (a ++ g) b c (i + gap) n (omega (arith, length-append a g)) eb in
    let w : List ℕ = b ++ replicate gap 0 in
    ap (λ (l : List ℕ). splice s i (l ++ replicate gap 0)) p
    ∙ ap (λ (l : List ℕ). splice (a ++ l) i w) (sym (append_assoc g b c))
    ∙ splice_mid a (g ++ b) c w i ea (omega (arith, length-append g b, length-append b (replicate gap 0), length-replicate {A = ℕ} gap 0))
    ∙ ap (λ (l : List ℕ). a ++ l) (append_assoc b (replicate gap 0) c)

-- two splices, the one in front written last
pub splice-head : (d : List ℕ) (i : ℕ) (v w : List ℕ) (k : ℕ) → length v ≡ k → i + k ≤ length d → splice (splice d (i + k) w) i v ≡ splice d i (v ++ w)
unfolding splice part
splice-head d i v w k e h =
    let t : List ℕ = w ++ drop (i + k + length w) d in
    let l : length (take i d) ≡ i = length-take-le i d (omega arith) in
    let z : i + k + length w ≡ i + length (v ++ w) = omega (arith, length-append v w) in
    let cut : take (i + k) d ≡ take i d ++ part d i k = part-add d 0 i k ∙ ap (λ (n : ℕ). take i d ++ part d n k) (zero-add i) in
    ap (λ (x : List ℕ). splice (x ++ t) i v) cut
    ∙ ap (λ (x : List ℕ). splice x i v) (append_assoc (take i d) (part d i k) t)
    ∙ splice_mid (take i d) (part d i k) t v i l (part_length d i k h ∙ sym e)
    ∙ ap (λ (x : List ℕ). take i d ++ x) (sym (append_assoc v w (drop (i + k + length w) d)) ∙ ap (λ (n : ℕ). (v ++ w) ++ drop n d) z)

-- a loop that writes v, of k bytes so far, behind index i: d is the list at the start, s the list now
pub splice_turn : (d : List ℕ) (i k x : ℕ) (s v w : List ℕ) → i + k < length d → length v ≡ k → s ≡ splice d i v → v ++ (x ∷ []) ≡ w
    → set s (i + k) x ≡ splice d i w
splice_turn d i k x s v w h l e f =
    ap (λ (z : List ℕ). set z (i + k) x) e ∙ splice_snoc d i v k x l h ∙ ap (λ (z : List ℕ). splice d i z) f

-- ---- the methods of slices

-- a part written over: v is what it holds now
pub part_written : (i k : ℕ) (d v : List ℕ) → length v ≡ k → put_mid i k d v ≡ splice d i v
unfolding splice
part_written i k d v l = put_mid-paste i k d v v (length v) refl l refl ∙ paste_all d i v (length v) refl

pub copy_within-splice : (d : List ℕ) (at j i n : ℕ) → at + n ≡ j → at + n ≤ length d → copy_within d at j i ≡ splice d i (part d at n)
unfolding splice part
copy_within-splice d at j i n e h =
    let k : j - at ≡ n = omega arith in
    let l : length (take n (drop at d)) ≡ n = part_length d at n h in
    rw (k, l) (append_assoc (take i d) (take n (drop at d)) (drop (i + n) d))

pub copy_turn : (d : List ℕ) (i : ℕ) (src : List ℕ) (at k : ℕ) (s : List ℕ) → i + k < length d → at + k < length src → s ≡ splice d i (part src at k)
    → set s (i + k) (get_or src (at + k) 0) ≡ splice d i (part src at (k + 1))
copy_turn d i src at k s h l e =
    splice_turn d i k (get_or src (at + k) 0) s (part src at k) _ h (part_length src at k (omega arith)) e (sym (part_snoc src at k l))

-- bytes moved down are read past what is written
pub move_turn : (d : List ℕ) (i gap k : ℕ) (s : List ℕ) → i + gap + k < length d → s ≡ splice d i (part d (i + gap) k)
    → set s (i + k) (get_or s (i + gap + k) 0) ≡ splice d i (part d (i + gap) (k + 1))
move_turn d i gap k s h e =
    let lv : length (part d (i + gap) k) ≡ k = part_length d (i + gap) k (omega arith) in
    let j : i + gap + k ≡ i + k + gap = omega arith in
    let r : get_or s (i + gap + k) 0 ≡ get_or d (i + gap + k) 0 =
    ap (λ (x : List ℕ). get_or x (i + gap + k) 0) e ∙ ap (λ (x : ℕ). get_or (splice d i (part d (i + gap) k)) x 0) j ∙ splice-past d i (part d (i + gap) k) k gap lv (omega arith)
    ∙ ap (λ (x : ℕ). get_or d x 0) (sym j) in
    ap (λ (x : ℕ). set s (i + k) x) r ∙ copy_turn d i d (i + gap) k s (omega arith) h e

pub closed_is : (d : List ℕ) (i gap n : ℕ) (s t : List ℕ) → i + gap + n ≤ length d → s ≡ splice d i (part d (i + gap) n) → t ≡ splice s (i + n) (replicate gap 0)
    → t ≡ closed d i gap n
unfolding closed
closed_is d i gap n s t h e f =
    f ∙ ap (λ (x : List ℕ). splice x (i + n) (replicate gap 0)) e
    ∙ splice-splice d i (part d (i + gap) n) (replicate gap 0) n (part_length d (i + gap) n h) (omega (arith, length-replicate {A = ℕ} gap 0))
