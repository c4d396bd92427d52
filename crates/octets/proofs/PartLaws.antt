-- Laws of the parts of a list.
-- Assumes nothing.
use mathlib.Core.Path.{◌≡◌, refl, sym, ap, ◌∙◌, subst}
use mathlib.Core.Bool.{true}
use mathlib.Core.List.{List, [], ◌∷◌, ◌++◌}
use Prim.Native.Nat.{ℕ, zero, suc, ◌+◌, ◌-◌, ◌≤◌, ◌<◌, min}
use native.Mathlib.Numerals.{add-one}
use native.Mathlib.Omega.{arith}
use lib.ListN.{length, get_or, take, drop, replicate, length-take, length-drop, get_or-eq_default}
use lib.Seq.{drop-cons, take-add, drop-drop, take_at, drop_at, take_all, get_or-take, get_or-drop}
use lib.Dec.{eqb}
use borrow.Author.Tests.{eqb-true}
use Rattle.octets.specs.Bytes.{Bytes, part, all_zero}
use Rattle.octets.proofs.BoolLaws.{and_left, and_right}

pub part_none : (s : List ℕ) (i : ℕ) → part s i 0 ≡ []
unfolding part
part_none s i = refl

pub part-long : (s : List ℕ) (i n : ℕ) → length (part s i n) ≡ min n (length s - i)
unfolding part
part-long s i n = simp (length-take, length-drop)

pub part_length : (s : List ℕ) (i n : ℕ) → i + n ≤ length s → length (part s i n) ≡ n
part_length s i n h = omega (arith, part-long s i n)

pub part_at : (s : List ℕ) (i n k : ℕ) → k < n → get_or (part s i n) k 0 ≡ get_or s (i + k) 0
unfolding part
part_at s i n k h = rw (get_or-take, get_or-drop)

-- what stands nowhere is zero
pub part-past : (s : List ℕ) (i n k : ℕ) → n ≤ k → get_or (part s i n) k 0 ≡ 0
part-past s i n k h = get_or-eq_default (part s i n) 0 (omega (arith, part-long s i n))

-- the elements of a part are bytes where all are
take-bytes : (n : ℕ) (s : List ℕ) → Bytes s → Bytes (take n s)
take-bytes zero s b k = omega arith
take-bytes (suc n) [] b k = omega arith
take-bytes (suc n) (x ∷ s) b zero = b 0
take-bytes (suc n) (x ∷ s) b (suc k) = take-bytes n s (λ j. b (suc j)) k

pub bytes-part : (s : List ℕ) → Bytes s → (i n : ℕ) → Bytes (part s i n)
unfolding part
bytes-part s b i n k = take-bytes n (drop i s) (λ j. subst (λ (x : ℕ). x < 256) (sym (get_or-drop i s j 0)) (b (i + j))) k

pub part-whole : (s : List ℕ) (n : ℕ) → length s ≡ n → part s 0 n ≡ s
unfolding part
part-whole s n h = take_all n s (omega arith)

-- the first element, and what follows it
pub part-cons : (s : List ℕ) (i n : ℕ) → i < length s → part s i (n + 1) ≡ get_or s i 0 ∷ part s (i + 1) n
unfolding part
part-cons s i n h = rw (add-one n, add-one i, drop-cons s i 0 h)

pub part-add : (s : List ℕ) (i n m : ℕ) → part s i (n + m) ≡ part s i n ++ part s (i + n) m
unfolding part
part-add s i n m = take-add n m (drop i s) ∙ ap (λ (r : List ℕ). take n (drop i s) ++ take m r) (drop-drop n i s)

-- what stands before the last element, and it
pub part_snoc : (s : List ℕ) (i n : ℕ) → i + n < length s → part s i (n + 1) ≡ part s i n ++ (get_or s (i + n) 0 ∷ [])
part_snoc s i n h =
    part-add s i n 1
    ∙ ap (λ (x : List ℕ). part s i n ++ x) (part-cons s (i + n) 0 h ∙ ap (λ (x : List ℕ). get_or s (i + n) 0 ∷ x) (part_none s (i + n + 1)))

-- of a list that is cut at the part's ends
pub part_mid : (a b c : List ℕ) (i n : ℕ) → length a ≡ i → length b ≡ n → part (a ++ (b ++ c)) i n ≡ b
unfolding part
part_mid a b c i n e f = ap (λ (l : List ℕ). take n l) (drop_at a (b ++ c) i e) ∙ take_at b c n f

-- ---- zeros

pub all_zero-replicate : (n : ℕ) → all_zero (replicate n 0) ≡ true
unfolding all_zero
all_zero-replicate zero = refl
all_zero-replicate (suc n) = all_zero-replicate n

pub zeros_of : (l : List ℕ) → all_zero l ≡ true → l ≡ replicate (length l) 0
unfolding all_zero
zeros_of [] h = refl
zeros_of (x ∷ xs) h =
    let e : x ≡ 0 = eqb-true x 0 (and_left (eqb x 0) (all_zero xs) h) in
    let r : xs ≡ replicate (length xs) 0 = zeros_of xs (and_right (eqb x 0) (all_zero xs) h) in
    ap (λ (k : ℕ). k ∷ xs) e ∙ ap (λ (k : List ℕ). 0 ∷ k) r

pub all_zero-part : (s : List ℕ) (i n : ℕ) → i + n ≤ length s → all_zero (part s i n) ≡ true → part s i n ≡ replicate n 0
all_zero-part s i n h z = zeros_of (part s i n) z ∙ ap (λ (k : ℕ). replicate k 0) (part_length s i n h)
