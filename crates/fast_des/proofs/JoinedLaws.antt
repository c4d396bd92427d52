-- The tables by their rules, and a permutation made of what its table has for each group of four bits.
-- Assumes nothing.
use mathlib.Core.Path.{◌≡◌, refl, sym, ap, ap₂, ◌∙◌, subst, subst⁻¹}
use mathlib.Core.Bool.{Bool, true, false}
use mathlib.Core.List.{List, [], ◌∷◌, ◌++◌, map}
use Prim.Native.Nat.{ℕ, zero, suc, ◌+◌, ◌-◌, ◌*◌, ◌/◌, ◌%◌, ◌^◌, ◌≤◌, ◌<◌}
use native.Mathlib.Nat.{le_of_suc-le-suc, not-suc-le-zero, div-lt_iff_lt-mul}
use native.Mathlib.Omega.{arith}
use lib.Bits.{bit_and, bit_xor, xor_comm}
use lib.Dec.{ltb, lit<}
use lib.Pow.{pow_pos}
use borrow.Author.Tests.{ltb-true, ltb-false}
use lib.ListN.{length, get_or, take, drop, length-append, length-drop, length-map}
use lib.Seq.{take_all, drop_at, take-append-le, drop-append-le}
use Rattle.des.specs.Bits.{bits, value, xor_bits}
use Rattle.des.specs.Tables.{e, p, pc2}
use Rattle.des.specs.Des.{permute, select, selects}
use Rattle.des.specs.Words.{Holds, up_from}
use Rattle.fast_des.specs.Joined.{zeros, placed, moved, joined_entry, joined, pc2_entry, pc2_groups}
use Rattle.des.proofs.BitLaws.{length-bits}
use Rattle.des.proofs.BlockLaws.{Small, small-nil, small-cons, small-append, small-permute, small-bits, length-permute, value-high, bits-value}
use Rattle.des.proofs.MapLaws.{get_d_map}
use Rattle.fast_des.proofs.LinearLaws.{permute_xor}
use Rattle.des.proofs.WordLaws.{recast, xored, group-bits}

-- ---- a list with zeros for all but the places from m to n

unfoldable pub keep : ℕ → ℕ → List ℕ → List ℕ
keep m n [] = []
keep zero zero (x ∷ s) = 0 ∷ keep zero zero s
keep zero (suc n) (x ∷ s) = x ∷ keep zero n s
keep (suc m) zero (x ∷ s) = 0 ∷ keep m zero s
keep (suc m) (suc n) (x ∷ s) = 0 ∷ keep m n s

pub length-keep : (m n : ℕ) (s : List ℕ) → length (keep m n s) ≡ length s
unfolding keep
length-keep m n [] = refl
length-keep zero zero (x ∷ s) = ap suc (length-keep zero zero s)
length-keep zero (suc n) (x ∷ s) = ap suc (length-keep zero n s)
length-keep (suc m) zero (x ∷ s) = ap suc (length-keep m zero s)
length-keep (suc m) (suc n) (x ∷ s) = ap suc (length-keep m n s)

-- two parts side by side
pub merge : (m n o : ℕ) (s : List ℕ) → m ≤ n → n ≤ o → Small s → xor_bits (keep m n s) (keep n o s) ≡ keep m o s
unfolding keep xor_bits
merge m n o [] h l b = refl
merge zero zero zero (x ∷ s) h l b = ap (λ (t : List ℕ). 0 ∷ t) (merge zero zero zero s h l (λ i. b (suc i)))
merge zero zero (suc o) (x ∷ s) h l b =
    let x2 : x < 2 = b zero in
    let v : (0 + x) % 2 ≡ x = omega arith in
    ap₂ (λ (y : ℕ) (t : List ℕ). y ∷ t) v (merge zero zero o s h (omega arith) (λ i. b (suc i)))
merge zero (suc n) zero (x ∷ s) h l b = absurd (not-suc-le-zero l)
merge zero (suc n) (suc o) (x ∷ s) h l b =
    let x2 : x < 2 = b zero in
    let v : (x + 0) % 2 ≡ x = omega arith in
    ap₂ (λ (y : ℕ) (t : List ℕ). y ∷ t) v (merge zero n o s (omega arith) (le_of_suc-le-suc l) (λ i. b (suc i)))
merge (suc m) zero o (x ∷ s) h l b = absurd (not-suc-le-zero h)
merge (suc m) (suc n) zero (x ∷ s) h l b = absurd (not-suc-le-zero l)
merge (suc m) (suc n) (suc o) (x ∷ s) h l b = ap (λ (t : List ℕ). 0 ∷ t) (merge m n o s (le_of_suc-le-suc h) (le_of_suc-le-suc l) (λ i. b (suc i)))

pub keep-none : (m : ℕ) (s : List ℕ) → keep m m s ≡ zeros (length s)
unfolding keep zeros
keep-none m [] = refl
keep-none zero (x ∷ s) = ap (λ (t : List ℕ). 0 ∷ t) (keep-none zero s)
keep-none (suc m) (x ∷ s) = ap (λ (t : List ℕ). 0 ∷ t) (keep-none m s)

front : (n : ℕ) (s : List ℕ) → keep 0 n s ≡ take n s ++ zeros (length s - n)
unfolding keep zeros
front zero s =
    let z : length s - 0 ≡ length s = omega arith in
    keep-none 0 s ∙ ap zeros (sym z)
front (suc n) [] =
    let z : 0 ≡ 0 - suc n = omega arith in
    ap zeros z
front (suc n) (x ∷ s) =
    let z : length s - n ≡ suc (length s) - suc n = omega arith in
    ap (λ (t : List ℕ). x ∷ t) (front n s ∙ ap (λ (k : ℕ). take n s ++ zeros k) z)

within : (m n : ℕ) (s : List ℕ) → m ≤ length s → keep m (m + n) s ≡ zeros m ++ (take n (drop m s) ++ zeros (length s - (m + n)))
unfolding keep zeros
within zero n s h =
    let z : 0 + n ≡ n = omega arith in
    ap (λ (k : ℕ). keep 0 k s) z ∙ front n s ∙ ap (λ (k : ℕ). take n s ++ zeros (length s - k)) (sym z)
within (suc m) n [] h = absurd (not-suc-le-zero h)
within (suc m) n (x ∷ s) h =
    let z : suc m + n ≡ suc (m + n) = omega arith in
    let r : length s - (m + n) ≡ suc (length s) - (suc m + n) = omega arith in
    ap (λ (k : ℕ). keep (suc m) k (x ∷ s)) z
    ∙ ap (λ (t : List ℕ). 0 ∷ t) (within m n s (le_of_suc-le-suc h) ∙ ap (λ (k : ℕ). zeros m ++ (take n (drop m s) ++ zeros k)) r)

pub keep_all : (w : ℕ) (s : List ℕ) → length s ≡ w → keep 0 w s ≡ s
unfolding keep
keep_all zero [] h = refl
keep_all zero (x ∷ s) h = absurd (not-suc-le-zero (subst (λ (n : ℕ). n ≤ 0) (sym h) (omega arith)))
keep_all (suc w) [] h = refl
keep_all (suc w) (x ∷ s) h = ap (λ (t : List ℕ). x ∷ t) (keep_all w s (omega arith))

pub keep-placed : (w k : ℕ) (s : List ℕ) → length s ≡ w → 4 * k + 4 ≤ w → keep (4 * k) (4 * k + 4) s ≡ placed w k (take 4 (drop (4 * k) s))
unfolding placed
keep-placed w k s h l =
    within (4 * k) 4 s (omega arith) ∙ ap (λ (n : ℕ). zeros (4 * k) ++ (take 4 (drop (4 * k) s) ++ zeros (n - (4 * k + 4)))) h

-- what is linear, of two parts side by side
pub merged : (f : List ℕ → List ℕ) → ((a b : List ℕ) → length a ≡ length b → f (xor_bits a b) ≡ xor_bits (f a) (f b)) → (v m n o : ℕ) {a b : ℕ} (s : List ℕ) → m ≤ n → n ≤ o → Small s
    → Holds v a (f (keep m n s)) → Holds v b (f (keep n o s)) → Holds v (bit_xor a b) (f (keep m o s))
merged f linear v m n o s h l small ha hb =
    recast (xored v ha hb) (sym (linear (keep m n s) (keep n o s) (length-keep m n s ∙ sym (length-keep n o s))) ∙ ap f (merge m n o s h l small))

-- P, then E
pub expanded_xor : (a b : List ℕ) → length a ≡ length b → permute e (permute p (xor_bits a b)) ≡ xor_bits (permute e (permute p a)) (permute e (permute p b))
expanded_xor a b h = ap (permute e) (permute_xor p a b h) ∙ permute_xor e (permute p a) (permute p b) (length-permute p a ∙ sym (length-permute p b))

length-select : (k : ℕ) (g : List ℕ) → length (select k g) ≡ 4
unfolding select
length-select k g = length-bits 4 _

pub length-selects : (n : ℕ) (y : List ℕ) → length (selects n y) ≡ 4 * n
unfolding selects
length-selects zero y = refl
length-selects (suc n) y =
    let g = take 6 (drop (6 * n) y) in
    omega (arith, length-append (selects n y) (select n g), length-selects n y, length-select n g)

small-select : (k : ℕ) (g : List ℕ) → Small (select k g)
unfolding select
small-select k g = small-bits 4 _

pub small-selects : (n : ℕ) (y : List ℕ) → Small (selects n y)
unfolding selects
small-selects zero y = small-nil
small-selects (suc n) y = small-append (selects n y) (select n (take 6 (drop (6 * n) y))) (small-selects n y) (small-select n (take 6 (drop (6 * n) y)))

selects_more : (n : ℕ) (y : List ℕ) → selects (suc n) y ≡ selects n y ++ select n (take 6 (drop (6 * n) y))
unfolding selects
selects_more n y = refl

-- the four bits of one box among those of all
pub selects-part : (n k : ℕ) (y : List ℕ) → k < n → take 4 (drop (4 * k) (selects n y)) ≡ select k (take 6 (drop (6 * k) y))
selects-part zero k y h = absurd (not-suc-le-zero h)
selects-part (suc n) k y h = go (ltb k n) refl (λ l. selects-part n k y l)
  where
    s : List ℕ
    s = selects n y

    t : List ℕ
    t = select n (take 6 (drop (6 * n) y))

    go : (b : Bool) → ltb k n ≡ b → (k < n → take 4 (drop (4 * k) s) ≡ select k (take 6 (drop (6 * k) y)))
        → take 4 (drop (4 * k) (selects (suc n) y)) ≡ select k (take 6 (drop (6 * k) y))
    go true q before =
        let l : k < n = ltb-true k n q in
        let d : 4 * k ≤ length s = omega (arith, length-selects n y) in
        let m : 4 ≤ length (drop (4 * k) s) = omega (arith, length-selects n y, length-drop (4 * k) s) in
        ap (λ (r : List ℕ). take 4 (drop (4 * k) r)) (selects_more n y) ∙ ap (take 4) (drop-append-le (4 * k) s t d) ∙ take-append-le 4 (drop (4 * k) s) t m ∙ before l
    go false q before =
        let l : k ≡ n = omega (arith, ltb-false k n q) in
        let d : length s ≡ 4 * k = omega (arith, length-selects n y) in
        ap (λ (r : List ℕ). take 4 (drop (4 * k) r)) (selects_more n y) ∙ ap (take 4) (drop_at s t (4 * k) d)
        ∙ take_all 4 t (omega (arith, length-select n (take 6 (drop (6 * n) y)))) ∙ ap (λ (i : ℕ). select i (take 6 (drop (6 * i) y))) (sym l)

-- ---- entries of the tables

up_from-at : (a n i : ℕ) → i < n → get_or (up_from a n) i 0 ≡ a + i
up_from-at a zero i h = absurd (not-suc-le-zero h)
up_from-at a (suc n) zero h = omega arith
up_from-at a (suc n) (suc i) h =
    let z : suc a + i ≡ a + suc i = omega arith in
    up_from-at (suc a) n i (le_of_suc-le-suc h) ∙ z

length-up_from : (a n : ℕ) → length (up_from a n) ≡ n
length-up_from a zero = refl
length-up_from a (suc n) = ap suc (length-up_from (suc a) n)

ruled : (f : ℕ → ℕ) (n i : ℕ) → i < n → get_or (map f (up_from 0 n)) i 0 ≡ f i
ruled f n i h =
    let z : 0 + i ≡ i = omega arith in
    get_d_map f (up_from 0 n) i (subst⁻¹ (λ (m : ℕ). i < m) (length-up_from 0 n) h) ∙ ap f (up_from-at 0 n i h ∙ z)

pub length-joined : length joined ≡ 512
unfolding joined
length-joined = length-map (up_from 0 512) joined_entry ∙ length-up_from 0 512

pub length-pc2_groups : length pc2_groups ≡ 224
unfolding pc2_groups
length-pc2_groups = length-map (up_from 0 224) pc2_entry ∙ length-up_from 0 224

-- a list of bits, and the number that it represents
valued : (w : ℕ) (bs : List ℕ) → length bs ≡ w → Small bs → Holds w (value bs) bs
unfolding value
valued w bs h s =
    let q : value bs / 2 ^ w ≡ 0 = ap (λ (n : ℕ). value bs / 2 ^ n) (sym h) ∙ value-high 0 bs s in
    let l : value bs / 2 ^ w < 1 = omega arith in
    let o : 1 * 2 ^ w ≡ 2 ^ w = omega arith in
    record { fits = subst (λ (n : ℕ). value bs < n) o ((div-lt_iff_lt-mul (pow_pos w)).0 l); same = ap (λ (n : ℕ). bits n (value bs)) (sym h) ∙ bits-value bs s }

small-zeros : (n : ℕ) → Small (zeros n)
unfolding zeros
small-zeros zero = small-nil
small-zeros (suc n) = small-cons 0 (zeros n) (lit< tt) (small-zeros n)

small-placed : (w k : ℕ) (s : List ℕ) → Small s → Small (placed w k s)
unfolding placed
small-placed w k s h =
    small-append (zeros (4 * k)) (s ++ zeros (w - (4 * k + 4))) (small-zeros (4 * k)) (small-append s (zeros (w - (4 * k + 4))) h (small-zeros (w - (4 * k + 4))))

pub joined_at : (k g : ℕ) → k < 8 → g < 64 → Holds 48 (get_or joined (64 * k + g) 0) (permute e (moved k g))
unfolding joined joined_entry moved e
joined_at k g hk hg =
    let d : (64 * k + g) / 64 ≡ k = omega arith in
    let m : (64 * k + g) % 64 ≡ g = omega arith in
    let bs = permute e (moved k g) in
    subst⁻¹ (λ (n : ℕ). Holds 48 n bs) (ruled joined_entry 512 (64 * k + g) (omega arith) ∙ ap₂ (λ (a b : ℕ). value (permute e (moved a b))) d m)
    (valued 48 bs (length-permute e (moved k g)) (small-permute e (moved k g) (small-permute p _ (small-placed 32 k (select k (bits 6 g)) (small-select k (bits 6 g))))))

pub pc2-at : (i v : ℕ) → i < 14 → v < 16 → Holds 48 (get_or pc2_groups (16 * i + v) 0) (permute pc2 (placed 56 i (bits 4 v)))
unfolding pc2_groups pc2_entry pc2
pc2-at i v hi hv =
    let d : (16 * i + v) / 16 ≡ i = omega arith in
    let m : (16 * i + v) % 16 ≡ v = omega arith in
    let bs = permute pc2 (placed 56 i (bits 4 v)) in
    subst⁻¹ (λ (n : ℕ). Holds 48 n bs) (ruled pc2_entry 224 (16 * i + v) (omega arith) ∙ ap₂ (λ (a b : ℕ). value (permute pc2 (placed 56 a (bits 4 b)))) d m)
    (valued 48 bs (length-permute pc2 (placed 56 i (bits 4 v))) (small-permute pc2 _ (small-placed 56 i (bits 4 v) (small-bits 4 v))))

-- ---- the loop over the boxes, from the last

pub boxes_start : (y : List ℕ) → Holds 48 0 (permute e (permute p (keep 32 32 (selects 8 y))))
unfolding zeros permute p e bits
boxes_start y =
    let z : keep 32 32 (selects 8 y) ≡ zeros 32 = keep-none 32 (selects 8 y) ∙ ap zeros (length-selects 8 y) in
    subst⁻¹ (λ (l : List ℕ). Holds 48 0 (permute e (permute p l))) z (record { fits = lit< tt; same = refl })

pub boxes_step : (k x : ℕ) {r q : ℕ} → 0 < k → k ≤ 8 → Holds 48 r (permute e (permute p (keep (4 * k) 32 (selects 8 (bits 48 x)))))
    → Holds 48 q (permute e (moved (k - 1) (bit_and (x / 2 ^ (42 - 6 * (k - 1))) 63))) → Holds 48 (bit_xor r q) (permute e (permute p (keep (4 * (k - 1)) 32 (selects 8 (bits 48 x)))))
unfolding moved
boxes_step k x {r} {q} h l hr hq =
    let j = k - 1 in
    let s = selects 8 (bits 48 x) in
    let g = bit_and (x / 2 ^ (42 - 6 * j)) 63 in
    let w : 6 * j + (6 + (42 - 6 * j)) ≡ 48 = omega arith in
    let n : 4 * j + 4 ≡ 4 * k = omega arith in
    let box : bits 6 g ≡ take 6 (drop (6 * j) (bits 48 x)) = group-bits (6 * j) 6 (42 - 6 * j) x ∙ ap (λ (m : ℕ). take 6 (drop (6 * j) (bits m x))) w in
    let one : placed 32 j (select j (bits 6 g)) ≡ keep (4 * j) (4 * k) s =
    ap (λ (b : List ℕ). placed 32 j (select j b)) box ∙ ap (placed 32 j) (sym (selects-part 8 j (bits 48 x) (omega arith)))
    ∙ sym (keep-placed 32 j s (length-selects 8 (bits 48 x)) (omega arith)) ∙ ap (λ (m : ℕ). keep (4 * j) m s) n in
    subst (λ (m : ℕ). Holds 48 m (permute e (permute p (keep (4 * j) 32 s)))) (xor_comm q r)
    (merged (λ a. permute e (permute p a)) expanded_xor 48 (4 * j) (4 * k) 32 s (omega arith) (omega arith) (small-selects 8 (bits 48 x)) (recast hq (ap (λ (a : List ℕ). permute e (permute p a)) one)) hr)

pub boxes_end : (y : List ℕ) {r k : ℕ} → k ≡ 0 → Holds 48 r (permute e (permute p (keep (4 * k) 32 (selects 8 y)))) → Holds 48 r (permute e (permute p (selects 8 y)))
boxes_end y {r} {k} z h =
    let o : 4 * k ≡ 0 = omega arith in
    recast h (ap (λ (m : ℕ). permute e (permute p (keep m 32 (selects 8 y)))) o ∙ ap (λ (a : List ℕ). permute e (permute p a)) (keep_all 32 (selects 8 y) (length-selects 8 y)))
