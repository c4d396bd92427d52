-- Permuted choice 2 of words that are shifted by whole groups of four bits, and the sixteen keys by the shifts before them.
-- Assumes nothing.
use mathlib.Core.Path.{◌≡◌, refl, sym, ap, ap₂, ◌∙◌}
use mathlib.Core.Bool.{Bool, true, ◌&&◌}
use mathlib.Core.List.{List, [], ◌∷◌, ◌++◌, map, map-append}
use Prim.Native.Nat.{ℕ, zero, suc, ◌+◌, ◌-◌, ◌*◌, ◌/◌, ◌%◌, ◌^◌, ◌≤◌, ◌<◌}
use native.Mathlib.Omega.{arith}
use lib.Bits.{bit_and, bit_xor}
use lib.Dec.{lit<}
use lib.ListN.{length, get_or, take, drop, length-append, length-replicate}
use Rattle.octets.specs.Bytes.{same, all_below}
use Rattle.octets.proofs.BoolLaws.{and_left, and_right, all_below-at, same_true}
use Rattle.des.specs.Bits.{bits, xor_bits}
use Rattle.des.specs.Tables.{pc1, pc2, shifts}
use Rattle.des.specs.Des.{permute, swap, shift_both, shifted, subkey}
use Rattle.des.specs.Words.{Holds, up_from}
use Rattle.fast_des.specs.Joined.{zeros, placed, pc2_groups}
use Rattle.des.proofs.BitLaws.{length-bits}
use Rattle.des.proofs.BlockLaws.{small-bits, length-permute, length_xor}
use Rattle.des.proofs.MapLaws.{shift_map}
use Rattle.des.proofs.WordLaws.{recast, xored, group-bits}
use Rattle.fast_des.proofs.LinearLaws.{permute_xor, along, along-table, shift_table}
use Rattle.fast_des.proofs.JoinedLaws.{keep, merge, length-keep, keep-none, keep_all, keep-placed, pc2-at}

-- ---- shifts of sums

shift_xor : (n : ℕ) (a b : List ℕ) → length a ≡ 56 → length b ≡ 56 → shift_both n (xor_bits a b) ≡ xor_bits (shift_both n a) (shift_both n b)
shift_xor n a b ha hb =
    shift_table n (xor_bits a b) (length_xor a b (omega arith) ∙ ha) ∙ permute_xor (shift_both n (up_from 1 56)) a b (ha ∙ sym hb)
    ∙ ap₂ xor_bits (sym (shift_table n a ha)) (sym (shift_table n b hb))

chosen_xor : (n : ℕ) (a b : List ℕ) → length a ≡ 56 → length b ≡ 56
    → permute pc2 (shift_both n (xor_bits a b)) ≡ xor_bits (permute pc2 (shift_both n a)) (permute pc2 (shift_both n b))
chosen_xor n a b ha hb =
    let t = shift_both n (up_from 1 56) in
    let long : length (shift_both n a) ≡ length (shift_both n b) =
    ap length (shift_table n a ha) ∙ length-permute t a ∙ sym (length-permute t b) ∙ ap length (sym (shift_table n b hb)) in
    ap (permute pc2) (shift_xor n a b ha hb) ∙ permute_xor pc2 (shift_both n a) (shift_both n b) long

-- ---- a shift by whole groups moves a group

-- four numbers that stand for any four bits: where a shift carries them, it carries every group of four
names : List ℕ
names = 1 ∷ 2 ∷ 3 ∷ 4 ∷ []

abbrev named : List ℕ → ℕ → ℕ
named s k = get_or (0 ∷ s) k 0

map-zeros : (f : ℕ → ℕ) (n : ℕ) → f 0 ≡ 0 → map f (zeros n) ≡ zeros n
unfolding zeros
map-zeros f zero h = refl
map-zeros f (suc n) h = ap₂ (λ (x : ℕ) (xs : List ℕ). x ∷ xs) h (map-zeros f n h)

placed-map : (f : ℕ → ℕ) (w k : ℕ) (s : List ℕ) → f 0 ≡ 0 → map f (placed w k s) ≡ placed w k (map f s)
unfolding placed
placed-map f w k s h =
    map-append f (zeros (4 * k)) (s ++ zeros (w - (4 * k + 4)))
    ∙ ap₂ (λ (a b : List ℕ). a ++ b) (map-zeros f (4 * k) h)
    (map-append f s (zeros (w - (4 * k + 4))) ∙ ap (λ (b : List ℕ). map f s ++ b) (map-zeros f (w - (4 * k + 4)) h))

-- the place of group i of seven behind a shift by k groups
abbrev pub after : ℕ → ℕ → ℕ
after i k = (i + 7 - k) % 7

-- what a test of the names says of any four bits
carried : (n i j v : ℕ) → same (shift_both n (placed 56 i names)) (placed 56 j names) ≡ true → shift_both n (placed 56 i (bits 4 v)) ≡ placed 56 j (bits 4 v)
unfolding names bits
carried n i j v h =
    let f = named (bits 4 v) in
    ap (shift_both n) (sym (placed-map f 56 i names refl)) ∙ shift_map f n (placed 56 i names)
    ∙ ap (map f) (same_true (shift_both n (placed 56 i names)) (placed 56 j names) h) ∙ placed-map f 56 j names refl

abbrev moves_c : ℕ → ℕ → Bool
moves_c i k = same (shift_both (4 * k) (placed 56 i names)) (placed 56 (after i k) names)

abbrev moves_d : ℕ → ℕ → Bool
moves_d i k = same (shift_both (4 * k) (placed 56 (7 + i) names)) (placed 56 (7 + after i k) names)

abbrev moves_all : ℕ → Bool
moves_all i = all_below 4 (λ (k : ℕ). moves_c i k && moves_d i k)

moves-test : all_below 7 moves_all ≡ true
unfolding all_below same names placed zeros swap shift_both
moves-test = refl

moves_both : (i k : ℕ) → i < 7 → k < 4 → (moves_c i k && moves_d i k) ≡ true
moves_both i k hi hk = all_below-at 4 k (λ (k : ℕ). moves_c i k && moves_d i k) (all_below-at 7 i moves_all moves-test hi) hk

-- ---- the entries for a group of C and one of D

length-placed : (w k : ℕ) (s : List ℕ) → length s ≡ 4 → 4 * k + 4 ≤ w → length (placed w k s) ≡ w
unfolding placed zeros
length-placed w k s h l =
    omega (
      arith,
      length-append (zeros (4 * k)) (s ++ zeros (w - (4 * k + 4))),
      length-append s (zeros (w - (4 * k + 4))),
      length-replicate {A = ℕ} (4 * k) 0,
      length-replicate {A = ℕ} (w - (4 * k + 4)) 0,
    )

-- group i of C is c, group i of D is d, and all else is zero
abbrev pub two_groups : ℕ → ℕ → ℕ → List ℕ
two_groups i c d = xor_bits (placed 56 i (bits 4 c)) (placed 56 (7 + i) (bits 4 d))

long-group : (i v : ℕ) → i < 14 → length (placed 56 i (bits 4 v)) ≡ 56
long-group i v h = length-placed 56 i (bits 4 v) (length-bits 4 v) (omega arith)

pub two-chosen : (i k c d : ℕ) → i < 7 → k < 4 → c < 16 → d < 16
    → Holds 48 (bit_xor (get_or pc2_groups (16 * after i k + c) 0) (get_or pc2_groups (16 * (7 + after i k) + d) 0)) (permute pc2 (shift_both (4 * k) (two_groups i c d)))
two-chosen i k c d hi hk hc hd =
    let a = placed 56 i (bits 4 c) in
    let b = placed 56 (7 + i) (bits 4 d) in
    let both = moves_both i k hi hk in
    let left : shift_both (4 * k) a ≡ placed 56 (after i k) (bits 4 c) = carried (4 * k) i (after i k) c (and_left (moves_c i k) (moves_d i k) both) in
    let right : shift_both (4 * k) b ≡ placed 56 (7 + after i k) (bits 4 d) = carried (4 * k) (7 + i) (7 + after i k) d (and_right (moves_c i k) (moves_d i k) both) in
    recast (xored 48 (pc2-at (after i k) c (omega arith) hc) (pc2-at (7 + after i k) d (omega arith) hd))
    (ap₂ (λ (x y : List ℕ). xor_bits (permute pc2 x) (permute pc2 y)) (sym left) (sym right)
    ∙ sym (chosen_xor (4 * k) a b (long-group i c (omega arith)) (long-group (7 + i) d (omega arith))))

-- ---- the loop over the groups of C and D

digits : (m n : ℕ) → (m % 2 + n % 2) % 2 ≡ (m + n) % 2
digits m n = omega arith

xor_four : (a b c d : List ℕ) → xor_bits (xor_bits a b) (xor_bits c d) ≡ xor_bits (xor_bits a c) (xor_bits b d)
unfolding xor_bits
xor_four [] b c d = refl
xor_four (x ∷ a) [] [] d = refl
xor_four (x ∷ a) [] (z ∷ c) d = refl
xor_four (x ∷ a) (y ∷ b) [] d = refl
xor_four (x ∷ a) (y ∷ b) (z ∷ c) [] = refl
xor_four (x ∷ a) (y ∷ b) (z ∷ c) (u ∷ d) =
    let v : (x + y) + (z + u) ≡ (x + z) + (y + u) = omega arith in
    ap₂ (λ (m : ℕ) (ms : List ℕ). m ∷ ms) (digits (x + y) (z + u) ∙ ap (λ (n : ℕ). n % 2) v ∙ sym (digits (x + z) (y + u))) (xor_four a b c d)

-- the first i groups of C and of D, with zeros for the others
unfoldable pub seen : ℕ → List ℕ → List ℕ
seen i s = xor_bits (keep 0 (4 * i) s) (keep 28 (28 + 4 * i) s)

long-seen : (i : ℕ) (s : List ℕ) → length s ≡ 56 → length (seen i s) ≡ 56
unfolding seen
long-seen i s h =
    length_xor (keep 0 (4 * i) s) (keep 28 (28 + 4 * i) s) (omega (arith, length-keep 0 (4 * i) s, length-keep 28 (28 + 4 * i) s)) ∙ length-keep 0 (4 * i) s ∙ h

group-kept : (j n x : ℕ) → 4 * j + (4 + n) ≡ 56 → placed 56 j (bits 4 (bit_and (x / 2 ^ n) 15)) ≡ keep (4 * j) (4 * j + 4) (bits 56 x)
group-kept j n x h =
    ap (placed 56 j) (group-bits (4 * j) 4 n x ∙ ap (λ (m : ℕ). take 4 (drop (4 * j) (bits m x))) h)
    ∙ sym (keep-placed 56 j (bits 56 x) (length-bits 56 x) (omega arith))

seen_more : (i x : ℕ) → i < 7 → xor_bits (seen i (bits 56 x)) (two_groups i (bit_and (x / 2 ^ (52 - 4 * i)) 15) (bit_and (x / 2 ^ (24 - 4 * i)) 15)) ≡ seen (i + 1) (bits 56 x)
unfolding seen
seen_more i x h =
    let s = bits 56 x in
    let c = bit_and (x / 2 ^ (52 - 4 * i)) 15 in
    let d = bit_and (x / 2 ^ (24 - 4 * i)) 15 in
    let small = small-bits 56 x in
    let m : 4 * i + 4 ≡ 4 * (i + 1) = omega arith in
    let n : 4 * (7 + i) ≡ 28 + 4 * i = omega arith in
    let o : 4 * (7 + i) + 4 ≡ 28 + 4 * (i + 1) = omega arith in
    xor_four (keep 0 (4 * i) s) (keep 28 (28 + 4 * i) s) (placed 56 i (bits 4 c)) (placed 56 (7 + i) (bits 4 d))
    ∙ ap₂ xor_bits
    (ap (xor_bits (keep 0 (4 * i) s)) (group-kept i (52 - 4 * i) x (omega arith) ∙ ap (λ (e : ℕ). keep (4 * i) e s) m) ∙ merge 0 (4 * i) (4 * (i + 1)) s (omega arith) (omega arith) small)
    (ap (xor_bits (keep 28 (28 + 4 * i) s)) (group-kept (7 + i) (24 - 4 * i) x (omega arith) ∙ ap₂ (λ (b e : ℕ). keep b e s) n o)
    ∙ merge 28 (28 + 4 * i) (28 + 4 * (i + 1)) s (omega arith) (omega arith) small)

seen_all : (x : ℕ) → seen 7 (bits 56 x) ≡ bits 56 x
unfolding seen
seen_all x = merge 0 28 56 (bits 56 x) (omega arith) (omega arith) (small-bits 56 x) ∙ keep_all 56 (bits 56 x) (length-bits 56 x)

seen_none : (x : ℕ) → seen 0 (bits 56 x) ≡ zeros 56
unfolding seen zeros xor_bits
seen_none x =
    let z : (m : ℕ) → keep m m (bits 56 x) ≡ zeros 56 = λ m. keep-none m (bits 56 x) ∙ ap zeros (length-bits 56 x) in
    ap₂ xor_bits (z 0) (z 28)

-- what is chosen of them behind a shift by n
abbrev pub Chosen : ℕ → ℕ → ℕ → ℕ → Type 0
Chosen n x i r = Holds 48 r (permute pc2 (shift_both n (seen i (bits 56 x))))

chosen-start : (n x : ℕ) → bits 48 0 ≡ permute pc2 (shift_both n (zeros 56)) → Chosen n x 0 0
chosen-start n x h = record { fits = lit< tt; same = h ∙ ap (λ (l : List ℕ). permute pc2 (shift_both n l)) (sym (seen_none x)) }

pub chosen-step : (n i x : ℕ) {r q : ℕ} → i < 7 → Chosen n x i r
    → Holds 48 q (permute pc2 (shift_both n (two_groups i (bit_and (x / 2 ^ (52 - 4 * i)) 15) (bit_and (x / 2 ^ (24 - 4 * i)) 15)))) → Chosen n x (i + 1) (bit_xor r q)
chosen-step n i x h hr hq =
    let s = bits 56 x in
    let c = bit_and (x / 2 ^ (52 - 4 * i)) 15 in
    let d = bit_and (x / 2 ^ (24 - 4 * i)) 15 in
    let lc = long-group i c (omega arith) in
    let ld = long-group (7 + i) d (omega arith) in
    let long : length (two_groups i c d) ≡ 56 = length_xor (placed 56 i (bits 4 c)) (placed 56 (7 + i) (bits 4 d)) (omega (arith, lc, ld)) ∙ lc in
    recast (xored 48 hr hq)
    (sym (chosen_xor n (seen i s) (two_groups i c d) (long-seen i s (length-bits 56 x)) long) ∙ ap (λ (l : List ℕ). permute pc2 (shift_both n l)) (seen_more i x h))

-- words that hold it behind shifts by 0, 4, 8 and 12
abbrev pub ChosenBy : ℕ → ℕ → ℕ → ℕ → ℕ → ℕ → Type 0
ChosenBy x i r0 r4 r8 r12 = Chosen 0 x i r0 × Chosen 4 x i r4 × Chosen 8 x i r8 × Chosen 12 x i r12

pub chosen-none : (x : ℕ) → ChosenBy x 0 0 0 0 0
unfolding bits permute pc2 swap shift_both zeros
chosen-none x = (chosen-start 0 x refl, chosen-start 4 x refl, chosen-start 8 x refl, chosen-start 12 x refl)

pub chosen-end : (n x : ℕ) {r i : ℕ} → i ≡ 7 → Chosen n x i r → Holds 48 r (permute pc2 (shift_both n (bits 56 x)))
chosen-end n x e h = recast h (ap (λ (l : List ℕ). permute pc2 (shift_both n l)) (ap (λ (j : ℕ). seen j (bits 56 x)) e ∙ seen_all x))

-- ---- the keys of the iterations

-- the shifts of the first n iterations, the last first
unfoldable pub shifts_before : ℕ → List ℕ
shifts_before zero = []
shifts_before (suc n) = get_or shifts n 0 ∷ shifts_before n

shifted-along : (key : List ℕ) (n : ℕ) → shifted key n ≡ along (shifts_before n) (permute pc1 key)
unfolding shifted along shifts_before
shifted-along key zero = refl
shifted-along key (suc n) = ap (shift_both (get_or shifts n 0)) (shifted-along key n)

-- the key of iteration n, m shifts on from a word that lies the shifts ns behind permuted choice 1: together they come to those of the first n + 1 iterations
pub key-along : (key ns : List ℕ) (x : ℕ) → bits 56 x ≡ along ns (permute pc1 key) → (m n q : ℕ) → Holds 48 q (permute pc2 (shift_both m (bits 56 x)))
    → along (m ∷ ns) (up_from 1 56) ≡ along (shifts_before (suc n)) (up_from 1 56) → bits 48 q ≡ subkey key n
unfolding subkey pc1 along
key-along key ns x e m n q h t =
    let cd = permute pc1 key in
    let long = length-permute pc1 key in
    h.same
    ∙ ap (permute pc2)
    (ap (shift_both m) e ∙ along-table (m ∷ ns) cd long ∙ ap (λ (l : List ℕ). permute l cd) t ∙ sym (along-table (shifts_before (suc n)) cd long)
    ∙ sym (shifted-along key (suc n)))
