-- DES by its tables, on the bits that the words hold.
-- Assumes nothing.
use mathlib.Core.Path.{◌≡◌, refl, sym, ap, ap₂, ◌∙◌, subst⁻¹}
use mathlib.Core.Bool.{true, ◌&&◌}
use mathlib.Core.List.{List, [], ◌∷◌, ◌++◌, map-append}
use Prim.Native.Nat.{ℕ, zero, suc, ◌+◌, ◌-◌, ◌*◌, ◌/◌, ◌%◌, ◌^◌, ◌≤◌, ◌<◌}
use native.Mathlib.Nat.{add_comm}
use native.Mathlib.Omega.{arith}
use native.Mathlib.Numerals.{add-one}
use lib.Dec.{lit<, leb, ltb, lit≤}
use borrow.Author.Tests.{leb-true, ltb-true}
use lib.Pow.{shr_lt}
use lib.Bits.{bit_and, bit_or, bit_xor, and_mask}
use lib.ListN.{length, get_or, take, drop}
use lib.Seq.{get_or_at, drop-append-le}
use Rattle.std.specs.List.{list_all}
use Rattle.std.proofs.Math.Nat.{mul-suc}
use native.Mathlib.Nat.{mul_comm}
use Rattle.std.proofs.lemmas.List.Folds.{list_all-append}
use Rattle.std.proofs.lemmas.List.{take_more, nil_from_length, append-nil}
use lib.ListN.{length-append}
use mathlib.Core.List.{append_assoc}
use mathlib.Core.Bool.{Bool}
use Rattle.octets.proofs.BoolLaws.{and_left, and_right}
use Rattle.des.specs.Bits.{bits, value, value_from, xor_bits}
use Rattle.des.specs.Des.{permute, row, column, select, selects, swap, shift_both, round, cipher_function}
use Rattle.des.specs.Tables.{sboxes}
use Rattle.des.specs.Words.{Holds, Names, Rows}
use Rattle.des.proofs.MapLaws.{every-at}
use Rattle.des.proofs.BitLaws.{length-bits, split-bits, take-bits, drop_bits, value-bits}
use Rattle.des.proofs.WordLaws.{recast, resize, push, pushed, masked, whole, xored, part-bits, group-bits}

at_bits : (i j x : ℕ) → get_or (bits (i + suc j) x) i 0 ≡ x / 2 ^ j % 2
unfolding bits
at_bits i j x = rw split-bits (get_or_at (bits i (x / 2 ^ suc j)) (x / 2 ^ j % 2) (bits j x) 0 i (length-bits i (x / 2 ^ suc j)))

one_bit : (b : ℕ) → b < 2 → bits 1 b ≡ b ∷ []
unfolding bits
one_bit b h = ap (λ (n : ℕ). n ∷ []) (omega arith)

-- ---- permutations, an entry of a table at a time

pub names_at : {w : ℕ} {t : List ℕ} → Names w t → (i : ℕ) → i < length t → (1 ≤ get_or t i 0) × (get_or t i 0 ≤ w)
names_at {w} {t} n i h =
    let k = get_or t i 0 in
    let b : (leb 1 k && leb k w) ≡ true = every-at (λ (k : ℕ). leb 1 k && leb k w) t n.entries i h in
    (leb-true 1 k (and_left (leb 1 k) (leb k w) b), leb-true k w (and_right (leb 1 k) (leb k w) b))

-- bit k of w, counted from 1
named : (w k x : ℕ) → 1 ≤ k → k ≤ w → get_or (bits w x) (k - 1) 0 ≡ x / 2 ^ (w - k) % 2
named w k x h l =
    let e : w ≡ (k - 1) + suc (w - k) = omega arith in
    ap (λ (n : ℕ). get_or (bits n x) (k - 1) 0) e ∙ at_bits (k - 1) (w - k) x

permute-append : (s t bs : List ℕ) → permute (s ++ t) bs ≡ permute s bs ++ permute t bs
unfolding permute
permute-append s t bs = map-append (λ (k : ℕ). get_or bs (k - 1) 0) s t

permute-one : (k : ℕ) (bs : List ℕ) → permute (k ∷ []) bs ≡ get_or bs (k - 1) 0 ∷ []
unfolding permute
permute-one k bs = refl

-- one entry more of a table
pub entry_step : (w x : ℕ) (t : List ℕ) (i r : ℕ) → Names w t → i < length t → i + 1 ≤ 64 → Holds i r (permute (take i t) (bits w x))
    → Holds (i + 1) (bit_or (r * 2 % 2 ^ 64) (bit_and (x / 2 ^ (w - get_or t i 0)) 1)) (permute (take (i + 1) t) (bits w x))
entry_step w x t i r n h s p =
    let k = get_or t i 0 in
    let v : (1 ≤ k) × (k ≤ w) = names_at n i h in
    let m : bit_and (x / 2 ^ (w - k)) 1 ≡ x / 2 ^ (w - k) % 2 = and_mask (x / 2 ^ (w - k)) 1 in
    let b : bit_and (x / 2 ^ (w - k)) 1 < 2 = omega arith in
    recast (pushed i 1 s p (whole 1 _ b))
    (ap (λ (l : List ℕ). permute (take i t) (bits w x) ++ l)
    (one_bit _ b ∙ ap (λ (n : ℕ). n ∷ []) (m ∙ sym (named w k x v.0 v.1)) ∙ sym (permute-one k (bits w x)))
    ∙ sym (permute-append (take i t) (k ∷ []) (bits w x)) ∙ ap (λ (l : List ℕ). permute l (bits w x)) (sym (take_more t i 0 h)))

-- a table's rows: those passed and what they name, and the rows left
pub record Passed (w n x r : ℕ) (t rest : List ℕ) : Type 0 where
  pub front : List ℕ
  pub cut : t ≡ front ++ rest
  pub rows : (k : ℕ) × (length rest ≡ n * k)
  pub held : Holds (length front) r (permute front (bits w x))

-- no row yet
pub no_rows : {w n x : ℕ} {t : List ℕ} → Rows w n t → Passed w n x 0 t t
unfolding bits permute
no_rows {w} {n} r = record { front = []; cut = refl; rows = (8, r.eight ∙ mul_comm 8 n); held = record { fits = lit< tt; same = refl } }

-- the next row: its entries name bits of the word, and one row more is passed
pub row_names : {w n x r : ℕ} {t rest : List ℕ} (row tail : List ℕ) → Rows w n t → Passed w n x r t rest → rest ≡ row ++ tail → Names w row
row_names {w} {n} {x} {r} {t} {rest} row tail h p e =
    let test : ℕ → Bool = λ k. leb 1 k && leb k w in
    let all : (list_all test p.front && (list_all test row && list_all test tail)) ≡ true =
    sym (list_all-append test p.front (row ++ tail) ∙ ap (λ (b : Bool). list_all test p.front && b) (list_all-append test row tail))
    ∙ ap (list_all test) (sym (p.cut ∙ ap (λ (l : List ℕ). p.front ++ l) e)) ∙ h.names.entries in
    record { wide = h.names.wide; entries = and_left (list_all test row) (list_all test tail) (and_right (list_all test p.front) _ all) }

pub row_passed : {w n x r q : ℕ} {t rest : List ℕ} (row tail : List ℕ) → Rows w n t → Passed w n x r t rest → rest ≡ row ++ tail → length row ≡ n
    → Holds (length row) q (permute row (bits w x)) → Passed w n x (bit_or (r * 2 ^ n % 2 ^ 64) q) t tail
row_passed {w} {n} {x} {r} {q} {t} {rest} row tail h p e l hq =
    let long : length rest ≡ length row + length tail = ap length e ∙ length-append row tail in
    let whole : length t ≡ length p.front + length rest = ap length p.cut ∙ length-append p.front rest in
    let fits : length p.front + n ≤ 64 = omega (arith, h.eight, h.most) in
    record {
      front = p.front ++ row;
      cut = p.cut ∙ ap (λ (s : List ℕ). p.front ++ s) e ∙ sym (append_assoc p.front row tail);
      rows = less p.rows.0 n (length tail) h.some (omega (arith, p.rows.1));
      held =
          resize (ap (λ (k : ℕ). length p.front + k) (sym l) ∙ sym (length-append p.front row))
          (recast (pushed (length p.front) n fits p.held (resize l hq)) (sym (permute-append p.front row (bits w x))));
    }
  where
    less : (k n m : ℕ) → 1 ≤ n → n + m ≡ n * k → (j : ℕ) × (m ≡ n * j)
    less zero n m h e = absurd (omega arith)
    less (suc k) n m h e = (k, omega (arith, mul-suc n k))

-- all of them
pub all_rows : {w n x r : ℕ} {t rest : List ℕ} → Rows w n t → Passed w n x r t rest → length rest < n → Holds (8 * n) r (permute t (bits w x))
all_rows {w} {n} {x} {r} {t} {rest} h p l =
    let none : rest ≡ [] = nil_from_length rest (no p.rows.0 (length rest) l p.rows.1) in
    let e : t ≡ p.front = p.cut ∙ ap (λ (s : List ℕ). p.front ++ s) none ∙ append-nil p.front in
    resize (ap length (sym e) ∙ h.eight) (recast p.held (ap (λ (s : List ℕ). permute s (bits w x)) (sym e)))
  where
    no : (k m : ℕ) → m < n → m ≡ n * k → m ≡ 0
    no zero m h e = omega arith
    no (suc k) m h e = absurd (omega (arith, mul-suc n k))

-- ---- left shifts

-- `((y << n) | (y >> (w - n)))` of a number y of w bits, and of that the low w bits
pub rotated : (w n x : ℕ) → n ≤ w → w + n ≤ 64
    → Holds w (bit_and (bit_or (bit_and x (2 ^ w - 1) * 2 ^ n % 2 ^ 64) (bit_and x (2 ^ w - 1) / 2 ^ (w - n))) (2 ^ w - 1)) (swap n (bits w x))
unfolding swap
rotated w n x h l =
    let y = bit_and x (2 ^ w - 1) in
    let z = bit_or (y * 2 ^ n % 2 ^ 64) (y / 2 ^ (w - n)) in
    let e : n + (w - n) ≡ w = omega arith in
    let yh : Holds w y (bits w x) = masked w x in
    let hi : y / 2 ^ (w - n) < 2 ^ n = shr_lt n (w - n) (subst⁻¹ (λ (m : ℕ). y < 2 ^ m) e yh.fits) in
    let zh : Holds (w + n) z (bits w x ++ bits n (y / 2 ^ (w - n))) = pushed w n l yh (whole n (y / 2 ^ (w - n)) hi) in
    let top : bits n (y / 2 ^ (w - n)) ≡ take n (bits w x) =
    sym (take-bits n (w - n) y) ∙ ap (λ (m : ℕ). take n (bits m y)) e ∙ ap (take n) yh.same in
    let long : n ≤ length (bits w x) = omega (arith, length-bits w x) in
    recast (masked w z)
    (sym (drop_bits n w z) ∙ ap (λ (m : ℕ). drop n (bits m z)) (add_comm n w) ∙ ap (drop n) zh.same
    ∙ drop-append-le n (bits w x) (bits n (y / 2 ^ (w - n))) long ∙ ap (λ (t : List ℕ). drop n (bits w x) ++ t) top)

pub shifted-both : (n cd : ℕ) {a b : ℕ} → Holds 28 a (swap n (bits 28 (cd / 2 ^ 28))) → Holds 28 b (swap n (bits 28 cd))
    → Holds 56 (bit_or (a * 2 ^ 28 % 2 ^ 64) b) (shift_both n (bits 56 cd))
unfolding shift_both
shifted-both n cd ha hb =
    recast (pushed 28 28 (lit≤ tt) ha hb)
    (ap₂ (λ (s t : List ℕ). swap n s ++ swap n t) (sym (take-bits 28 28 cd)) (sym (drop_bits 28 28 cd)))

-- ---- the halves exchanged

pub exchanged : (s : ℕ) → s < 2 ^ 64 → bits 64 (bit_or (bit_and s (2 ^ 32 - 1) * 2 ^ 32 % 2 ^ 64) (s / 2 ^ 32)) ≡ swap 32 (bits 64 s)
unfolding swap
exchanged s h =
    (pushed 32 32 (lit≤ tt) (masked 32 s) (whole 32 (s / 2 ^ 32) (shr_lt 32 32 h))).same
    ∙ ap₂ (λ (a b : List ℕ). a ++ b) (sym (drop_bits 32 32 s)) (sym (take-bits 32 32 s))

-- ---- the iteration

pub rounded : (lr k q : ℕ) → lr < 2 ^ 64 → Holds 32 q (cipher_function (bits 32 (bit_and lr (2 ^ 32 - 1))) (bits 48 k))
    → bits 64 (bit_or (bit_and lr (2 ^ 32 - 1) * 2 ^ 32 % 2 ^ 64) (bit_xor (lr / 2 ^ 32) q)) ≡ round (bits 48 k) (bits 64 lr)
unfolding round
rounded lr k q h hq =
    (pushed 32 32 (lit≤ tt) (masked 32 lr) (xored 32 (whole 32 (lr / 2 ^ 32) (shr_lt 32 32 h)) hq)).same
    ∙ ap₂ (λ (a b : List ℕ). a ++ b) (sym (drop_bits 32 32 lr))
    (ap₂ xor_bits (sym (take-bits 32 32 lr)) (ap (λ (a : List ℕ). cipher_function a (bits 48 k)) ((masked 32 lr).same ∙ sym (drop_bits 32 32 lr))))

-- ---- the S-boxes

pub group : (k x : ℕ) → k < 8 → bits 6 (bit_and (x / 2 ^ (42 - 6 * k)) 63) ≡ take 6 (drop (6 * k) (bits 48 x))
group k x h =
    let e : 6 * k + (6 + (42 - 6 * k)) ≡ 48 = omega arith in
    group-bits (6 * k) 6 (42 - 6 * k) x ∙ ap (λ (n : ℕ). take 6 (drop (6 * k) (bits n x))) e

pub selects-step : (k x : ℕ) {r q : ℕ} → k < 8 → Holds (4 * k) r (selects k (bits 48 x)) → Holds 4 q (select k (bits 6 (bit_and (x / 2 ^ (42 - 6 * k)) 63)))
    → Holds (4 * (k + 1)) (bit_or (r * 16 % 2 ^ 64) q) (selects (k + 1) (bits 48 x))
unfolding selects
selects-step k x {r} {q} h hr hq =
    let e : 4 * k + 4 ≡ 4 * (k + 1) = omega arith in
    resize e
    (recast (pushed (4 * k) 4 (omega arith) hr hq)
    (ap (λ (g : List ℕ). selects k (bits 48 x) ++ select k g) (group k x h) ∙ ap (λ (n : ℕ). selects n (bits 48 x)) (sym (add-one k))))

pub row_number : (g : ℕ) → g < 64 → bit_or (g / 32 * 2 % 2 ^ 64) (bit_and g 1) ≡ g / 32 * 2 + g % 2
row_number g h =
    let m : bit_and g 1 ≡ g % 2 = and_mask g 1 in
    let l : bit_and g 1 < 2 = omega arith in
    let t : g / 32 < 2 = omega arith in
    push 1 1 (lit≤ tt) t l ∙ ap (λ (n : ℕ). g / 32 * 2 + n) m

pub column-number : (g : ℕ) → bit_and (g / 2) 15 ≡ g / 2 % 16
column-number g = and_mask (g / 2) 4

row-bits : (g : ℕ) → g < 64 → row (bits 6 g) ≡ g / 32 * 2 + g % 2
unfolding row bits value value_from
row-bits g h = omega arith

column-bits : (g : ℕ) → column (bits 6 g) ≡ g / 2 % 16
unfolding column
column-bits g = ap value (part-bits 1 4 1 g) ∙ value-bits 4 (g / 2)

small : (n : ℕ) → n < 512 → get_or sboxes n 0 < 16
unfolding sboxes
small n h = ltb-true (get_or sboxes n 0) 16 (every-at (λ (x : ℕ). ltb x 16) sboxes refl n h)

pub selected : (k g : ℕ) → k < 8 → g < 64
    → Holds 4 (get_or sboxes (64 * k + 16 * bit_or (g / 32 * 2 % 2 ^ 64) (bit_and g 1) + bit_and (g / 2) 15) 0) (select k (bits 6 g))
unfolding select
selected k g hk hg =
    let n = 64 * k + 16 * row (bits 6 g) + column (bits 6 g) in
    let e : 64 * k + 16 * bit_or (g / 32 * 2 % 2 ^ 64) (bit_and g 1) + bit_and (g / 2) 15 ≡ n =
    ap₂ (λ (a b : ℕ). 64 * k + 16 * a + b) (row_number g hg ∙ sym (row-bits g hg)) (column-number g ∙ sym (column-bits g)) in
    let l : n < 512 = omega (arith, row-bits g hg, column-bits g) in
    subst⁻¹ (λ (m : ℕ). Holds 4 (get_or sboxes m 0) (bits 4 (get_or sboxes n 0))) e (whole 4 (get_or sboxes n 0) (small n l))
