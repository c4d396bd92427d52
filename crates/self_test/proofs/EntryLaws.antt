-- The entries of the tables, worked from the printed tables.
-- Assumes nothing.
use mathlib.Core.Path.{◌≡◌, refl, sym, ap, ap₂, ◌∙◌, subst}
use mathlib.Core.List.{List, ◌∷◌, ◌++◌}
use Prim.Native.Nat.{ℕ, zero, suc, ◌+◌, ◌-◌, ◌*◌, ◌/◌, ◌%◌, ◌^◌, ◌≤◌, ◌<◌}
use native.Mathlib.Nat.{mod-eq_of_lt, div-eq_of_lt}
use native.Mathlib.Omega.{arith}
use lib.Bits.{or_zero_r}
use lib.Pow.{pow_pos}
use lib.ListN.{get_or}
use Rattle.des.specs.Bits.{bits, value}
use Rattle.des.specs.Tables.{e, p, pc2}
use Rattle.des.specs.Des.{permute, select}
use Rattle.des.specs.Words.{Holds}
use Rattle.des.proofs.BitLaws.{split-bits, value-bits}
use Rattle.des.proofs.WordLaws.{recast, pushed, whole}
use Rattle.fast_des.specs.Joined.{zeros, placed, moved, joined, pc2_groups}
use Rattle.fast_des.proofs.JoinedLaws.{joined_at, pc2-at}

-- two numbers that hold the same bits
pub one_word : (w : ℕ) {x y : ℕ} {bs : List ℕ} → Holds w x bs → Holds w y bs → x ≡ y
one_word w {x} {y} hx hy =
    sym (mod-eq_of_lt hx.fits) ∙ sym (value-bits w x) ∙ ap value (hx.same ∙ sym hy.same) ∙ value-bits w y ∙ mod-eq_of_lt hy.fits

bits-zero : (n : ℕ) → bits n 0 ≡ zeros n
unfolding bits zeros
bits-zero zero = refl
bits-zero (suc n) = ap₂ (λ (b : ℕ) (l : List ℕ). b ∷ l) (none n) (bits-zero n)
  where
    none : (m : ℕ) → 0 / 2 ^ m % 2 ≡ 0
    none m = ap (λ (q : ℕ). q % 2) (div-eq_of_lt (pow_pos m))

-- four bits at group k of w
pub at_place : (w k : ℕ) {q : ℕ} {s : List ℕ} → 4 * k + 4 ≤ w → w ≤ 64 → Holds 4 q s → bits w (q * 2 ^ (w - (4 * k + 4)) % 2 ^ 64) ≡ placed w k s
unfolding placed
at_place w k {q} {s} h l hq =
    let m = w - (4 * k + 4) in
    let x = q * 2 ^ m % 2 ^ 64 in
    let long : 4 * k + (4 + m) ≡ w = omega arith in
    let low : Holds m 0 (zeros m) = recast (whole m 0 (pow_pos m)) (bits-zero m) in
    let up : Holds (4 + m) x (s ++ zeros m) = subst (λ (n : ℕ). Holds (4 + m) n (s ++ zeros m)) (or_zero_r x) (pushed 4 m (omega arith) hq low) in
    ap (λ (n : ℕ). bits n x) (sym long) ∙ split-bits (4 * k) (4 + m) x
    ∙ ap₂ (λ (a b : List ℕ). a ++ b) (ap (bits (4 * k)) (div-eq_of_lt up.fits) ∙ bits-zero (4 * k)) up.same

-- ---- the joined table

pub joined-worked : (k g : ℕ) {s q r : ℕ} → k < 8 → g < 64 → Holds 4 s (select k (bits 6 g)) → Holds 32 q (permute p (bits 32 (s * 2 ^ (28 - 4 * k) % 2 ^ 64)))
    → Holds 48 r (permute e (bits 32 q)) → Holds 48 r (permute e (moved k g))
unfolding moved
joined-worked k g {s} hk hg hs hq hr =
    let m : 28 - 4 * k ≡ 32 - (4 * k + 4) = omega arith in
    recast hr (ap (permute e) (hq.same ∙ ap (permute p) (ap (λ (n : ℕ). bits 32 (s * 2 ^ n % 2 ^ 64)) m ∙ at_place 32 k (omega arith) (omega arith) hs)))

pub joined_same : (t : List ℕ) (i : ℕ) {r : ℕ} → t ≡ joined → i < 512 → Holds 48 r (permute e (moved (i / 64) (i % 64))) → get_or t i 0 ≡ r
joined_same t i ht hi h =
    let whole : i ≡ 64 * (i / 64) + i % 64 = omega arith in
    ap (λ (l : List ℕ). get_or l i 0) ht ∙ ap (λ (n : ℕ). get_or joined n 0) whole ∙ sym (one_word 48 h (joined_at (i / 64) (i % 64) (omega arith) (omega arith)))

-- ---- permuted choice 2 by groups

pub group-worked : (i v : ℕ) {r : ℕ} → i < 14 → v < 16 → Holds 48 r (permute pc2 (bits 56 (v * 2 ^ (52 - 4 * i) % 2 ^ 64))) → Holds 48 r (permute pc2 (placed 56 i (bits 4 v)))
group-worked i v hi hv h =
    let m : 52 - 4 * i ≡ 56 - (4 * i + 4) = omega arith in
    recast h (ap (permute pc2) (ap (λ (n : ℕ). bits 56 (v * 2 ^ n % 2 ^ 64)) m ∙ at_place 56 i (omega arith) (omega arith) (whole 4 v hv)))

pub group_same : (t : List ℕ) (i : ℕ) {r : ℕ} → t ≡ pc2_groups → i < 224 → Holds 48 r (permute pc2 (placed 56 (i / 16) (bits 4 (i % 16)))) → get_or t i 0 ≡ r
group_same t i ht hi h =
    let whole : i ≡ 16 * (i / 16) + i % 16 = omega arith in
    ap (λ (l : List ℕ). get_or l i 0) ht ∙ ap (λ (n : ℕ). get_or pc2_groups n 0) whole ∙ sym (one_word 48 h (pc2-at (i / 16) (i % 16) (omega arith) (omega arith)))
