-- What the code does to words, on the bits that they hold.
-- Assumes nothing.
use mathlib.Core.Path.{◌≡◌, refl, sym, ap, ap₂, ◌∙◌, subst, subst⁻¹}
use mathlib.Core.List.{List, ◌++◌}
use Prim.Native.Nat.{ℕ, ◌+◌, ◌-◌, ◌*◌, ◌/◌, ◌%◌, ◌^◌, ◌≤◌, ◌<◌}
use native.Mathlib.Nat.{mod-lt}
use lib.Arith.{digits_lt}
use lib.Pow.{pow_pos, pow-add, shl_exact}
use lib.Bits.{bit_and, bit_or, bit_xor, or_shifted, and_mask, xor_lt}
use lib.ListN.{take, drop}
use Rattle.des.specs.Bits.{bits, xor_bits}
use Rattle.des.specs.Words.{Holds}
use Rattle.des.proofs.BitLaws.{take-bits, drop_bits, mod_bits, join-bits, xor_bits_lem}

pub recast : {w x : ℕ} {bs cs : List ℕ} → Holds w x bs → bs ≡ cs → Holds w x cs
recast h e = record { fits = h.fits; same = h.same ∙ e }

pub resize : {v w x : ℕ} {bs : List ℕ} → v ≡ w → Holds v x bs → Holds w x bs
resize {x = x} {bs = bs} e h = subst (λ (n : ℕ). Holds n x bs) e h

-- `(r << k) | q`
pub push : (w k : ℕ) {r q : ℕ} → w + k ≤ 64 → r < 2 ^ w → q < 2 ^ k → bit_or (r * 2 ^ k % 2 ^ 64) q ≡ r * 2 ^ k + q
push w k {r} {q} h hr hq = ap (λ (n : ℕ). bit_or n q) (shl_exact w k 64 hr h) ∙ or_shifted r k q hq

pub pushed : (w k : ℕ) {r q : ℕ} {bs cs : List ℕ} → w + k ≤ 64 → Holds w r bs → Holds k q cs → Holds (w + k) (bit_or (r * 2 ^ k % 2 ^ 64) q) (bs ++ cs)
pushed w k {r} {q} {bs} {cs} h hr hq =
    record {
      fits =
          subst⁻¹ (λ (n : ℕ). n < 2 ^ (w + k)) (push w k h hr.fits hq.fits)
          (subst⁻¹ (λ (n : ℕ). r * 2 ^ k + q < n) (pow-add 2 w k) (digits_lt hr.fits hq.fits));
      same =
          ap (bits (w + k)) (push w k h hr.fits hq.fits) ∙ join-bits w k r q hq.fits
          ∙ ap₂ (λ (s t : List ℕ). s ++ t) hr.same hq.same;
    }

-- `x & (2 ^ k - 1)`, and a number as it is
pub masked : (k x : ℕ) → Holds k (bit_and x (2 ^ k - 1)) (bits k x)
masked k x =
    record {
      fits = subst⁻¹ (λ (n : ℕ). n < 2 ^ k) (and_mask x k) (mod-lt x (pow_pos k));
      same = ap (bits k) (and_mask x k) ∙ mod_bits k x;
    }

pub whole : (k x : ℕ) → x < 2 ^ k → Holds k x (bits k x)
whole k x h = record { fits = h; same = refl }

-- ---- `^` and parts

pub xored : (w : ℕ) {x y : ℕ} {bs cs : List ℕ} → Holds w x bs → Holds w y cs → Holds w (bit_xor x y) (xor_bits bs cs)
xored w {x} {y} hx hy =
    record { fits = xor_lt w x y hx.fits hy.fits; same = xor_bits_lem w x y ∙ ap₂ xor_bits hx.same hy.same }

pub part-bits : (a b c x : ℕ) → take b (drop a (bits (a + (b + c)) x)) ≡ bits b (x / 2 ^ c)
part-bits a b c x = ap (take b) (drop_bits a (b + c) x) ∙ take-bits b c x

-- b bits of x with a before them and c behind
pub group-bits : (a b c x : ℕ) → bits b (bit_and (x / 2 ^ c) (2 ^ b - 1)) ≡ take b (drop a (bits (a + (b + c)) x))
group-bits a b c x = (masked b (x / 2 ^ c)).same ∙ sym (part-bits a b c x)
