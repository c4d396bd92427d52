-- The string of the MAC as the code makes it: byte by byte, and its blocks as numbers.
-- Assumes nothing.
use mathlib.Core.Path.{◌≡◌, refl, sym, ap, ◌∙◌}
use mathlib.Core.List.{List, [], ◌∷◌, ◌++◌}
use Prim.Native.Nat.{ℕ, zero, suc, ◌+◌, ◌-◌, ◌*◌, ◌/◌, ◌%◌, ◌≤◌, ◌<◌}
use native.Mathlib.Omega.{arith}
use lib.ListN.{length, get_or, replicate, length-append, get_or-append}
use lib.Seq.{get_or-append-add}
use Rattle.octets.specs.Bytes.{number}
use Rattle.des.specs.Bits.{bits}
use Rattle.des.proofs.ByteLaws.{bits-number}
use Rattle.authentication.specs.Mac.{block, unpadded, padded, mac_string}

-- ---- the bytes of l | DA | m

module _ (d m : List ℕ) (three : length d ≡ 3) where
  pub byte_past : (i : ℕ) → 5 ≤ i → get_or (unpadded d m) i 0 ≡ get_or m (i - 5) 0
  unfolding unpadded
  byte_past i h =
      let e : i ≡ suc (suc (length d + (i - 5))) = omega arith in
      ap (λ (n : ℕ). get_or (unpadded d m) n 0) e ∙ get_or-append-add d m (i - 5) 0

  pub byte-destination : (i : ℕ) → 2 ≤ i → i < 5 → get_or (unpadded d m) i 0 ≡ get_or d (i - 2) 0
  unfolding unpadded
  byte-destination i h l =
      let e : i ≡ suc (suc (i - 2)) = omega arith in
      let k : i - 2 < length d = omega arith in
      ap (λ (n : ℕ). get_or (unpadded d m) n 0) e ∙ get_or-append d m 0 (i - 2) k

  pub byte_high : (i : ℕ) → i ≡ 0 → (length m + 3) / 256 % 256 ≡ get_or (unpadded d m) i 0
  unfolding unpadded
  byte_high i e =
      let l : (length m + 3) / 256 % 256 ≡ length (d ++ m) / 256 % 256 = omega (arith, length-append d m) in
      l ∙ ap (λ (n : ℕ). get_or (unpadded d m) n 0) (sym e)

  pub byte_low : (i : ℕ) → i ≡ 1 → (length m + 3) % 256 ≡ get_or (unpadded d m) i 0
  unfolding unpadded
  byte_low i e =
      let l : (length m + 3) % 256 ≡ length (d ++ m) % 256 = omega (arith, length-append d m) in
      l ∙ ap (λ (n : ℕ). get_or (unpadded d m) n 0) (sym e)

-- ---- the padding is zero, as what stands nowhere is

zeros-at : (k i : ℕ) → get_or {A = ℕ} (replicate k 0) i 0 ≡ 0
zeros-at zero i = refl
zeros-at (suc k) zero = refl
zeros-at (suc k) (suc i) = zeros-at k i

zeros-past : (s : List ℕ) (k i : ℕ) → get_or (s ++ replicate k 0) i 0 ≡ get_or s i 0
zeros-past [] k i = zeros-at k i
zeros-past (x ∷ s) k zero = refl
zeros-past (x ∷ s) k (suc i) = zeros-past s k i

pub string-at : (d m : List ℕ) (i : ℕ) → get_or (mac_string d m) i 0 ≡ get_or (unpadded d m) i 0
unfolding mac_string padded
string-at d m i = zeros-past (unpadded d m) ((8 - length (unpadded d m) % 8) % 8) i

-- ---- blocks

-- behind l | DA the string's numbers are those of m
pub number_past : (d m : List ℕ) → length d ≡ 3 → (n i : ℕ) → 5 ≤ i → number n (mac_string d m) i ≡ number n m (i - 5)
unfolding number
number_past d m three zero i h = refl
number_past d m three (suc n) i h =
    let e : i + n - 5 ≡ i - 5 + n = omega arith in
    rw (number_past d m three n i h, string-at d m (i + n), byte_past d m three (i + n) (omega arith), e)

pub block-number : (s : List ℕ) (n x : ℕ) → 8 * n + 8 ≤ length s → x ≡ number 8 s (8 * n) → bits 64 x ≡ block s n
unfolding block
block-number s n x h e = ap (bits 64) e ∙ bits-number 8 s (8 * n) h
