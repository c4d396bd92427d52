-- The first byte of a unit, and the identity of its sender, joined and taken apart.
-- Assumes nothing.
use mathlib.Core.Path.{◌≡◌, refl, ap, ap₂, ◌∙◌}
use mathlib.Core.List.{[]}
use Prim.Native.Nat.{ℕ, ◌+◌, ◌*◌, ◌/◌, ◌%◌, ◌≤◌, ◌<◌}
use native.Mathlib.Omega.{arith}
use lib.Bits.{bit_or, or_shifted}
use Rattle.octets.proofs.WordLaws.{get32-be32}
use Rattle.authentication.specs.Unit.{first_byte}
use Rattle.units.specs.Units.{type_of}

-- ---- the first byte

pub first-joined : (ety mti df : ℕ) → ety < 8 → mti < 16 → df < 2 → bit_or (bit_or (ety * 32 % 256) (mti * 2 % 256)) df ≡ first_byte ety mti df
first-joined ety mti df p q r =
    let e : ety * 32 % 256 ≡ ety * 32 = omega arith in
    let m : mti * 2 % 256 ≡ mti * 2 = omega arith in
    let h : ety * 32 + mti * 2 ≡ (ety * 16 + mti) * 2 = omega arith in
    let l : mti * 2 < 32 = omega arith in
    let t : (ety * 16 + mti) * 2 + df ≡ ety * 32 + mti * 2 + df = omega arith in
    ap₂ (λ (a b : ℕ). bit_or (bit_or a b) df) e m ∙ ap (λ (a : ℕ). bit_or a df) (or_shifted ety 5 (mti * 2) l ∙ h) ∙ or_shifted (ety * 16 + mti) 1 df r ∙ t

-- and taken apart
module _ (t m f : ℕ) (p : t ≤ 7) (q : m < 16) (r : f < 2) where
  pub first-ety : first_byte t m f / 32 ≡ t
  first-ety = omega arith

  pub first-mti : first_byte t m f / 2 % 16 ≡ m
  first-mti = omega arith

  pub first-df : first_byte t m f % 2 ≡ f
  first-df = omega arith

-- a byte of which ETY, MTI and flag are known
pub first_of : (b t m f : ℕ) → b / 32 ≡ t → b / 2 % 16 ≡ m → b % 2 ≡ f → b ≡ first_byte t m f
first_of b t m f p q r = omega arith

-- ---- the sender

-- an identity whose type is at most 7 is its type and its three bytes
identity : (v : ℕ) → type_of v ≤ 7 → type_of v * 16777216 + (v / 65536 % 256 * 65536 + (v / 256 % 256 * 256 + v % 256)) ≡ v
identity v p =
    let a : v < 4294967296 = omega arith in
    let b : v / 16777216 % 256 ≡ v / 16777216 = omega arith in
    let c : v / 16777216 % 256 * 16777216 + v / 65536 % 256 * 65536 + v / 256 % 256 * 256 + v % 256 ≡ v = get32-be32 [] [] v 0 refl a in
    omega (arith, b, c)

-- ETY and SA of an AU1 or AU2 of an identity
pub sent-by : (own m f : ℕ) → type_of own ≤ 7 → m < 16 → f < 2 → first_byte (type_of own) m f / 32 * 16777216 + (own / 65536 % 256 * 65536 + (own / 256 % 256 * 256 + own % 256)) ≡ own
sent-by own m f t q r =
    ap (λ (x : ℕ). x * 16777216 + (own / 65536 % 256 * 65536 + (own / 256 % 256 * 256 + own % 256))) (first-ety (type_of own) m f t q r) ∙ identity own t
