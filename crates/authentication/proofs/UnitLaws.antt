-- Units: the first byte, what is written, and a unit taken apart.
-- Assumes nothing.
use mathlib.Core.Path.{◌≡◌, refl, sym, ap, ap₂, ◌∙◌}
use mathlib.Core.Bool.{Bool, true, false, ◌&&◌}
use mathlib.Core.List.{List, [], ◌∷◌}
use Prim.Native.Nat.{ℕ, zero, suc, ◌+◌, ◌-◌, ◌/◌, ◌%◌, ◌≤◌, ◌<◌}
use native.Mathlib.Omega.{arith}
use lib.Dec.{eqb}
use lib.ListN.{length, get_or, take, drop, set, length-append}
use lib.Seq.{take_at, drop_at}
use borrow.Author.Tests.{eqb-true}
use Rattle.octets.specs.Bytes.{part, splice}
use Rattle.octets.proofs.BoolLaws.{and_left, and_right}
use Rattle.octets.proofs.PartLaws.{part-whole}
use Rattle.octets.proofs.SpliceLaws.{set-splice, splice-splice, splice_front}
use Rattle.authentication.specs.Mac.{mac}
use Rattle.authentication.specs.Unit.{flag, header, message, unit_of, body, mac_of, right_header}
use Rattle.authentication.proofs.MacLaws.{length-mac}

-- ---- the first byte

module _ (direction : Bool) (b : ℕ) where
  pub header-only : right_header direction b ≡ true → b ≡ header direction
  unfolding right_header
  header-only e =
      let r : (eqb (b / 2 % 16) 5 && eqb (b % 2) (flag direction)) ≡ true = and_right (eqb (b / 32) 0) _ e in
      let z : b / 32 ≡ 0 = eqb-true (b / 32) 0 (and_left (eqb (b / 32) 0) _ e) in
      let m : b / 2 % 16 ≡ 5 = eqb-true (b / 2 % 16) 5 (and_left (eqb (b / 2 % 16) 5) _ r) in
      let f : b % 2 ≡ flag direction = eqb-true (b % 2) (flag direction) (and_right (eqb (b / 2 % 16) 5) _ r) in
      let t : b ≡ 10 + b % 2 = omega arith in
      t ∙ ap (λ (n : ℕ). 10 + n) f

pub header_right : (direction : Bool) → right_header direction (header direction) ≡ true
unfolding right_header
header_right true = refl
header_right false = refl

-- ---- what is written

length-message : (direction : Bool) (v : List ℕ) → length (message direction v) ≡ length v + 1
unfolding message
length-message direction v = omega arith

-- the first byte and what follows it
pub message-put : (d : List ℕ) (direction : Bool) (x : ℕ) (v s : List ℕ) → 1 + length v ≤ length d → x ≡ header direction → s ≡ splice (set d 0 x) 1 (part v 0 (length v))
    → s ≡ splice d 0 (message direction v)
unfolding message
message-put d direction x v s h w e =
    let z : 0 < length d = omega arith in
    e ∙ ap (λ (l : List ℕ). splice (set d 0 x) 1 l) (part-whole v (length v) refl) ∙ ap (λ (l : List ℕ). splice l 1 v) (set-splice d 0 x z)
    ∙ splice-splice d 0 (x ∷ []) v 1 refl (omega arith) ∙ ap (λ (n : ℕ). splice d 0 (n ∷ v)) w

-- the message and its MAC
pub unit-put : (key destination : List ℕ) (direction : Bool) (v d s t : List ℕ) → length v + 9 ≤ length d → s ≡ splice d 0 (message direction v)
    → t ≡ splice s (length v + 1) (mac key destination (take (length v + 1) s)) → t ≡ splice d 0 (unit_of key destination direction v)
unfolding unit_of
unit-put key destination direction v d s t long p q =
    let m = message direction v in
    let n : length m ≡ length v + 1 = length-message direction v in
    let f : take (length v + 1) s ≡ m = ap (take (length v + 1)) p ∙ splice_front d m (length v + 1) n in
    let k : 0 + (length v + 1) ≡ length v + 1 = omega arith in
    let b : 0 + (length v + 1) + length (mac key destination m) ≤ length d = omega (arith, length-mac key destination m) in
    q ∙ ap₂ (λ (l z : List ℕ). splice l (length v + 1) (mac key destination z)) p f
    ∙ ap (λ (i : ℕ). splice (splice d 0 m) i (mac key destination m)) (sym k)
    ∙ splice-splice d 0 m (mac key destination m) (length v + 1) n b

-- ---- a unit taken apart

-- the first byte and n - 1 that follow it
pub take-first : (unit : List ℕ) (n : ℕ) → 1 ≤ n → n ≤ length unit → take n unit ≡ get_or unit 0 0 ∷ take (n - 1) (drop 1 unit)
take-first [] zero h l = absurd (omega arith)
take-first [] (suc n) h l = absurd (omega arith)
take-first (x ∷ u) zero h l = absurd (omega arith)
take-first (x ∷ u) (suc n) h l = let e : n ≡ suc n - 1 = omega arith in ap (λ (k : ℕ). x ∷ take k u) e

module _ (key destination : List ℕ) (direction : Bool) (d : List ℕ) where
  pub length-unit : length (unit_of key destination direction d) ≡ length d + 9
  unfolding unit_of
  length-unit =
      omega (arith, length-append (message direction d) (mac key destination (message direction d)), length-message direction d, length-mac key destination (message direction d))

  -- where the MAC begins
  cut : length (message direction d) ≡ length (unit_of key destination direction d) - 8
  cut = omega (arith, length-unit, length-message direction d)

  pub body-unit : body (unit_of key destination direction d) ≡ message direction d
  unfolding body unit_of
  body-unit = take_at (message direction d) (mac key destination (message direction d)) _ cut

  pub mac-unit : mac_of (unit_of key destination direction d) ≡ mac key destination (message direction d)
  unfolding mac_of unit_of
  mac-unit = drop_at (message direction d) (mac key destination (message direction d)) _ cut

  pub data_unit : part (unit_of key destination direction d) 1 (length d) ≡ d
  unfolding part unit_of message
  data_unit = take_at d (mac key destination (header direction ∷ d)) (length d) refl

  pub first-unit : get_or (unit_of key destination direction d) 0 0 ≡ header direction
  unfolding unit_of message
  first-unit = refl
