-- A unit in which no fault is found is the one that is built.
-- Assumes nothing.
use mathlib.Core.Path.{◌≡◌, refl, sym, ap, ap₂, ◌∙◌}
use mathlib.Core.Bool.{Bool, true, false}
use mathlib.Core.List.{List, [], ◌∷◌, ◌++◌}
use Prim.Native.Nat.{ℕ, ◌+◌, ◌*◌, ◌/◌, ◌%◌, ◌≤◌, ◌<◌}
use native.Mathlib.Omega.{arith}
use lib.ListN.{length, get_or, take, drop, take-append-drop}
use lib.Seq.{take_all}
use borrow.Author.Tests.{eqb-true}
use Rattle.octets.specs.Bytes.{Bytes, part, same}
use Rattle.octets.proofs.BoolLaws.{same_true}
use Rattle.authentication.specs.Unit.{first_byte}
use Rattle.std.specs.Prelude.{Ok}
use Rattle.units.specs.Units.{type_of, etcs_id, sender_of, ety, mti, df, saf, random, au1_unit, au2_text, au2_mac, au2_unit, au3_mac, au3_unit, ar_mac, ar_unit, Test, test, first_fault, au1_fault, au2_fault, au2_fields, au3_fault, ar_fault}
use Rattle.units.proofs.HeaderLaws.{first_of}

-- where no test fails, the first holds and none of the others fails
held : (b : Bool) (reason sub : ℕ) (ts : List Test) → first_fault (test b reason sub ∷ ts) ≡ Ok tt → (b ≡ true) × (first_fault ts ≡ Ok tt)
unfolding first_fault
held true reason sub ts e = (refl, e)
held false reason sub ts e = let z : ◌≡◌ {A = ℕ} 0 1 = cc in absurd (omega arith)

-- the length of a unit that passed: what `sender_of`, `random_of` and `au2_seal` ask
pub au1-long : (unit : List ℕ) → au1_fault unit ≡ Ok tt → length unit ≡ 13
unfolding au1_fault
au1-long unit e = eqb-true (length unit) 13 (held _ _ _ _ e).0

pub au2-long : (peer : ℕ) (unit : List ℕ) → au2_fields peer unit ≡ Ok tt → length unit ≡ 21
unfolding au2_fields
au2-long peer unit e = eqb-true (length unit) 21 (held _ _ _ _ e).0

-- ---- the sender

-- the bytes of an identity that was read from a unit
module _ (x b c d v : ℕ) (p : b < 256) (q : c < 256) (r : d < 256) (e : x * 16777216 + (b * 65536 + (c * 256 + d)) ≡ v) where
  its_type : type_of v ≡ x
  its_type = omega arith

  its_bytes : etcs_id v ≡ b ∷ c ∷ d ∷ []
  its_bytes =
      let h : v / 65536 ≡ x * 256 + b = omega arith in
      let i : v / 256 ≡ (x * 256 + b) * 256 + c = omega arith in
      let j : v ≡ ((x * 256 + b) * 256 + c) * 256 + d = omega arith in
      let f : v / 65536 % 256 ≡ b = omega arith in
      let g : v / 256 % 256 ≡ c = omega arith in
      let k : v % 256 ≡ d = omega arith in
      ap₂ (λ (l m : ℕ). l ∷ m ∷ v % 256 ∷ []) f g ∙ ap (λ (n : ℕ). b ∷ c ∷ n ∷ []) k

five : (u : List ℕ) → 5 ≤ length u → u ≡ get_or u 0 0 ∷ (get_or u 1 0 ∷ get_or u 2 0 ∷ get_or u 3 0 ∷ []) ++ (get_or u 4 0 ∷ drop 5 u)
five [] h = absurd (omega arith)
five (a ∷ []) h = absurd (omega arith)
five (a ∷ b ∷ []) h = absurd (omega arith)
five (a ∷ b ∷ c ∷ []) h = absurd (omega arith)
five (a ∷ b ∷ c ∷ d ∷ []) h = absurd (omega arith)
five (a ∷ b ∷ c ∷ d ∷ e ∷ u) h = refl

module _ (unit : List ℕ) (byte : Bytes unit) where
  pub sender_type : type_of (sender_of unit) ≤ 7
  sender_type =
      let t : type_of (sender_of unit) ≡ ety unit = its_type (ety unit) (get_or unit 1 0) (get_or unit 2 0) (get_or unit 3 0) (sender_of unit) (byte 1) (byte 2) (byte 3) refl in
      omega (arith, t, byte 0)

  -- the 13 bytes before a MAC, of which the fields are known
  text_of : (m f : ℕ) → 13 ≤ length unit → mti unit ≡ m → df unit ≡ f → saf unit ≡ 1
      → take 13 unit ≡ first_byte (type_of (sender_of unit)) m f ∷ etcs_id (sender_of unit) ++ (1 ∷ random unit)
  unfolding part
  text_of m f l p q s =
      let v = sender_of unit in
      let t : type_of v ≡ ety unit = its_type (ety unit) (get_or unit 1 0) (get_or unit 2 0) (get_or unit 3 0) v (byte 1) (byte 2) (byte 3) refl in
      let i : etcs_id v ≡ get_or unit 1 0 ∷ get_or unit 2 0 ∷ get_or unit 3 0 ∷ [] = its_bytes (ety unit) (get_or unit 1 0) (get_or unit 2 0) (get_or unit 3 0) v (byte 1) (byte 2) (byte 3) refl in
      let h : get_or unit 0 0 ≡ first_byte (type_of v) m f = first_of (get_or unit 0 0) (type_of v) m f (sym t) p q in
      ap (take 13) (five unit (omega arith))
      ∙ ap₂ (λ (a b : ℕ). a ∷ (get_or unit 1 0 ∷ get_or unit 2 0 ∷ get_or unit 3 0 ∷ []) ++ (b ∷ take 8 (drop 5 unit))) h s
      ∙ ap (λ (a : List ℕ). first_byte (type_of v) m f ∷ a ++ (1 ∷ take 8 (drop 5 unit))) (sym i)

-- ---- AU1 and AU2

pub au1-built : (unit : List ℕ) → Bytes unit → au1_fault unit ≡ Ok tt → unit ≡ au1_unit (sender_of unit) (random unit)
unfolding au1_fault au1_unit
au1-built unit byte e =
    let p = held _ _ _ _ e in
    let q = held _ _ _ _ p.1 in
    let r = held _ _ _ _ q.1 in
    let s = held _ _ _ _ r.1 in
    let l : length unit ≡ 13 = eqb-true (length unit) 13 p.0 in
    sym (take_all 13 unit (omega arith)) ∙ text_of unit byte 1 0 (omega arith) (eqb-true (mti unit) 1 q.0) (eqb-true (df unit) 0 r.0) (eqb-true (saf unit) 1 s.0)

pub au2-built : (key : List ℕ) (own peer : ℕ) (rb unit : List ℕ) → Bytes unit → au2_fault key own peer rb unit ≡ Ok tt → unit ≡ au2_unit key peer own (random unit) rb
unfolding au2_fault au2_unit au2_text
au2-built key own peer rb unit byte e =
    let p = held _ _ _ _ e in
    let q = held _ _ _ _ p.1 in
    let r = held _ _ _ _ q.1 in
    let s = held _ _ _ _ r.1 in
    let t = held _ _ _ _ s.1 in
    let u = held _ _ _ _ t.1 in
    let l : length unit ≡ 21 = eqb-true (length unit) 21 p.0 in
    let f : sender_of unit ≡ peer = eqb-true (sender_of unit) peer r.0 in
    let x : take 13 unit ≡ au2_text peer (random unit) =
    text_of unit byte 2 1 (omega arith) (eqb-true (mti unit) 2 q.0) (eqb-true (df unit) 1 u.0) (eqb-true (saf unit) 1 s.0) ∙ ap (λ (v : ℕ). au2_text v (random unit)) f in
    sym (take-append-drop 13 unit)
    ∙ ap (λ (d : List ℕ). take 13 unit ++ d) (sym (same_true (au2_mac key own rb (take 13 unit)) (drop 13 unit) t.0))
    ∙ ap (λ (y : List ℕ). y ++ au2_mac key own rb y) x

-- ---- AU3 and AR

apart : (unit : List ℕ) → 1 ≤ length unit → unit ≡ get_or unit 0 0 ∷ drop 1 unit
apart [] h = absurd (omega arith)
apart (x ∷ xs) h = refl

-- a first byte and the MAC that follows from it
sealed : (unit : List ℕ) (made : ℕ → List ℕ) (t m f : ℕ) → 1 ≤ length unit → same (made (get_or unit 0 0)) (drop 1 unit) ≡ true → ety unit ≡ t → mti unit ≡ m → df unit ≡ f
    → unit ≡ first_byte t m f ∷ made (first_byte t m f)
sealed unit made t m f l e p q r =
    apart unit l ∙ ap (λ (d : List ℕ). get_or unit 0 0 ∷ d) (sym (same_true (made (get_or unit 0 0)) (drop 1 unit) e)) ∙ ap (λ (x : ℕ). x ∷ made x) (first_of (get_or unit 0 0) t m f p q r)

pub au3-built : (key : List ℕ) (own : ℕ) (ra rb unit : List ℕ) → au3_fault key own ra rb unit ≡ Ok tt → unit ≡ au3_unit key own ra rb
unfolding au3_fault au3_unit
au3-built key own ra rb unit e =
    let p = held _ _ _ _ e in
    let q = held _ _ _ _ p.1 in
    let r = held _ _ _ _ q.1 in
    let s = held _ _ _ _ r.1 in
    let t = held _ _ _ _ s.1 in
    let l : length unit ≡ 9 = eqb-true (length unit) 9 p.0 in
    sealed unit (au3_mac key own ra rb) 0 3 0 (omega arith) q.0 (eqb-true (ety unit) 0 s.0) (eqb-true (mti unit) 3 r.0) (eqb-true (df unit) 0 t.0)

pub ar-built : (key : List ℕ) (own : ℕ) (unit : List ℕ) → ar_fault key own unit ≡ Ok tt → unit ≡ ar_unit key own
unfolding ar_fault ar_unit
ar-built key own unit e =
    let p = held _ _ _ _ e in
    let q = held _ _ _ _ p.1 in
    let r = held _ _ _ _ q.1 in
    let s = held _ _ _ _ r.1 in
    let t = held _ _ _ _ s.1 in
    let l : length unit ≡ 9 = eqb-true (length unit) 9 p.0 in
    sealed unit (ar_mac key own) 0 9 1 (omega arith) q.0 (eqb-true (ety unit) 0 s.0) (eqb-true (mti unit) 9 r.0) (eqb-true (df unit) 1 t.0)
