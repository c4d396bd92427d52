-- A unit that is built: its length, its fields, and no fault.
-- Assumes nothing.
use mathlib.Core.Path.{◌≡◌, refl, ap₂, ◌∙◌}
use mathlib.Core.Bool.{Bool, true}
use mathlib.Core.List.{List, [], ◌∷◌, ◌++◌}
use Prim.Native.Nat.{ℕ, ◌≤◌}
use native.Mathlib.Omega.{arith}
use lib.ListN.{length, get_or, take, drop, length-append}
use lib.Seq.{take_at, drop_at}
use borrow.Author.Tests.{eq-eqb}
use Rattle.octets.specs.Bytes.{part, same}
use Rattle.octets.proofs.BoolLaws.{same_refl}
use Rattle.octets.proofs.PartLaws.{part-whole}
use Rattle.authentication.specs.Mac.{mac}
use Rattle.authentication.specs.Unit.{first_byte}
use Rattle.authentication.proofs.MacLaws.{length-mac}
use Rattle.std.specs.Prelude.{Ok}
use Rattle.units.specs.Units.{type_of, etcs_id, sender_of, mti, df, saf, random, au1_unit, au2_text, au2_mac, au2_unit, au3_mac, au3_unit, ar_mac, ar_unit, di_unit, first_fault, au1_fault, au2_fault, au3_fault, ar_fault}
use Rattle.units.proofs.HeaderLaws.{first-mti, first-df, sent-by}

-- ---- AU1

module _ (own : ℕ) (rb : List ℕ) where
  pub length-au1 : length rb ≡ 8 → length (au1_unit own rb) ≡ 13
  unfolding au1_unit
  length-au1 l = omega arith

  au1-mti : type_of own ≤ 7 → mti (au1_unit own rb) ≡ 1
  unfolding au1_unit
  au1-mti t = first-mti (type_of own) 1 0 t (omega arith) (omega arith)

  au1-df : type_of own ≤ 7 → df (au1_unit own rb) ≡ 0
  unfolding au1_unit
  au1-df t = first-df (type_of own) 1 0 t (omega arith) (omega arith)

  au1-saf : saf (au1_unit own rb) ≡ 1
  unfolding au1_unit
  au1-saf = refl

  pub au1_sender : type_of own ≤ 7 → sender_of (au1_unit own rb) ≡ own
  unfolding au1_unit
  au1_sender t = sent-by own 1 0 t (omega arith) (omega arith)

  pub au1_random : length rb ≡ 8 → random (au1_unit own rb) ≡ rb
  unfolding au1_unit part
  au1_random l = part-whole rb 8 l

  pub au1-fine : type_of own ≤ 7 → length rb ≡ 8 → au1_fault (au1_unit own rb) ≡ Ok tt
  unfolding au1_fault first_fault
  au1-fine t l = simp (length-au1 l, au1-mti t, au1-df t, au1-saf)

-- ---- AU2

length-text : (own : ℕ) (ra : List ℕ) → length ra ≡ 8 → length (au2_text own ra) ≡ 13
unfolding au2_text
length-text own ra l = omega arith

module _ (key : List ℕ) (own caller : ℕ) (ra rb : List ℕ) where
  pub length-au2 : length ra ≡ 8 → length (au2_unit key own caller ra rb) ≡ 21
  unfolding au2_unit au2_mac
  length-au2 l =
      let text = au2_text own ra in
      let m = text ++ (rb ++ etcs_id caller) in
      omega (arith, length-append text (mac key (etcs_id caller) m), length-text own ra l, length-mac key (etcs_id caller) m)

  au2-mti : type_of own ≤ 7 → mti (au2_unit key own caller ra rb) ≡ 2
  unfolding au2_unit au2_text
  au2-mti t = first-mti (type_of own) 2 1 t (omega arith) (omega arith)

  au2-df : type_of own ≤ 7 → df (au2_unit key own caller ra rb) ≡ 1
  unfolding au2_unit au2_text
  au2-df t = first-df (type_of own) 2 1 t (omega arith) (omega arith)

  au2-saf : saf (au2_unit key own caller ra rb) ≡ 1
  unfolding au2_unit au2_text
  au2-saf = refl

  au2-sender : type_of own ≤ 7 → sender_of (au2_unit key own caller ra rb) ≡ own
  unfolding au2_unit au2_text
  au2-sender t = sent-by own 2 1 t (omega arith) (omega arith)

  pub au2_random : length ra ≡ 8 → random (au2_unit key own caller ra rb) ≡ ra
  unfolding au2_unit au2_text part
  au2_random l = take_at ra (au2_mac key caller rb (au2_text own ra)) 8 l

  au2-mac : length ra ≡ 8 → same (au2_mac key caller rb (take 13 (au2_unit key own caller ra rb))) (drop 13 (au2_unit key own caller ra rb)) ≡ true
  unfolding au2_unit
  au2-mac l =
      let text = au2_text own ra in
      let made = au2_mac key caller rb text in
      ap₂ (λ (x y : List ℕ). same (au2_mac key caller rb x) y) (take_at text made 13 (length-text own ra l)) (drop_at text made 13 (length-text own ra l)) ∙ same_refl made

  pub au2-fine : type_of own ≤ 7 → length ra ≡ 8 → au2_fault key caller own rb (au2_unit key own caller ra rb) ≡ Ok tt
  unfolding au2_fault first_fault
  au2-fine t l = simp (length-au2 l, au2-mti t, au2-sender t, eq-eqb own own refl, au2-saf, au2-mac l, au2-df t)

-- ---- AU3, AR and DI

module _ (key : List ℕ) (responder : ℕ) (ra rb : List ℕ) where
  pub length-au3 : length (au3_unit key responder ra rb) ≡ 9
  unfolding au3_unit au3_mac
  length-au3 = omega (arith, length-mac key (etcs_id responder) (first_byte 0 3 0 ∷ rb ++ ra))

  au3-first : get_or (au3_unit key responder ra rb) 0 0 ≡ first_byte 0 3 0
  unfolding au3_unit
  au3-first = refl

  au3-rest : drop 1 (au3_unit key responder ra rb) ≡ au3_mac key responder ra rb (first_byte 0 3 0)
  unfolding au3_unit
  au3-rest = refl

  pub au3-fine : au3_fault key responder ra rb (au3_unit key responder ra rb) ≡ Ok tt
  unfolding au3_fault first_fault
  au3-fine = simp (length-au3, au3-first, au3-rest, same_refl)

module _ (key : List ℕ) (caller : ℕ) where
  pub length-ar : length (ar_unit key caller) ≡ 9
  unfolding ar_unit ar_mac
  length-ar = omega (arith, length-mac key (etcs_id caller) (first_byte 0 9 1 ∷ []))

  ar-first : get_or (ar_unit key caller) 0 0 ≡ first_byte 0 9 1
  unfolding ar_unit
  ar-first = refl

  ar-rest : drop 1 (ar_unit key caller) ≡ ar_mac key caller (first_byte 0 9 1)
  unfolding ar_unit
  ar-rest = refl

  pub ar-fine : ar_fault key caller (ar_unit key caller) ≡ Ok tt
  unfolding ar_fault first_fault
  ar-fine = simp (length-ar, ar-first, ar-rest, same_refl)

pub length-di : (responder : Bool) (reason sub : ℕ) → length (di_unit responder reason sub) ≡ 3
unfolding di_unit
length-di responder reason sub = refl
