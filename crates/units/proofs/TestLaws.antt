-- What was read and compared, as the tests of the definitions: a field, and a MAC.
-- Assumes nothing.
use mathlib.Core.Path.{◌≡◌, sym, ap, ap₂, ◌∙◌}
use mathlib.Core.Bool.{Bool, true, false}
use mathlib.Core.List.{List, ◌∷◌, ◌++◌}
use Prim.Native.Nat.{ℕ, ◌-◌, ◌≤◌}
use native.Mathlib.Omega.{arith}
use lib.Dec.{eqb}
use lib.ListN.{length, get_or, take, drop, length-drop}
use lib.Seq.{take_all}
use borrow.Author.Tests.{eq-eqb, ne_eqb}
use Rattle.octets.specs.Bytes.{same}
use Rattle.authentication.specs.Mac.{mac}
use Rattle.authentication.proofs.UnitLaws.{take-first}
use Rattle.units.specs.Units.{etcs_id, au2_mac, au3_mac, ar_mac}

-- ---- fields

-- a number that was read is the one that is due, or is not
pub agrees : {x a b : ℕ} → x ≡ a → x ≡ b → eqb a b ≡ true
agrees {x} {a} {b} p q = eq-eqb a b (sym p ∙ q)

pub differs : {x a b : ℕ} → x ≡ a → (x ≡ b → ⊥) → eqb a b ≡ false
differs {x} {a} {b} p h = ne_eqb a b (λ q. h (p ∙ q))

-- ---- MACs: r is the answer for the string m to the destination id, and the unit from index n on

judged : (key id m unit : List ℕ) (own n : ℕ) (r : Bool) → id ≡ etcs_id own → r ≡ same (mac key id m) (take (length unit - n) (drop n unit)) → r ≡ same (mac key (etcs_id own) m) (drop n unit)
judged key id m unit own n r e q =
    let t : take (length unit - n) (drop n unit) ≡ drop n unit = take_all (length unit - n) (drop n unit) (omega (arith, length-drop n unit)) in
    q ∙ ap₂ (λ (i s : List ℕ). same (mac key i m) s) e t

pub au2-judged : (key id m rb unit : List ℕ) (own : ℕ) (r : Bool) → id ≡ etcs_id own → m ≡ take 13 unit ++ (rb ++ etcs_id own) → r ≡ same (mac key id m) (take (length unit - 13) (drop 13 unit))
    → r ≡ same (au2_mac key own rb (take 13 unit)) (drop 13 unit)
unfolding au2_mac
au2-judged key id m rb unit own r e f q = judged key id m unit own 13 r e q ∙ ap (λ (x : List ℕ). same (mac key (etcs_id own) x) (drop 13 unit)) f

pub au3-judged : (key id m ra rb unit : List ℕ) (own : ℕ) (r : Bool) → id ≡ etcs_id own → m ≡ get_or unit 0 0 ∷ rb ++ ra → r ≡ same (mac key id m) (take (length unit - 1) (drop 1 unit))
    → r ≡ same (au3_mac key own ra rb (get_or unit 0 0)) (drop 1 unit)
unfolding au3_mac
au3-judged key id m ra rb unit own r e f q = judged key id m unit own 1 r e q ∙ ap (λ (x : List ℕ). same (mac key (etcs_id own) x) (drop 1 unit)) f

pub ar-judged : (key id unit : List ℕ) (own : ℕ) (r : Bool) → 1 ≤ length unit → id ≡ etcs_id own → r ≡ same (mac key id (take 1 unit)) (take (length unit - 1) (drop 1 unit))
    → r ≡ same (ar_mac key own (get_or unit 0 0)) (drop 1 unit)
unfolding ar_mac
ar-judged key id unit own r h e q = judged key id (take 1 unit) unit own 1 r e q ∙ ap (λ (x : List ℕ). same (mac key (etcs_id own) x) (drop 1 unit)) (take-first unit 1 (omega arith) h)
