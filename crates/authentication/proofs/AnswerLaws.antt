-- What each call answers, test by test; and an answer in the paper's numbers is that of one value only.
-- Assumes nothing.
use mathlib.Core.Path.{◌≡◌, sym, ap, ◌∙◌}
use mathlib.Core.Bool.{Bool, true, false}
use mathlib.Core.List.{List, []}
use Prim.Native.Nat.{ℕ, ◌+◌, ◌-◌, ◌≤◌, ◌<◌}
use native.Mathlib.Omega.{arith}
use lib.Dec.{eqb}
use lib.ListN.{length, take, drop}
use borrow.Author.Tests.{eq-eqb, ne_eqb, le-leb, lt-leb}
use Rattle.std.specs.Prelude.{Result, Ok, Err, IfOk}
use Rattle.octets.specs.Bytes.{between, part, splice, same}
use Rattle.octets.proofs.BoolLaws.{between-true}
use Rattle.refusal.specs.House.{Answer, house, gives, house_number}
use Rattle.refusal.proofs.Laws.{asks-gives, one_number, house-number, gives-number, not-both}
use Rattle.refusal.specs.declared.Refusal.{Refusal}
use Rattle.refusal.specs.declared.Refusal.TheVariants.{OutputLength, DataLength, KeyLength}
use Rattle.authentication.specs.Mac.{mac}
use Rattle.authentication.specs.Keys.{session_keys, derived_as, derived, Derives}
use Rattle.authentication.specs.Unit.{unit_of, built, Builds, body, mac_of, right_contents, checked, checked_as, data_of}

-- ---- session keys

module _ (kmac ra rb : List ℕ) where
  pub derive_wrong : (length kmac ≡ 24 → ⊥) → Derives kmac ra rb (Err KeyLength)
  unfolding derived
  derive_wrong h = record { said = simp (ne_eqb (length kmac) 24 h); made = tt }

  pub derive_right : (t : List ℕ) → length kmac ≡ 24 → t ≡ session_keys kmac ra rb → Derives kmac ra rb (Ok t)
  unfolding derived
  derive_right t h e = record { said = simp (eq-eqb (length kmac) 24 h); made = e }

-- ---- build

module _ (key destination : List ℕ) (direction : Bool) (user out : List ℕ) where
  pub build_key_wrong : (length key ≡ 24 → ⊥) → Builds key destination direction user out out (Err KeyLength)
  unfolding built
  build_key_wrong h = record { answer = simp (ne_eqb (length key) 24 h); written = simp (ne_eqb (length key) 24 h) }

  pub build_out_wrong : length key ≡ 24 → length out < 1032 → Builds key destination direction user out out (Err OutputLength)
  unfolding built
  build_out_wrong h o = record { answer = simp (eq-eqb (length key) 24 h, lt-leb 1032 (length out) o); written = simp (eq-eqb (length key) 24 h, lt-leb 1032 (length out) o) }

  pub build_data_wrong : length key ≡ 24 → 1032 ≤ length out → between 1 1023 (length user) ≡ false → Builds key destination direction user out out (Err DataLength)
  unfolding built
  build_data_wrong h o d =
      record { answer = simp (eq-eqb (length key) 24 h, le-leb 1032 (length out) o, d); written = simp (eq-eqb (length key) 24 h, le-leb 1032 (length out) o, d) }

  pub build_right : (after : List ℕ) → length key ≡ 24 → 1032 ≤ length out → between 1 1023 (length user) ≡ true → after ≡ splice out 0 (unit_of key destination direction user)
      → Builds key destination direction user out after (Ok (length user + 9))
  unfolding built
  build_right after h o d e =
      record { answer = simp (eq-eqb (length key) 24 h, le-leb 1032 (length out) o, d); written = simp (eq-eqb (length key) 24 h, le-leb 1032 (length out) o, d) e }

-- ---- check

module _ (unit key destination : List ℕ) (direction : Bool) where
  abbrev mac_right : Bool
  mac_right = same (mac key destination (body unit)) (mac_of unit)

  pub key_wrong : (length key ≡ 24 → ⊥) → house 13 ≡ checked unit key destination direction
  unfolding checked
  key_wrong h = simp (ne_eqb (length key) 24 h)

  pub length_wrong : length key ≡ 24 → between 9 1032 (length unit) ≡ false → house 7 ≡ checked unit key destination direction
  unfolding checked
  length_wrong h l = simp (eq-eqb (length key) 24 h, l)

  pub mac_wrong : length key ≡ 24 → between 9 1032 (length unit) ≡ true → mac_right ≡ false → house 8 ≡ checked unit key destination direction
  unfolding checked
  mac_wrong h l m = simp (eq-eqb (length key) 24 h, l, m)

  pub contents_wrong : length key ≡ 24 → between 9 1032 (length unit) ≡ true → mac_right ≡ true → right_contents direction unit ≡ false → house 9 ≡ checked unit key destination direction
  unfolding checked
  contents_wrong h l m p = simp (eq-eqb (length key) 24 h, l, m, p)

  pub all_right : length key ≡ 24 → between 9 1032 (length unit) ≡ true → mac_right ≡ true → right_contents direction unit ≡ true → gives (length unit - 9) ≡ checked unit key destination direction
  unfolding checked
  all_right h l m p = simp (eq-eqb (length key) 24 h, l, m, p)

-- what is accepted has passed each test
pub record Passed (unit key destination : List ℕ) (direction : Bool) (n : ℕ) : Type 0 where
  pub key_right : eqb (length key) 24 ≡ true
  pub long : between 9 1032 (length unit) ≡ true
  pub mac_right_lem : same (mac key destination (body unit)) (mac_of unit) ≡ true
  pub contents : right_contents direction unit ≡ true
  pub number : length unit - 9 ≡ n

pub passed : (unit key destination : List ℕ) (direction : Bool) (n : ℕ) → checked unit key destination direction ≡ gives n → Passed unit key destination direction n
unfolding checked
passed unit key destination direction n e =
    let a = asks-gives (eqb (length key) 24) 13 _ n e in
    let b = asks-gives (between 9 1032 (length unit)) 7 _ n a.1 in
    let c = asks-gives (same (mac key destination (body unit)) (mac_of unit)) 8 _ n b.1 in
    let d = asks-gives (right_contents direction unit) 9 _ n c.1 in
    record { key_right = a.0; long = b.0; mac_right_lem = c.0; contents = d.0; number = gives-number (length unit - 9) n d.1 }

-- ---- the user data

module _ (unit key destination : List ℕ) (direction : Bool) (r : Result ℕ Refusal) (e : checked_as r ≡ checked unit key destination direction) where
  pub data_refused : (h : Refusal) → r ≡ Err h → [] ≡ data_of (checked unit key destination direction) unit
  data_refused h p = ap (λ (k : Answer). data_of k unit) (ap checked_as (sym p) ∙ e)

  pub data_length : (n : ℕ) → r ≡ Ok n → n + 9 ≡ length unit
  data_length n p =
      let a = passed unit key destination direction n (sym e ∙ ap checked_as p) in
      omega (arith, a.number, between-true 9 1032 (length unit) a.long)

  pub data_accepted : (n : ℕ) → r ≡ Ok n → take (n + 1 - 1) (drop 1 unit) ≡ data_of (checked unit key destination direction) unit
  unfolding part
  data_accepted n p =
      let m : n + 1 - 1 ≡ n = omega arith in
      ap (λ (k : ℕ). take k (drop 1 unit)) m ∙ ap (λ (k : Answer). data_of k unit) (ap checked_as (sym p) ∙ e)

-- ---- one value for each answer

-- the two are made of the same key, or refused alike
pub same-keys : (r s : Result (List ℕ) Refusal) (k l : List ℕ) → IfOk r (λ x. x ≡ k) → IfOk s (λ x. x ≡ l) → k ≡ l → derived_as r ≡ derived_as s → r ≡ s
same-keys (Ok x) (Ok y) k l p q m e = ap Ok (p ∙ m ∙ sym q)
same-keys (Ok x) (Err h) k l p q m e = not-both (house_number h) 0 (sym e)
same-keys (Err g) (Ok y) k l p q m e = not-both (house_number g) 0 e
same-keys (Err g) (Err h) k l p q m e = ap Err (one_number g h (house-number _ _ e))
