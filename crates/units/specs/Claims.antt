-- What is claimed of the units beside the contracts. proofs/Theorems.antt has a proof of each claim.
-- Assumes nothing.
use Rattle.std.specs.Prelude.{◌≡◌, Ok, List, ℕ, ◌≤◌, length}
use Rattle.octets.specs.Bytes.{Bytes}
use Rattle.units.specs.Units.{type_of, sender_of, random, au1_unit, au2_unit, au3_unit, ar_unit, au1_fault, au2_fault, au2_fields, au2_seal, or_next, au3_fault, ar_fault}

-- a unit in which no fault is found is the one that the other side builds: of an AU1 with the sender and the random number that it names, of an AU2 with the
-- peer that was called and the random number in it
pub record UnitsAreBuilt : Type 0 where
  pub au1 : (unit : List ℕ) → Bytes unit → au1_fault unit ≡ Ok tt → unit ≡ au1_unit (sender_of unit) (random unit)
  pub au2 : (key : List ℕ) (own peer : ℕ) (rb unit : List ℕ) → Bytes unit → au2_fault key own peer rb unit ≡ Ok tt → unit ≡ au2_unit key peer own (random unit) rb
  pub au3 : (key : List ℕ) (own : ℕ) (ra rb unit : List ℕ) → au3_fault key own ra rb unit ≡ Ok tt → unit ≡ au3_unit key own ra rb
  pub ar : (key : List ℕ) (own : ℕ) (unit : List ℕ) → ar_fault key own unit ≡ Ok tt → unit ≡ ar_unit key own

-- and in the unit that is built no fault is found
pub record BuiltAreFine : Type 0 where
  pub au1 : (own : ℕ) (rb : List ℕ) → type_of own ≤ 7 → length rb ≡ 8 → au1_fault (au1_unit own rb) ≡ Ok tt
  pub au2 : (key : List ℕ) (own caller : ℕ) (ra rb : List ℕ) → type_of own ≤ 7 → length ra ≡ 8 → au2_fault key caller own rb (au2_unit key own caller ra rb) ≡ Ok tt
  pub au3 : (key : List ℕ) (responder : ℕ) (ra rb : List ℕ) → au3_fault key responder ra rb (au3_unit key responder ra rb) ≡ Ok tt
  pub ar : (key : List ℕ) (caller : ℕ) → ar_fault key caller (ar_unit key caller) ≡ Ok tt

-- what is read from a unit is what it was built of; the type of a sender that is read is at most 7
pub record FieldsAreTold : Type 0 where
  pub au1_sender : (own : ℕ) (rb : List ℕ) → type_of own ≤ 7 → sender_of (au1_unit own rb) ≡ own
  pub au1_random : (own : ℕ) (rb : List ℕ) → length rb ≡ 8 → random (au1_unit own rb) ≡ rb
  pub au2_random : (key : List ℕ) (own caller : ℕ) (ra rb : List ℕ) → length ra ≡ 8 → random (au2_unit key own caller ra rb) ≡ ra
  pub sender_type : (unit : List ℕ) → Bytes unit → type_of (sender_of unit) ≤ 7

-- an AU2 is judged in two halves, since the session key is made of the random number in it
pub record TwoHalves : Type 0 where
  pub au2 : (key : List ℕ) (own peer : ℕ) (rb unit : List ℕ) → au2_fault key own peer rb unit ≡ or_next (au2_fields peer unit) (au2_seal key own rb unit)
