-- What is claimed of the MAC, units and session keys beside the contracts. proofs/Theorems.antt has a proof of each claim.
-- Assumes nothing.
use Rattle.std.specs.Prelude.{◌≡◌, Bool, true, List, map, ℕ, ◌+◌, ◌/◌, ◌%◌, ◌≤◌, ◌<◌, length, get_or, take, drop, ⊤, Result}
use Rattle.std.specs.Int.Count.{ones}
use Rattle.octets.specs.Bytes.{be16, part, all_zero}
use Rattle.des.specs.Claims.{SameButParity}
use Rattle.refusal.specs.House.{house, gives}
use Rattle.refusal.specs.declared.Refusal.{Refusal}
use Rattle.authentication.specs.Mac.{mac_string, mac}
use Rattle.authentication.specs.Keys.{odd, session_keys, Derives, derived_as}
use Rattle.authentication.specs.Unit.{unit_of, built, buffer, built_as, Builds, checked, checked_as, data_of}

-- ---- the string of the MAC (SUBSET-037-2, 6.2.2.3 and 6.2.3.2.1.5 to .7)

-- the string s tells a destination and a unit without its MAC
pub record TellsPair (destination m s : List ℕ) : Type 0 where
  -- in two bytes the length of both together
  pub l : part s 0 2 ≡ be16 (length m + 3)
  -- the three bytes of the destination
  pub da : part s 2 3 ≡ destination
  -- the unit without its MAC
  pub unit : part s 5 (length m) ≡ m
  -- and then zeros alone, fewer than eight, up to a whole number of blocks of eight bytes
  pub zeros : all_zero (drop (length m + 5) s) ≡ true
  pub few : length s < length m + 5 + 8
  pub whole : length s % 8 ≡ 0

-- the padded string tells the pair that it was made of. A unit without its MAC has 1 to 1,024 bytes; it is so whatever the length
pub record StringTells : Type 0 where
  pub string : (destination m : List ℕ) → length destination ≡ 3 → TellsPair destination m (mac_string destination m)

-- and so padding makes no two messages alike: two pairs of destination and unit without MAC that have the same padded string are the same pair. Different strings may still have equal MACs: a MAC has 64 bits
pub record OnePair : Type 0 where
  pub pair : (destination destination' m m' : List ℕ) → length destination ≡ 3 → length destination' ≡ 3 → mac_string destination m ≡ mac_string destination' m'
      → (destination ≡ destination') × (m ≡ m')

-- ---- parity bits of a key (SUBSET-037-2, 6.2.3.2.1.4)

-- under two triple keys that differ in parity bits alone every message has the same MAC; and so it does not matter whether the parity of a key was set
pub record ParityFreeMac : Type 0 where
  pub macs : (a b destination m : List ℕ) → SameButParity a b → mac a destination m ≡ mac b destination m
  pub set : (key destination m : List ℕ) → mac (map odd key) destination m ≡ mac key destination m

-- two calls of build, check, user data or session keys that differ in parity bits of the key alone answer the same, and write and hand back the same bytes
pub record ParityFreeCalls : Type 0 where
  pub builds : (a b destination : List ℕ) (direction : Bool) (user out : List ℕ) → SameButParity a b → (after after' : List ℕ) (r r' : Result ℕ Refusal)
      → Builds a destination direction user out after r → Builds b destination direction user out after' r' → (r ≡ r') × (after ≡ after')
  pub checks : (a b unit destination : List ℕ) (direction : Bool) → SameButParity a b → (r r' : Result ℕ Refusal)
      → checked_as r ≡ checked unit a destination direction → checked_as r' ≡ checked unit b destination direction → r ≡ r'
  pub hands_out : (a b unit destination : List ℕ) (direction : Bool) → SameButParity a b → data_of (checked unit a destination direction) unit ≡ data_of (checked unit b destination direction) unit
  pub derives : (a b ra rb : List ℕ) → SameButParity a b → (r r' : Result (List ℕ) Refusal) → Derives a ra rb r → Derives b ra rb r' → r ≡ r'

-- ---- units

-- the unit is accepted, and d is the user data handed out
pub record Accepts (unit key destination : List ℕ) (direction : Bool) (d : List ℕ) : Type 0 where
  pub answer : checked unit key destination direction ≡ gives (length d)
  pub handed : data_of (checked unit key destination direction) unit ≡ d

-- the unit is the one that is built from d, 1 to 1,023 bytes, with a key of 24 bytes
pub record IsBuilt (unit key destination : List ℕ) (direction : Bool) (d : List ℕ) : Type 0 where
  pub triple : length key ≡ 24
  pub some : 1 ≤ length d
  pub most : length d ≤ 1023
  pub unit_is : unit ≡ unit_of key destination direction d

-- demand 2: a unit is accepted, with d handed out, exactly when it is the unit that is built from d
pub record AcceptedExactlyBuilt : Type 0 where
  pub accepted_built : (unit key destination : List ℕ) (direction : Bool) (d : List ℕ) → Accepts unit key destination direction d → IsBuilt unit key destination direction d
  pub built_accepted : (unit key destination : List ℕ) (direction : Bool) (d : List ℕ) → IsBuilt unit key destination direction d → Accepts unit key destination direction d

-- and so what build writes, check accepts, and hands back the data unchanged
pub record WrittenAccepted : Type 0 where
  pub back : (key destination : List ℕ) (direction : Bool) (d out : List ℕ) (n : ℕ) → built key d out ≡ gives n
      → Accepts (take n (buffer (built key d out) (unit_of key destination direction d) out)) key destination direction d

-- demand 1: a refused build writes nothing
pub record RefusedBuildWritesNothing : Type 0 where
  pub kept : (key destination : List ℕ) (direction : Bool) (user out : List ℕ) (n : ℕ) → built key user out ≡ house n
      → buffer (built key user out) (unit_of key destination direction user) out ≡ out

-- ---- session keys

-- every byte of the session keys has odd parity, by its lowest bit alone
pub record OddParity : Type 0 where
  pub keys : (kmac ra rb : List ℕ) (i : ℕ) → i < 24 → ones (get_or (session_keys kmac ra rb) i 0) % 2 ≡ 1
  pub others : (b : ℕ) → odd b / 2 ≡ b / 2

-- ---- answers

-- the paper's numbers are those of one answer only: a contract that fixes them fixes the answer; of session keys the number says all but
-- the keys (of_number), and with the keys that are due the answer is one (of_keys)
pub record OneAnswer : Type 0 where
  pub of_number : (a b : Result ⊤ Refusal) → derived_as a ≡ derived_as b → a ≡ b
  pub of_keys : (kmac ra rb : List ℕ) (a b : Result (List ℕ) Refusal) → Derives kmac ra rb a → Derives kmac ra rb b → a ≡ b
  pub of_build : (a b : Result ℕ Refusal) → built_as a ≡ built_as b → a ≡ b
  pub of_check : (a b : Result ℕ Refusal) → checked_as a ≡ checked_as b → a ≡ b
