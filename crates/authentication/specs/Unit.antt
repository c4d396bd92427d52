-- The data unit (SUBSET-037-2, 6.2.5.1 and 6.2.5.3, Table 12), built and checked (document 01, "Ciphers and data units" and "Refusals of the house").
-- Assumes nothing.
use Rattle.std.specs.Prelude.{◌≡◌, Bool, true, false, ◌&&◌, List, [], ◌∷◌, ◌++◌, ℕ, ◌+◌, ◌-◌, ◌*◌, ◌/◌, ◌%◌, eqb, leb, length, get_or, take, drop, Result}
use Rattle.octets.specs.Bytes.{between, part, splice, same}
use Rattle.refusal.specs.House.{Answer, house, gives, answer_as, asks, unless_refused}
use Rattle.refusal.specs.declared.Refusal.{Refusal}
use Rattle.authentication.specs.Mac.{mac}

-- ---- the unit

-- the direction flag: 0 where the initiator sends, 1 where the responder does (6.2.3.2.1.12)
abbrev pub flag : Bool → ℕ
flag true = 1
flag false = 0

-- the first byte: ETY three bits, MTI four, direction flag one
abbrev pub first_byte : ℕ → ℕ → ℕ → ℕ
first_byte ety mti df = ety * 32 + mti * 2 + df

-- that of a DT unit: ETY 000, MTI 0101 (002, Tables 7 and 12)
abbrev pub header : Bool → ℕ
header direction = first_byte 0 5 (flag direction)

-- the unit without its MAC, and with it
unfoldable pub message : Bool → List ℕ → List ℕ
message direction user = header direction ∷ user

unfoldable pub unit_of : List ℕ → List ℕ → Bool → List ℕ → List ℕ
unit_of key destination direction user = message direction user ++ mac key destination (message direction user)

-- ---- building

-- H13, H2, H10, or the length of the unit
unfoldable pub built : List ℕ → List ℕ → List ℕ → Answer
built key user out =
    asks (eqb (length key) 24) 13
    (asks (leb 1032 (length out)) 2
    (asks (between 1 1023 (length user)) 10
    (gives (length user + 9))))

-- what the buffer holds afterwards: the unit and behind it the old bytes, or the old bytes alone
abbrev pub buffer : Answer → List ℕ → List ℕ → List ℕ
buffer a unit out = unless_refused a (splice out 0 unit) out

-- the answer in the paper's numbers
abbrev pub built_as : Result ℕ Refusal → Answer
built_as r = answer_as (λ written. written) r

pub record Builds (key destination : List ℕ) (direction : Bool) (user out after : List ℕ) (r : Result ℕ Refusal) : Type 0 where
  pub answer : built_as r ≡ built key user out
  pub written : after ≡ buffer (built key user out) (unit_of key destination direction user) out

-- ---- checking

-- the unit without its MAC, and its MAC
unfoldable pub body : List ℕ → List ℕ
body unit = take (length unit - 8) unit

unfoldable pub mac_of : List ℕ → List ℕ
mac_of unit = drop (length unit - 8) unit

-- ETY, MTI and direction of a first byte are those of a DT unit of this direction
unfoldable pub right_header : Bool → ℕ → Bool
right_header direction b = eqb (b / 32) 0 && (eqb (b / 2 % 16) 5 && eqb (b % 2) (flag direction))

-- there is user data, and ETY, MTI and direction are right
abbrev pub right_contents : Bool → List ℕ → Bool
right_contents direction unit = leb 10 (length unit) && right_header direction (get_or unit 0 0)

-- H13, H7, H8, H9, or the length of the user data
unfoldable pub checked : List ℕ → List ℕ → List ℕ → Bool → Answer
checked unit key destination direction =
    asks (eqb (length key) 24) 13
    (asks (between 9 1032 (length unit)) 7
    (asks (same (mac key destination (body unit)) (mac_of unit)) 8
    (asks (right_contents direction unit) 9
    (gives (length unit - 9)))))

-- the answer in the paper's numbers
abbrev pub checked_as : Result ℕ Refusal → Answer
checked_as r = answer_as (λ accepted. accepted) r

-- the user data, the part of the unit after its first byte; none where it is refused
abbrev pub data_of : Answer → List ℕ → List ℕ
data_of (gives n) unit = part unit 1 n
data_of (house n) unit = []
