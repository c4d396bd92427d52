-- The units of connection set-up, byte by byte (SUBSET-037-2, 6.2.5, Tables 7 to 13), the MAC of each (6.2.3.2.1.9 to .11), and what is judged of a received one (Table 17), with reason and sub-reason (6.3.3.5).
-- Assumes nothing.
use Rattle.std.specs.Prelude.{Bool, ◌&&◌, cond, Result, Ok, Err, List, [], ◌∷◌, ◌++◌, ℕ, ◌+◌, ◌*◌, ◌/◌, ◌%◌, eqb, leb, length, get_or, take, drop}
use Rattle.octets.specs.Bytes.{part, same}
use Rattle.authentication.specs.Mac.{mac}
use Rattle.authentication.specs.Unit.{flag, first_byte}
use Rattle.units.specs.declared.Code.{Code}

-- ---- identities: four bytes, the type and the three of the ETCS ID

abbrev pub type_of : ℕ → ℕ
type_of identity = identity / 16777216

abbrev pub etcs_id : ℕ → List ℕ
etcs_id identity = identity / 65536 % 256 ∷ identity / 256 % 256 ∷ identity % 256 ∷ []

-- ---- fields of a unit (Tables 8 to 13)

abbrev pub ety : List ℕ → ℕ
ety unit = get_or unit 0 0 / 32

abbrev pub mti : List ℕ → ℕ
mti unit = get_or unit 0 0 / 2 % 16

abbrev pub df : List ℕ → ℕ
df unit = get_or unit 0 0 % 2

-- of an AU1 or AU2: ETY and SA as an identity, SaF, and the random number
abbrev pub sender_of : List ℕ → ℕ
sender_of unit = ety unit * 16777216 + (get_or unit 1 0 * 65536 + (get_or unit 2 0 * 256 + get_or unit 3 0))

abbrev pub saf : List ℕ → ℕ
saf unit = get_or unit 4 0

abbrev pub random : List ℕ → List ℕ
random unit = part unit 5 8

-- ---- the units. The caller ("B") is the initiator, whose DF is 0; the called side ("A") the responder, whose DF is 1 (6.2.3.2.1.12)

-- ETY, MTI 0001, DF 0; SA; SaF 1; RB (Table 8)
unfoldable pub au1_unit : ℕ → List ℕ → List ℕ
au1_unit own rb = first_byte (type_of own) 1 0 ∷ etcs_id own ++ (1 ∷ rb)

-- ETY, MTI 0010, DF 1; SA; SaF 1; RA (Table 9)
unfoldable pub au2_text : ℕ → List ℕ → List ℕ
au2_text own ra = first_byte (type_of own) 2 1 ∷ etcs_id own ++ (1 ∷ ra)

-- the MAC of an AU2 with this text, which ends in RA: RB and B follow it in the string; DA is the caller (6.2.3.2.1.9)
unfoldable pub au2_mac : List ℕ → ℕ → List ℕ → List ℕ → List ℕ
au2_mac key caller rb text = mac key (etcs_id caller) (text ++ (rb ++ etcs_id caller))

unfoldable pub au2_unit : List ℕ → ℕ → ℕ → List ℕ → List ℕ → List ℕ
au2_unit key own caller ra rb = au2_text own ra ++ au2_mac key caller rb (au2_text own ra)

-- '000', MTI 0011, DF 0 (Table 10); the MAC takes in RB and RA, which the unit has not; DA is the responder (6.2.3.2.1.10)
unfoldable pub au3_mac : List ℕ → ℕ → List ℕ → List ℕ → ℕ → List ℕ
au3_mac key responder ra rb first = mac key (etcs_id responder) (first ∷ rb ++ ra)

unfoldable pub au3_unit : List ℕ → ℕ → List ℕ → List ℕ → List ℕ
au3_unit key responder ra rb = first_byte 0 3 0 ∷ au3_mac key responder ra rb (first_byte 0 3 0)

-- '000', MTI 1001, DF 1 (Table 11); DA is the caller (6.2.3.2.1.11)
unfoldable pub ar_mac : List ℕ → ℕ → ℕ → List ℕ
ar_mac key caller first = mac key (etcs_id caller) (first ∷ [])

unfoldable pub ar_unit : List ℕ → ℕ → List ℕ
ar_unit key caller = first_byte 0 9 1 ∷ ar_mac key caller (first_byte 0 9 1)

-- '000', MTI 1000, DF by the sender's role; reason; sub-reason (Table 13)
unfoldable pub di_unit : Bool → ℕ → ℕ → List ℕ
di_unit responder reason sub = first_byte 0 8 (flag responder) ∷ reason ∷ sub ∷ []

-- ---- a reason and a sub-reason

abbrev pub code : ℕ → ℕ → Code
code reason sub = record { reason = reason; sub = sub }

-- what is wrong with a unit: nothing, or a reason and a sub-reason
abbrev pub Fault : Type 0
Fault = Result Unit Code

-- ---- a received unit: the first test that fails gives reason and sub-reason

pub data Test : Type 0 where
  test : (passed : Bool) (reason sub : ℕ) → Test

unfoldable pub first_fault : List Test → Fault
first_fault [] = Ok tt
first_fault (test b reason sub ∷ ts) = cond b (first_fault ts) (Err (code reason sub))

-- Pre1: an AU1 has no MAC; every ETY is a type from 0 to 7
unfoldable pub au1_fault : List ℕ → Fault
au1_fault unit =
    first_fault
    (test (eqb (length unit) 13) 10 1
    ∷ test (eqb (mti unit) 1) 8 1
    ∷ test (eqb (df unit) 0) 6 2
    ∷ test (eqb (saf unit) 1) 3 29
    ∷ [])

-- Pre2: from this peer, under the session key, with our RB. The fields that the MAC needs come before it (6.2.3.2.1.15), the flag after it (6.3.3.5.6)
abbrev pub field_tests : ℕ → List ℕ → List Test
field_tests peer unit =
    test (eqb (length unit) 21) 10 2
    ∷ test (eqb (mti unit) 2) 9 1
    ∷ test (eqb (sender_of unit) peer) 8 4
    ∷ test (eqb (saf unit) 1) 3 29
    ∷ []

abbrev pub seal_tests : List ℕ → ℕ → List ℕ → List ℕ → List Test
seal_tests key own rb unit =
    test (same (au2_mac key own rb (take 13 unit)) (drop 13 unit)) 4 2
    ∷ test (eqb (df unit) 1) 6 1
    ∷ []

unfoldable pub au2_fault : List ℕ → ℕ → ℕ → List ℕ → List ℕ → Fault
au2_fault key own peer rb unit = first_fault (field_tests peer unit ++ seal_tests key own rb unit)

-- its two halves: what is judged before the session key can be made of the RA in the unit, and what is judged with it
unfoldable pub au2_fields : ℕ → List ℕ → Fault
au2_fields peer unit = first_fault (field_tests peer unit)

unfoldable pub au2_seal : List ℕ → ℕ → List ℕ → List ℕ → Fault
au2_seal key own rb unit = first_fault (seal_tests key own rb unit)

-- the first fault where there is one, else the second
abbrev pub or_next : Fault → Fault → Fault
or_next (Ok u) f = f
or_next (Err x) f = Err x

-- Pre3
unfoldable pub au3_fault : List ℕ → ℕ → List ℕ → List ℕ → List ℕ → Fault
au3_fault key own ra rb unit =
    first_fault
    (test (eqb (length unit) 9) 10 3
    ∷ test (same (au3_mac key own ra rb (get_or unit 0 0)) (drop 1 unit)) 4 3
    ∷ test (eqb (mti unit) 3) 9 2
    ∷ test (eqb (ety unit) 0) 8 1
    ∷ test (eqb (df unit) 0) 6 2
    ∷ [])

-- Pre4
unfoldable pub ar_fault : List ℕ → ℕ → List ℕ → Fault
ar_fault key own unit =
    first_fault
    (test (eqb (length unit) 9) 10 8
    ∷ test (same (ar_mac key own (get_or unit 0 0)) (drop 1 unit)) 4 4
    ∷ test (eqb (mti unit) 9) 9 3
    ∷ test (eqb (ety unit) 0) 8 1
    ∷ test (eqb (df unit) 1) 6 1
    ∷ [])

-- ---- reason and sub-reason of other units

-- what is wrong with a DT that `checked` refuses with H9: no user data; MTI or ETY; or the flag, which should be the one that is not ours
unfoldable pub contents_code : Bool → List ℕ → Code
contents_code responder unit =
    cond (leb 10 (length unit)) (cond (eqb (mti unit) 5 && eqb (ety unit) 0) (cond responder (code 6 2) (code 6 1)) (code 8 1)) (code 10 5)

-- the pair that T-DISC.ind hands up: without a unit the transport's reason (Table 24), with a DI its own, with anything else unknown (6.3.3.5.7)
unfoldable pub release_code : ℕ → List ℕ → Code
release_code reason unit =
    cond (eqb (length unit) 0) (code 1 reason) (cond (eqb (length unit) 3 && eqb (mti unit) 8) (code (get_or unit 1 0) (get_or unit 2 0)) (code 127 127))
