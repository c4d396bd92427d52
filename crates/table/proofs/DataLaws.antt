-- User data go up in DATA alone, and only of a unit that the peer builds under the connection's key.
-- Assumes nothing.
use mathlib.Core.Path.{◌≡◌, refl, sym, ap, ◌∙◌, subst}
use mathlib.Core.Bool.{Bool, true, false, not, cond}
use mathlib.Core.List.{List}
use Prim.Native.Nat.{ℕ}
use native.Mathlib.Omega.{arith}
use lib.Dec.{eqb}
use lib.ListN.{length}
use Rattle.octets.specs.Bytes.{part}
use Rattle.octets.proofs.BoolLaws.{between-true}
use Rattle.octets.proofs.PartLaws.{part_length}
use Rattle.refusal.specs.House.{Answer, house, gives}
use Rattle.authentication.specs.Unit.{data_of}
use Rattle.authentication.proofs.AnswerLaws.{Passed, passed}
use Rattle.authentication.proofs.Theorems.{accepted-exactly-built}
use Rattle.units.specs.declared.Code.{Code}
use Rattle.units.specs.Units.{etcs_id, code, contents_code}
use Rattle.table.specs.declared.Connection.{Connection}
use Rattle.table.specs.declared.Kind.TheVariants.{Dt}
use Rattle.table.specs.declared.State.{State}
use Rattle.table.specs.declared.State.TheVariants.{DATA}
use Rattle.table.specs.declared.ToUser.{ToUser}
use Rattle.table.specs.declared.ToUser.TheVariants as TheUser
use Rattle.table.specs.Table.{DT, pre, table, state_of, row_in, square}
use Rattle.table.specs.Steps.{Verdict, because, judged_unit, judged_data, Input, unit_indication, asked, to_user}
use Rattle.table.specs.Claims.{data_answer, CheckedData, DataOnlyChecked}
use Rattle.table.proofs.StepLaws.{meets}
use Rattle.table.proofs.OnlyLaws.{input_of, user_is, user_in}

-- ---- the check was passed

abbrev goes_up : State → Verdict → ToUser
goes_up s v = to_user (square DT s v.when).up v

not-up : (b : Bool) (x : Code) (n : ℕ) → goes_up DATA (cond b (because (pre 5) (code 4 1)) (because (pre 6) x)) ≡ TheUser.DataIndication n → ⊥
unfolding square row_in table
not-up true x n e = let z : ◌≡◌ {A = ℕ} 0 1 = cc in omega arith
not-up false x n e = let z : ◌≡◌ {A = ℕ} 0 1 = cc in omega arith

data_good : (a : Answer) (responder : Bool) (unit : List ℕ) (n : ℕ) → goes_up DATA (judged_data a responder unit) ≡ TheUser.DataIndication n → a ≡ gives n
unfolding square row_in table
data_good (gives m) responder unit n e = cc
data_good (house m) responder unit n e = absurd (not-up (eqb m 8) (cond (eqb m 9) (contents_code responder unit) (code 10 5)) n e)

unit-good : (c : Connection) (unit : List ℕ) (n : ℕ) (s : State) → s ≡ DATA → goes_up s (judged_unit Dt s c unit) ≡ TheUser.DataIndication n → data_answer c unit ≡ gives n
unfolding judged_unit
unit-good c unit n s h e =
    data_good (data_answer c unit) c.responder unit n (subst (λ (s : State). goes_up s (judged_unit Dt s c unit) ≡ TheUser.DataIndication n) h e)

checked_data : (i : Input) (c : Connection) (n : ℕ) (unit : List ℕ) → i ≡ unit_indication Dt unit → state_of c.state ≡ DATA → data_answer c unit ≡ gives n → CheckedData i c n
checked_data i c n unit e h g =
    let to = etcs_id c.own in
    let p : Passed unit c.key to (not c.responder) n = passed unit c.key to (not c.responder) n g in
    let m = between-true 9 1032 (length unit) p.long in
    let l : length (part unit 1 n) ≡ n = part_length unit 1 n (omega (arith, p.number, m)) in
    record {
      unit = unit;
      event_is = e;
      in-DATA = h;
      built =
          accepted-exactly-built.accepted_built unit c.key to (not c.responder) (part unit 1 n)
          (record { answer = g ∙ ap gives (sym l); handed = ap (λ (x : Answer). data_of x unit) g });
      count = l;
    }

-- ---- a step

up-checked : (i : Input) (c : Connection) (n : ℕ) → to_user (meets i c).up (asked i c).verdict ≡ TheUser.DataIndication n → CheckedData i c n
unfolding asked table
up-checked i c n e =
    let r = user_in DT DATA (TheUser.DataIndication n) refl i c e in
    let d = input_of DT i c r.0 in
    let f = subst (λ (i : Input). to_user (meets i c).up (asked i c).verdict ≡ TheUser.DataIndication n) d.1 e in
    checked_data i c n d.0 d.1 r.1 (unit-good c d.0 n (state_of c.state) r.1 f)

pub data_only_checked : DataOnlyChecked
data_only_checked = record { only = λ i c out a n e u. up-checked i c n (user_is i c out a (TheUser.DataIndication n) e u) }
