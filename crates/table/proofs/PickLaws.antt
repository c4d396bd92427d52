-- In a square that is not blank, each predicate that an event can have finds its row.
-- Assumes nothing.
use Rattle.std.specs.Prelude.{Ok, Err}
use mathlib.Core.Path.{◌≡◌, refl}
use mathlib.Core.Bool.{Bool, true, false, ◌||◌, not, cond}
use mathlib.Core.List.{List}
use Prim.Native.Nat.{ℕ}
use lib.Dec.{eqb}
use Rattle.refusal.specs.House.{Answer, house, gives}
use Rattle.authentication.specs.Unit.{checked}
use Rattle.units.specs.Units.{Fault, code, au1_fault, au2_fault, au3_fault, ar_fault, etcs_id, random, code, contents_code}
use Rattle.table.specs.declared.Connection.{Connection}
use Rattle.table.specs.declared.Kind.{Kind}
use Rattle.table.specs.declared.Kind.TheVariants.{Au3, Ar, Dt}
use Rattle.table.specs.declared.State.{State}
use Rattle.table.specs.declared.State.TheVariants.{WFAR, DATA, WFAU3}
use Rattle.table.specs.Table.{Event, SaConnReq, SaConnResp, SaDataReq, SaDiscReq, TConnInd, TConnConf, TDiscInd, AU3, AR, DT, TimeOut, Judged, ok, pre, table, is, filled, has_row, state_of}
use Rattle.table.specs.Steps.{Input, connect_request, connect_response, data_request, disconnect_request, connect_indication, connect_confirmation, disconnect_indication, unit_indication, time_out, asked, Verdict, unless, typed, because, out_of_sequence, confirmed, judged_unit, judged_data, kind_event}
use Rattle.table.proofs.TableLaws.{every_state, every-state, every-event}

-- the predicate finds a row in every state in which the event has one
abbrev test : Event → Judged → Bool
test e j = every_state (λ s. not (filled table e s) || has_row table e s j)

record Picks (e : Event) (j : Judged) : Type 0 where
  pub row : (s : State) → filled table e s ≡ true → has_row table e s j ≡ true

tested : (e : Event) (j : Judged) → test e j ≡ true → Picks e j
tested e j h = record { row = λ s f. go (filled table e s) (has_row table e s j) (every-state (λ s. not (filled table e s) || has_row table e s j) h s) f }
  where
    go : (x y : Bool) → (not x || y) ≡ true → x ≡ true → y ≡ true
    go true y p q = p
    go false true p q = refl
    go false false p q = q

of_ok : (e : Event) → Picks e ok
unfolding table filled has_row
of_ok e = tested e ok (every-event (λ e. test e ok) refl e)

of_fault : (e : Event) (n : ℕ) → Picks e (pre n) → (f : Fault) → Picks e (unless n f).when
of_fault e n p (Ok u) = of_ok e
of_fault e n p (Err x) = p

-- a unit that T-DATA.ind brings: in a state that waits for it its predicate, in any other none
of_awaited : (e : Event) (b : Bool) (v w : Verdict) → Picks e v.when → Picks e w.when → Picks e (cond b v w).when
of_awaited e true v w p q = p
of_awaited e false v w p q = q

of_data : (a : Answer) (responder : Bool) (unit : List ℕ) → Picks DT (judged_data a responder unit).when
unfolding table filled has_row
of_data (gives n) responder unit = of_ok DT
of_data (house n) responder unit =
    of_awaited DT (eqb n 8) (because (pre 5) (code 4 1)) (because (pre 6) (cond (eqb n 9) (contents_code responder unit) (code 10 5)))
    (tested DT (pre 5) refl) (tested DT (pre 6) refl)

of_unit : (k : Kind) (s : State) (c : Connection) (unit : List ℕ) → Picks (kind_event k) (judged_unit k s c unit).when
unfolding judged_unit table filled has_row
of_unit Au3 s c unit =
    let f = au3_fault c.key c.own c.ra c.rb unit in
    of_awaited AU3 (is WFAU3 s) (unless 3 f) (because ok (out_of_sequence s Au3)) (of_fault AU3 3 (tested AU3 (pre 3) refl) f) (of_ok AU3)
of_unit Ar s c unit =
    let f = ar_fault c.key c.own unit in
    of_awaited AR (is WFAR s) (unless 4 f) (because ok (out_of_sequence s Ar)) (of_fault AR 4 (tested AR (pre 4) refl) f) (of_ok AR)
of_unit Dt s c unit =
    let a = checked unit c.key (etcs_id c.own) (not c.responder) in
    of_awaited DT (is DATA s) (judged_data a c.responder unit) (because ok (out_of_sequence s Dt)) (of_data a c.responder unit) (of_ok DT)

picks : (i : Input) (c : Connection) → Picks (asked i c).event (asked i c).verdict.when
unfolding asked table filled has_row
picks (connect_request acceptable own peer t rb store) c = of_fault SaConnReq 0 (tested SaConnReq (pre 0) refl) (typed acceptable (Ok tt))
picks connect_response c = of_ok SaConnResp
picks (data_request sent) c = of_ok SaDataReq
picks (disconnect_request reason sub) c = of_ok SaDiscReq
picks (connect_indication acceptable own t ra unit store) c = of_fault TConnInd 1 (tested TConnInd (pre 1) refl) (typed acceptable (au1_fault unit))
picks (connect_confirmation unit) c =
    of_fault TConnConf 2 (tested TConnConf (pre 2) refl) (au2_fault (confirmed c (random unit)).key c.own c.peer c.rb unit)
picks (disconnect_indication reason unit) c = of_ok TDiscInd
picks (unit_indication kind unit) c = of_unit kind (state_of c.state) c unit
picks time_out c = of_ok TimeOut

pub picked : (i : Input) (c : Connection) → filled table (asked i c).event (state_of c.state) ≡ true
    → has_row table (asked i c).event (state_of c.state) (asked i c).verdict.when ≡ true
picked i c = (picks i c).row (state_of c.state)
