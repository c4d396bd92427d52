-- The state table of connection set-up (SUBSET-037-2, 6.2.6, Tables 14 to 20), row by row as the standard prints it.
-- Assumes nothing.
use Rattle.std.specs.Prelude.{Bool, true, false, ◌&&◌, ◌||◌, cond, List, [], ◌∷◌, ℕ, eqb}
use Rattle.table.specs.declared.State.{State}
use Rattle.table.specs.declared.State.TheVariants.{IDLE, WFTC, WFAR, DATA, WFAU3, WFRESP}
use Rattle.table.specs.declared.ToTransport.{ToTransport}
use Rattle.table.specs.declared.ToTransport.TheVariants.{Quiet, TConnReq, TConnResp, TDiscReq, TDiscReqDi, SendAu3, SendAr, SendDt}
use Rattle.table.specs.declared.Timer.{Timer}
use Rattle.table.specs.declared.Timer.TheVariants.{Keep, Set, Stop, StopAll}

-- ---- names. States (Table 14), outgoing events to the transport and timer actions are the code's own types

-- Table 15, in the order of Table 20's rows; T-DISC.ind comes with or without a DI SaPDU
pub data Event : Type 0 where
  SaConnReq SaConnResp SaDataReq SaDiscReq TConnInd TConnConf TDiscInd AU3 AR DT TimeOut : Event

-- Table 17: none of the event's predicates holds, or Pre n does
pub data Judged : Type 0 where
  ok : Judged
  pre : ℕ → Judged

-- Table 16, the outgoing events to the user
pub data Up : Type 0 where
  no SaConnInd SaConnConf SaDataInd SaDiscInd SaReportInd : Up

-- Table 19: set the timer, stop it, stop all timers. There are no counters to reset
abbrev pub a5 : Timer
a5 = Set

abbrev pub a6 : Timer
a6 = Stop

abbrev pub a19 : Timer
a19 = StopAll

-- ---- a square: what goes to the user, then what goes to the transport, then the timer, and the next state

-- a square of the table names the next state; a blank one may leave the connection as it is
pub data Next : Type 0 where
  stays : Next
  to : State → Next

pub record Square : Type 0 where
  pub up : Up
  pub down : ToTransport
  pub timer : Timer
  pub next : Next

abbrev pub square_of : Up → ToTransport → Timer → Next → Square
square_of up down timer next = record { up = up; down = down; timer = timer; next = next }

-- ---- Table 20

-- event, state, predicate; to the user, to the transport, timer; next state
pub data Row : Type 0 where
  row : Event → State → Judged → Up → ToTransport → Timer → State → Row

unfoldable pub table : List Row
table =
    row SaConnReq IDLE (pre 0) SaDiscInd Quiet Keep IDLE
    ∷ row SaConnReq IDLE ok no TConnReq a5 WFTC
    ∷ row SaConnResp WFRESP ok no SendAr Keep DATA
    ∷ row SaDataReq DATA ok no SendDt Keep DATA
    ∷ row SaDiscReq WFTC ok no TDiscReq a19 IDLE
    ∷ row SaDiscReq WFAR ok no TDiscReqDi a19 IDLE
    ∷ row SaDiscReq DATA ok no TDiscReqDi a19 IDLE
    ∷ row SaDiscReq WFRESP ok no TDiscReqDi a19 IDLE
    ∷ row TConnInd IDLE (pre 1) no TDiscReqDi Keep IDLE
    ∷ row TConnInd IDLE ok no TConnResp Keep WFAU3
    ∷ row TConnConf WFTC (pre 2) SaDiscInd TDiscReq a19 IDLE
    ∷ row TConnConf WFTC ok no SendAu3 Keep WFAR
    ∷ row TDiscInd WFTC ok SaDiscInd Quiet a19 IDLE
    ∷ row TDiscInd WFAR ok SaDiscInd Quiet a19 IDLE
    ∷ row TDiscInd DATA ok SaDiscInd Quiet a19 IDLE
    ∷ row TDiscInd WFAU3 ok no Quiet a19 IDLE
    ∷ row TDiscInd WFRESP ok SaDiscInd Quiet a19 IDLE
    ∷ row AU3 WFAU3 (pre 3) no TDiscReqDi a19 IDLE
    ∷ row AU3 WFAU3 ok SaConnInd Quiet Keep WFRESP
    ∷ row AR WFAR ok SaConnConf Quiet a6 DATA
    ∷ row AR WFAR (pre 4) SaDiscInd TDiscReqDi a19 IDLE
    ∷ row DT DATA ok SaDataInd Quiet Keep DATA
    ∷ row DT DATA (pre 5) SaReportInd Quiet Keep DATA
    ∷ row DT DATA (pre 6) SaDiscInd TDiscReqDi a19 IDLE
    ∷ row TimeOut WFTC ok SaDiscInd TDiscReq a19 IDLE
    ∷ row TimeOut WFAR ok SaDiscInd TDiscReqDi a19 IDLE
    ∷ []

-- ---- finding a square

abbrev pub state_code : State → ℕ
state_code IDLE = 0
state_code WFTC = 1
state_code WFAR = 2
state_code DATA = 3
state_code WFAU3 = 4
state_code WFRESP = 5

-- a connection with any other code is idle
abbrev pub state_of : ℕ → State
state_of n = cond (eqb n 1) WFTC (cond (eqb n 2) WFAR (cond (eqb n 3) DATA (cond (eqb n 4) WFAU3 (cond (eqb n 5) WFRESP IDLE))))

abbrev pub is : State → State → Bool
is s s' = eqb (state_code s) (state_code s')

abbrev pub event_code : Event → ℕ
event_code SaConnReq = 0
event_code SaConnResp = 1
event_code SaDataReq = 2
event_code SaDiscReq = 3
event_code TConnInd = 4
event_code TConnConf = 5
event_code TDiscInd = 6
event_code AU3 = 7
event_code AR = 8
event_code DT = 9
event_code TimeOut = 10

abbrev pub agrees : Judged → Judged → Bool
agrees ok ok = true
agrees ok (pre n) = false
agrees (pre m) ok = false
agrees (pre m) (pre n) = eqb m n

-- the row of this event, state and predicate; where there is none, the square is blank
unfoldable pub row_in : List Row → Event → State → Judged → Square → Square
row_in [] e s j blank = blank
row_in (row e' s' j' up down timer next ∷ rs) e s j blank =
    cond (eqb (event_code e') (event_code e) && (is s' s && agrees j' j))
    (square_of up down timer (to next))
    (row_in rs e s j blank)

-- the table has a row of this event and state
unfoldable pub filled : List Row → Event → State → Bool
filled [] e s = false
filled (row e' s' j' up down timer next ∷ rs) e s = (eqb (event_code e') (event_code e) && is s' s) || filled rs e s

-- and one of this predicate too
unfoldable pub has_row : List Row → Event → State → Judged → Bool
has_row [] e s j = false
has_row (row e' s' j' up down timer next ∷ rs) e s j = (eqb (event_code e') (event_code e) && (is s' s && agrees j' j)) || has_row rs e s j

-- ---- blank squares (6.2.6.3.2)

abbrev pub no_action : Square
no_action = square_of no Quiet Keep stays

-- the treatment of protocol errors: what the state's own rows do with a unit that is not acceptable (6.3.3.5.2, Tables 27 and 31); without a transport connection, nothing
abbrev pub protocol_error : State → Square
protocol_error IDLE = no_action
protocol_error WFTC = square_of SaDiscInd TDiscReq a19 (to IDLE)
protocol_error WFAR = square_of SaDiscInd TDiscReqDi a19 (to IDLE)
protocol_error DATA = square_of SaDiscInd TDiscReqDi a19 (to IDLE)
protocol_error WFAU3 = square_of no TDiscReqDi a19 (to IDLE)
protocol_error WFRESP = square_of SaDiscInd TDiscReqDi a19 (to IDLE)

-- an event related to a received SaPDU is a protocol error; any other is no action
abbrev pub blank : Event → State → Square
blank SaConnReq s = no_action
blank SaConnResp s = no_action
blank SaDataReq s = no_action
blank SaDiscReq s = no_action
blank TConnInd s = no_action
blank TConnConf s = no_action
blank TDiscInd s = no_action
blank AU3 s = protocol_error s
blank AR s = protocol_error s
blank DT s = protocol_error s
blank TimeOut s = no_action

unfoldable pub square : Event → State → Judged → Square
square e s j = row_in table e s j (blank e s)
