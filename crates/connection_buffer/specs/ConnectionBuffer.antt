-- A connection and its events as a host keeps them: 64 bytes, all zero in the idle connection, and 8 bytes.
-- Assumes nothing.
use Rattle.std.specs.Prelude.{◌≡◌, List, [], ◌∷◌, ◌++◌, ℕ, ◌<◌, ◌^◌, ℤ, get_or, replicate}
use Rattle.octets.specs.Bytes.{get32, be16, be32, part, nonzero}
use Rattle.refusal.specs.House.{Answer, house, gives}
use Rattle.refusal.specs.Code.{code}
use Rattle.authentication.specs.Unit.{flag}
use Rattle.table.specs.declared.Connection.{Connection}
use Rattle.table.specs.declared.Kind.{Kind}
use Rattle.table.specs.declared.Kind.TheVariants.{Au3, Ar, Dt}
use Rattle.table.specs.declared.ToUser.{ToUser}
use Rattle.table.specs.declared.ToUser.TheVariants.{Nothing, ConnectIndication, ConnectConfirmation, DataIndication, DisconnectIndication, ReportIndication}
use Rattle.table.specs.declared.ToTransport.{ToTransport}
use Rattle.table.specs.declared.ToTransport.TheVariants.{Quiet, TConnReq, TConnResp, TDiscReq, TDiscReqDi, SendAu3, SendAr, SendDt}
use Rattle.table.specs.declared.Timer.{Timer}
use Rattle.table.specs.declared.Timer.TheVariants.{Keep, Set, Stop, StopAll}
use Rattle.table.specs.declared.Actions.{Actions}
use Rattle.table.specs.Steps.{Answered, done, refused, Outcome}

-- ---- a connection

-- the first twelve bytes: the state, the role, two zeros, own identity, peer identity
abbrev pub head : ℕ → ℕ → ℕ → ℕ → List ℕ
head state role own peer = state ∷ role ∷ 0 ∷ 0 ∷ be32 own ++ be32 peer

-- behind them RA, RB, the key, and zeros
abbrev pub connection_bytes : Connection → List ℕ
connection_bytes c = head c.state (flag c.responder) c.own c.peer ++ (c.ra ++ (c.rb ++ (c.key ++ replicate 12 0)))

-- any role but 0 is the responder; the zeros are not looked at
abbrev pub connection_of : List ℕ → Connection
connection_of b =
    record {
      state = get_or b 0 0;
      responder = nonzero (get_or b 1 0);
      own = get32 b 4;
      peer = get32 b 8;
      ra = part b 12 8;
      rb = part b 20 8;
      key = part b 28 24;
    }

-- ---- events

abbrev pub transport_number : ToTransport → ℕ
transport_number Quiet = 0
transport_number TConnReq = 1
transport_number TConnResp = 2
transport_number TDiscReq = 3
transport_number TDiscReqDi = 4
transport_number SendAu3 = 5
transport_number SendAr = 6
transport_number SendDt = 7

abbrev pub timer_number : Timer → ℕ
timer_number Keep = 0
timer_number Set = 1
timer_number Stop = 2
timer_number StopAll = 3

-- to the user, to the transport, the timer, the state; reason and sub-reason of a release or a report; the length of user data
abbrev pub events_with : ToUser → ℕ → ℕ → ℕ → List ℕ
events_with Nothing transport timer state = 0 ∷ transport ∷ timer ∷ state ∷ 0 ∷ 0 ∷ 0 ∷ 0 ∷ []
events_with ConnectIndication transport timer state = 1 ∷ transport ∷ timer ∷ state ∷ 0 ∷ 0 ∷ 0 ∷ 0 ∷ []
events_with ConnectConfirmation transport timer state = 2 ∷ transport ∷ timer ∷ state ∷ 0 ∷ 0 ∷ 0 ∷ 0 ∷ []
events_with (DataIndication n) transport timer state = 3 ∷ transport ∷ timer ∷ state ∷ 0 ∷ 0 ∷ be16 n
events_with (DisconnectIndication why) transport timer state = 4 ∷ transport ∷ timer ∷ state ∷ why.reason ∷ why.sub ∷ 0 ∷ 0 ∷ []
events_with (ReportIndication why) transport timer state = 5 ∷ transport ∷ timer ∷ state ∷ why.reason ∷ why.sub ∷ 0 ∷ 0 ∷ []

abbrev pub event_bytes : Actions → ℕ → List ℕ
event_bytes a state = events_with a.user (transport_number a.transport) (timer_number a.timer) state

-- ---- the kinds of unit, as `kind_numbered` reads them

abbrev pub kind_number : Kind → ℕ
kind_number Au3 = 1
kind_number Ar = 2
kind_number Dt = 3

-- ---- what C is told

-- the length of the unit that goes out, 0 where there is none
abbrev pub unit_length : Answered → Answer
unit_length (done a) = gives a.written
unit_length (refused n) = house n

-- a length that C can be told: 31 bits
pub record Short (answer : Answered) : Type 0 where
  pub by : (a : Actions) → answer ≡ done a → a.written < 2 ^ 31

-- the lent buffers afterwards: a refusal leaves them, and any other answer writes all their bytes
abbrev pub connection_after : Answered → Connection → List ℕ → List ℕ
connection_after (done a) c before = connection_bytes c
connection_after (refused n) c before = before

abbrev pub events_after : Answered → Connection → List ℕ → List ℕ
events_after (done a) c before = event_bytes a c.state
events_after (refused n) c before = before

-- what C is told of an outcome, and every byte that it lent
pub record Tells (o : Outcome) (told : ℤ) (before after eventsBefore eventsThen output : List ℕ) : Type 0 where
  pub answer_is : told ≡ code (unit_length o.answer)
  pub connection_is : after ≡ connection_after o.answer o.connection before
  pub events_are : eventsThen ≡ events_after o.answer o.connection eventsBefore
  pub output_is : output ≡ o.output
