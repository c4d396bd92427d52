-- What each event does (document 02, change request 1; SUBSET-037-2, 6.2.6): H2 and H10 before the table, the predicates, the search where the table starts set-up, and the square.
-- Assumes nothing.
use Rattle.std.specs.Prelude.{◌≡◌, Bool, true, false, ◌&&◌, not, cond, Result, Ok, Err, List, [], ℕ, eqb, leb, length, replicate}
use Rattle.octets.specs.Bytes.{between, part, splice}
use Rattle.refusal.specs.declared.Refusal.{Refusal}
use Rattle.refusal.specs.House.{Answer, house, gives, house_number}
use Rattle.store.specs.Search.{place_in}
use Rattle.store.specs.Search as Held
use Rattle.authentication.specs.Keys.{session_keys}
use Rattle.authentication.specs.Unit.{unit_of, checked}
use Rattle.units.specs.declared.Code.{Code}
use Rattle.units.specs.Units.{Fault, type_of, etcs_id, mti, sender_of, random, au1_unit, au2_unit, au3_unit, ar_unit, di_unit, au1_fault, au2_fault, au3_fault, ar_fault, code, contents_code, release_code}
use Rattle.table.specs.declared.Connection.{Connection}
use Rattle.table.specs.declared.Kind.{Kind}
use Rattle.table.specs.declared.Kind.TheVariants.{Au3, Ar, Dt}
use Rattle.table.specs.declared.ToUser.{ToUser}
use Rattle.table.specs.declared.ToUser.TheVariants as User
use Rattle.table.specs.declared.ToTransport.{ToTransport}
use Rattle.table.specs.declared.ToTransport.TheVariants.{Quiet, TConnReq, TConnResp, TDiscReq, TDiscReqDi, SendAu3, SendAr, SendDt}
use Rattle.table.specs.declared.Timer.{Timer}
use Rattle.table.specs.declared.Actions.{Actions}
use Rattle.table.specs.declared.State.{State}
use Rattle.table.specs.declared.State.TheVariants.{IDLE, WFTC, WFAR, DATA, WFAU3, WFRESP}
use Rattle.table.specs.Table.{Event, SaConnReq, SaConnResp, SaDataReq, SaDiscReq, TConnInd, TConnConf, TDiscInd, AU3, AR, DT, TimeOut, Judged, ok, pre, Up, no, SaConnInd, SaConnConf, SaDataInd, SaDiscInd, SaReportInd, Next, stays, to, Square, state_code, state_of, is, square}

-- ---- connections

-- no connection, and no key byte: all is zero
abbrev pub idle : Connection
idle = record { state = 0; responder = false; own = 0; peer = 0; ra = replicate 8 0; rb = replicate 8 0; key = replicate 24 0 }

-- a caller that waits for the transport connection holds the KMAC and RB
abbrev pub calling : ℕ → ℕ → List ℕ → List ℕ → Connection
calling own peer rb kmac = record { state = state_code WFTC; responder = false; own = own; peer = peer; ra = replicate 8 0; rb = rb; key = kmac }

-- one that is called knows both random numbers, and holds the session key
abbrev pub called : ℕ → ℕ → List ℕ → List ℕ → List ℕ → Connection
called own peer ra rb kmac = record { state = state_code WFAU3; responder = true; own = own; peer = peer; ra = ra; rb = rb; key = session_keys kmac ra rb }

-- the caller learns RA: the session key takes the place of the KMAC
abbrev pub confirmed : Connection → List ℕ → Connection
confirmed c ra =
    record { state = c.state; responder = c.responder; own = c.own; peer = c.peer; ra = ra; rb = c.rb; key = session_keys c.key ra c.rb }

-- ---- predicates (Table 17): which holds, and the reason and sub-reason of the square; of a good DT the length of the user data

pub record Verdict : Type 0 where
  pub when : Judged
  pub why : Code
  pub count : ℕ

abbrev pub because : Judged → Code → Verdict
because j x = record { when = j; why = x; count = 0 }

abbrev pub good : Verdict
good = because ok (code 0 0)

-- Pre n where there is a fault
abbrev pub unless : ℕ → Fault → Verdict
unless n (Ok u) = good
unless n (Err x) = because (pre n) x

-- Pre0, and the first line of Pre1: no application type, or a wrong one (Table 25; 6.3.3.5.7)
abbrev pub typed : Bool → Fault → Fault
typed true f = f
typed false f = Err (code 3 127)

-- a unit after set-up that no square waits for: Table 27, else unknown (6.3.3.5.7)
abbrev pub replayed : Kind → Code
replayed Au3 = code 5 1
replayed Ar = code 5 1
replayed Dt = code 127 127

-- a unit in a blank square: Table 31 during set-up
abbrev pub out_of_sequence : State → Kind → Code
out_of_sequence IDLE k = code 0 0
out_of_sequence WFTC k = code 9 1
out_of_sequence WFAU3 k = code 9 2
out_of_sequence WFAR k = code 9 3
out_of_sequence DATA k = replayed k
out_of_sequence WFRESP k = replayed k

-- H8 counts as Pre5, H7 and H9 as Pre6
abbrev pub judged_data : Answer → Bool → List ℕ → Verdict
judged_data (gives n) responder unit = record { when = ok; why = code 0 0; count = n }
judged_data (house n) responder unit = cond (eqb n 8) (because (pre 5) (code 4 1)) (because (pre 6) (cond (eqb n 9) (contents_code responder unit) (code 10 5)))

-- a unit that T-DATA.ind brings; in a state that does not wait for its kind the square is blank
unfoldable pub judged_unit : Kind → State → Connection → List ℕ → Verdict
judged_unit Au3 s c unit = cond (is WFAU3 s) (unless 3 (au3_fault c.key c.own c.ra c.rb unit)) (because ok (out_of_sequence s Au3))
judged_unit Ar s c unit = cond (is WFAR s) (unless 4 (ar_fault c.key c.own unit)) (because ok (out_of_sequence s Ar))
judged_unit Dt s c unit =
    cond (is DATA s) (judged_data (checked unit c.key (etcs_id c.own) (not c.responder)) c.responder unit) (because ok (out_of_sequence s Dt))

-- which of the three a unit is, by its MTI (Table 7); anything else, and nothing at all, is taken as a DT
abbrev pub kind_of : List ℕ → Kind
kind_of unit = cond (eqb (mti unit) 3) Au3 (cond (eqb (mti unit) 9) Ar Dt)

-- and by the number that a host gives: any number but 1 and 2 is taken as DT
abbrev pub kind_numbered : ℕ → Kind
kind_numbered n = cond (eqb n 1) Au3 (cond (eqb n 2) Ar Dt)

-- ---- the search where set-up starts: H1, H12, H11; H11 also where a type is over 7

abbrev pub if_types : Bool → Answer → Answer
if_types b (house n) = house n
if_types true (gives n) = gives n
if_types false (gives n) = house 11

unfoldable pub found : List ℕ → ℕ → ℕ → ℕ → Answer
found store own peer t = if_types (leb (type_of own) 7 && leb (type_of peer) 7) (place_in (Held.find store peer t))

-- ---- events with what they bring

pub data Input : Type 0 where
  connect_request : (acceptable : Bool) → (own peer t : ℕ) → (rb store : List ℕ) → Input
  connect_response : Input
  data_request : (sent : List ℕ) → Input
  disconnect_request : (reason sub : ℕ) → Input
  connect_indication : (acceptable : Bool) → (own t : ℕ) → (ra unit store : List ℕ) → Input
  connect_confirmation : (unit : List ℕ) → Input
  disconnect_indication : (reason : ℕ) → (unit : List ℕ) → Input
  unit_indication : (kind : Kind) → (unit : List ℕ) → Input
  time_out : Input

-- what is asked of the table, and what the square is then about
pub record Asked : Type 0 where
  pub event : Event
  pub verdict : Verdict
  -- the search, in a square that starts set-up
  pub search : Answer
  -- the connection that the square is about: a new one where set-up starts, and one with the session key where it has become known
  pub about : Connection
  -- the user data to send
  pub sent : List ℕ

abbrev pub plain : Event → Verdict → Connection → Asked
plain e v c = record { event = e; verdict = v; search = gives 0; about = c; sent = [] }

abbrev pub kind_event : Kind → Event
kind_event Au3 = AU3
kind_event Ar = AR
kind_event Dt = DT

unfoldable pub asked : Input → Connection → Asked
asked (connect_request acceptable own peer t rb store) c =
    record {
      event = SaConnReq;
      verdict = unless 0 (typed acceptable (Ok tt));
      search = found store own peer t;
      about = calling own peer rb (Held.key store peer t);
      sent = [];
    }
asked connect_response c = plain SaConnResp good c
asked (data_request sent) c = record { event = SaDataReq; verdict = good; search = gives 0; about = c; sent = sent }
asked (disconnect_request reason sub) c = plain SaDiscReq (because ok (code reason sub)) c
asked (connect_indication acceptable own t ra unit store) c =
    record {
      event = TConnInd;
      verdict = unless 1 (typed acceptable (au1_fault unit));
      search = found store own (sender_of unit) t;
      about = called own (sender_of unit) ra (random unit) (Held.key store (sender_of unit) t);
      sent = [];
    }
asked (connect_confirmation unit) c =
    let about = confirmed c (random unit) in
    plain TConnConf (unless 2 (au2_fault about.key c.own c.peer c.rb unit)) about
asked (disconnect_indication reason unit) c = plain TDiscInd (because ok (release_code reason unit)) c
asked (unit_indication kind unit) c = plain (kind_event kind) (judged_unit kind (state_of c.state) c unit) c
asked time_out c = plain TimeOut (because ok (code 7 3)) c

-- H10: user data to send
abbrev pub sendable : Input → Bool
sendable (data_request sent) = between 1 1023 (length sent)
sendable (connect_request acceptable own peer t rb store) = true
sendable connect_response = true
sendable (disconnect_request reason sub) = true
sendable (connect_indication acceptable own t ra unit store) = true
sendable (connect_confirmation unit) = true
sendable (disconnect_indication reason unit) = true
sendable (unit_indication kind unit) = true
sendable time_out = true

-- ---- the square's outgoing events with their units and parameters

-- the unit that goes to the transport
unfoldable pub carried : ToTransport → Asked → List ℕ
carried Quiet a = []
carried TConnReq a = au1_unit a.about.own a.about.rb
carried TConnResp a = au2_unit a.about.key a.about.own a.about.peer a.about.ra a.about.rb
carried TDiscReq a = []
carried TDiscReqDi a = di_unit a.about.responder a.verdict.why.reason a.verdict.why.sub
carried SendAu3 a = au3_unit a.about.key a.about.peer a.about.ra a.about.rb
carried SendAr a = ar_unit a.about.key a.about.peer
carried SendDt a = unit_of a.about.key (etcs_id a.about.peer) a.about.responder a.sent

-- the table starts set-up where it sends the first or the second unit
abbrev pub starts_set_up : ToTransport → Bool
starts_set_up TConnReq = true
starts_set_up TConnResp = true
starts_set_up Quiet = false
starts_set_up TDiscReq = false
starts_set_up TDiscReqDi = false
starts_set_up SendAu3 = false
starts_set_up SendAr = false
starts_set_up SendDt = false

abbrev pub to_user : Up → Verdict → ToUser
to_user no v = User.Nothing
to_user SaConnInd v = User.ConnectIndication
to_user SaConnConf v = User.ConnectConfirmation
to_user SaDataInd v = User.DataIndication v.count
to_user SaDiscInd v = User.DisconnectIndication v.why
to_user SaReportInd v = User.ReportIndication v.why

-- the connection in its next state; in IDLE nothing is left of it
abbrev pub with_state : Connection → ℕ → Connection
with_state c n = record { state = n; responder = c.responder; own = c.own; peer = c.peer; ra = c.ra; rb = c.rb; key = c.key }

abbrev pub moved : Connection → State → Connection
moved c s = cond (is IDLE s) idle (with_state c (state_code s))

abbrev pub after : Next → Connection → Connection → Connection
after stays was about = was
after (to s) was about = moved about s

abbrev pub acts : ToUser → ToTransport → Timer → ℕ → Actions
acts up down timer n = record { user = up; transport = down; timer = timer; written = n }

-- ---- a step

pub data Answered : Type 0 where
  done : Actions → Answered
  refused : ℕ → Answered

pub record Outcome : Type 0 where
  pub answer : Answered
  pub connection : Connection
  pub output : List ℕ

-- a refusal writes nowhere, and leaves the connection
abbrev pub refuse : ℕ → Connection → List ℕ → Outcome
refuse n c out = record { answer = refused n; connection = c; output = out }

unfoldable pub perform : Square → Asked → Connection → List ℕ → Outcome
perform q a c out =
    record {
      answer = done (acts (to_user q.up a.verdict) q.down q.timer (length (carried q.down a)));
      connection = after q.next c a.about;
      output = splice out 0 (carried q.down a);
    }

abbrev pub unless_house : Answer → Outcome → Connection → List ℕ → Outcome
unless_house (house n) o c out = refuse n c out
unless_house (gives n) o c out = o

unfoldable pub in_square : Square → Asked → Connection → List ℕ → Outcome
in_square q a c out = unless_house (cond (starts_set_up q.down) a.search (gives 0)) (perform q a c out) c out

unfoldable pub at_table : Asked → Connection → List ℕ → Outcome
at_table a c out = in_square (square a.event (state_of c.state) a.verdict.when) a c out

-- H2, H10, and then the table
unfoldable pub step : Input → Connection → List ℕ → Outcome
step i c out = cond (leb 1032 (length out)) (cond (sendable i) (at_table (asked i c) c out) (refuse 10 c out)) (refuse 2 c out)

-- the user data that go up: the part of the unit behind its first byte
abbrev pub up_data : ToUser → List ℕ → List ℕ
up_data (User.DataIndication n) unit = part unit 1 n
up_data User.Nothing unit = []
up_data User.ConnectIndication unit = []
up_data User.ConnectConfirmation unit = []
up_data (User.DisconnectIndication why) unit = []
up_data (User.ReportIndication why) unit = []

abbrev pub handed_up : Answered → List ℕ → List ℕ
handed_up (done a) unit = up_data a.user unit
handed_up (refused n) unit = []

-- ---- the calls

-- the answer in the paper's numbers
abbrev pub stepped_as : Result Actions Refusal → Answered
stepped_as (Ok a) = done a
stepped_as (Err h) = refused (house_number h)

-- the answer, the connection and every byte of the output are those of an outcome
pub record Does (o : Outcome) (answer : Result Actions Refusal) (connection : Connection) (output : List ℕ) : Type 0 where
  pub answer_is : stepped_as answer ≡ o.answer
  pub connection_is : connection ≡ o.connection
  pub output_is : output ≡ o.output
