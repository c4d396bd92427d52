-- What is claimed of one event beside the contracts, in the order of change request 1 (document 02). Each claim holds of any connection that is handed in. proofs/Theorems.antt
-- has a proof of each claim; what is claimed of whole runs and of two sides stands in `connections`.
-- Assumes nothing.
use Rattle.std.specs.Prelude.{◌≡◌, Result, Ok, Some, None, Bool, true, false, not, List, [], ◌∷◌, ◌++◌, ◌⊎◌, ℕ, ◌≤◌, ◌<◌, length}
use Rattle.octets.specs.Bytes.{Bytes, part, splice}
use Rattle.refusal.specs.declared.Refusal.{Refusal}
use Rattle.refusal.specs.House.{Answer, house, gives}
use Rattle.store.specs.declared.Limits.{Limits}
use Rattle.store.specs.Layout.{edition_of}
use Rattle.store.specs.Store.{entries, sound}
use Rattle.store.specs.Search as Held
use Rattle.store.specs.Claims.{NoneServes}
use Rattle.authentication.specs.Keys.{session_keys}
use Rattle.authentication.specs.Mac.{mac}
use Rattle.authentication.specs.Unit.{first_byte, message, unit_of, checked}
use Rattle.authentication.specs.Claims.{IsBuilt}
use Rattle.units.specs.declared.Code.{Code}
use Rattle.units.specs.Units.{type_of, etcs_id, sender_of, random, au1_unit, au2_text, au2_unit, au3_unit, ar_unit, di_unit, au1_fault, code, contents_code}
use Rattle.table.specs.declared.Connection.{Connection}
use Rattle.table.specs.declared.Actions.{Actions}
use Rattle.table.specs.declared.Kind.{Kind}
use Rattle.table.specs.declared.Kind.TheVariants.{Au3, Ar, Dt}
use Rattle.table.specs.declared.State.{State}
use Rattle.table.specs.declared.State.TheVariants.{IDLE, WFTC, WFAR, DATA, WFAU3, WFRESP}
use Rattle.table.specs.declared.ToUser.TheVariants as User
use Rattle.table.specs.declared.ToTransport.{ToTransport}
use Rattle.table.specs.declared.ToTransport.TheVariants.{Quiet, TConnReq, TConnResp, TDiscReq, TDiscReqDi, SendAu3, SendAr, SendDt}
use Rattle.table.specs.declared.Timer.TheVariants.{Keep}
use Rattle.table.specs.Table.{Event, AU3, AR, DT, TConnConf, Judged, pre, stays, to, Square, square_of, a19, Row, row, table, state_code, state_of, filled, has_row, no_action, protocol_error, blank, square}
use Rattle.table.specs.Steps.{idle, calling, called, kind_of, found, Input, connect_request, data_request, connect_indication, connect_confirmation, unit_indication, kind_event, asked, sendable, carried, to_user, acts, done, refused, Outcome, refuse, step, stepped_as}

-- ---- "the states, events and predicates of 6.2.6"

-- Sa-CONN.req in IDLE, of an acceptable application type
pub record Calls (i : Input) (c : Connection) : Type 0 where
  pub own : ℕ
  pub peer : ℕ
  pub t : ℕ
  pub rb : List ℕ
  pub store : List ℕ
  pub event_is : i ≡ connect_request true own peer t rb store
  pub in-IDLE : state_of c.state ≡ IDLE

-- T-CONN.ind in IDLE, of an acceptable application type, with an AU1 as it is built
pub record CalledBy (i : Input) (c : Connection) : Type 0 where
  pub own : ℕ
  pub t : ℕ
  pub ra : List ℕ
  pub unit : List ℕ
  pub store : List ℕ
  pub event_is : i ≡ connect_indication true own t ra unit store
  pub in-IDLE : state_of c.state ≡ IDLE
  pub built : Bytes unit → unit ≡ au1_unit (sender_of unit) (random unit)

-- T-CONN.conf in WFTC with the AU2 that the peer builds, under the session key of the KMAC, the RA in it and our RB
pub record ConfirmedBy (i : Input) (c : Connection) : Type 0 where
  pub unit : List ℕ
  pub event_is : i ≡ connect_confirmation unit
  pub in-WFTC : state_of c.state ≡ WFTC
  pub built : Bytes unit → unit ≡ au2_unit (session_keys c.key (random unit) c.rb) c.peer c.own (random unit) c.rb

-- set-up goes on only where Pre0 to Pre4 do not hold: whatever the event, where the next unit goes out or the user hears of the connection
pub record PredicatesJudge : Type 0 where
  pub au1_sent : (i : Input) (c : Connection) (out : List ℕ) (a : Actions) → (step i c out).answer ≡ done a → a.transport ≡ TConnReq → Calls i c
  pub au2_sent : (i : Input) (c : Connection) (out : List ℕ) (a : Actions) → (step i c out).answer ≡ done a → a.transport ≡ TConnResp → CalledBy i c
  pub au3_sent : (i : Input) (c : Connection) (out : List ℕ) (a : Actions) → (step i c out).answer ≡ done a → a.transport ≡ SendAu3 → ConfirmedBy i c
  pub indicated : (i : Input) (c : Connection) (out : List ℕ) (a : Actions) → (step i c out).answer ≡ done a → a.user ≡ User.ConnectIndication
      → (state_of c.state ≡ WFAU3) × (i ≡ unit_indication Au3 (au3_unit c.key c.own c.ra c.rb))
  pub confirmed : (i : Input) (c : Connection) (out : List ℕ) (a : Actions) → (step i c out).answer ≡ done a → a.user ≡ User.ConnectConfirmation
      → (state_of c.state ≡ WFAR) × (i ≡ unit_indication Ar (ar_unit c.key c.own))

-- ---- "the AU1, AU2, AU3, AR, DT and DI units of 6.2.5"

-- a host that tells AU3, AR and DT apart by `kind_of` is right about every unit as it is built
pub record KindOf : Type 0 where
  pub au3 : (key : List ℕ) (responder : ℕ) (ra rb : List ℕ) → kind_of (au3_unit key responder ra rb) ≡ Au3
  pub ar : (key : List ℕ) (caller : ℕ) → kind_of (ar_unit key caller) ≡ Ar
  pub dt : (key destination : List ℕ) (direction : Bool) (sent : List ℕ) → kind_of (unit_of key destination direction sent) ≡ Dt

-- ---- "each event gives the outgoing events and next state of Table 20"

abbrev pub AllFound : List Row → Type 0
AllFound [] = Unit
AllFound (row e s j up down timer next ∷ rs) = (square e s j ≡ square_of up down timer (to next)) × AllFound rs

-- each of the 26 rows is what its event, state and predicate find
pub record RowsFound : Type 0 where
  pub rows : length table ≡ 26
  pub found_all : AllFound table

-- the step does what this square says: its events go out with their unit, and the connection is in its next state or stays as it is
pub record Follows (i : Input) (c : Connection) (out : List ℕ) (q : Square) : Type 0 where
  pub events_are : (step i c out).answer ≡ done (acts (to_user q.up (asked i c).verdict) q.down q.timer (length (carried q.down (asked i c))))
  pub output_is : (step i c out).output ≡ splice out 0 (carried q.down (asked i c))
  pub next_is : (s : State) → q.next ≡ to s → (step i c out).connection.state ≡ state_code s
  pub stays_so : q.next ≡ stays → (step i c out).connection ≡ c

pub record TableFollowed : Type 0 where
  -- whatever is not refused is as its square says
  pub followed : (i : Input) (c : Connection) (out : List ℕ) (a : Actions) → (step i c out).answer ≡ done a
      → Follows i c out (square (asked i c).event (state_of c.state) (asked i c).verdict.when)
  -- and in a square that is not blank each predicate that an event can have finds its row
  pub picked : (i : Input) (c : Connection) → filled table (asked i c).event (state_of c.state) ≡ true
      → has_row table (asked i c).event (state_of c.state) (asked i c).verdict.when ≡ true

-- ---- "H8 counts as Pre5, H7 and H9 as Pre6"

-- the check of a DT unit: under the connection's key, with the own identity as destination, from the other side
abbrev pub data_answer : Connection → List ℕ → Answer
data_answer c unit = checked unit c.key (etcs_id c.own) (not c.responder)

-- Sa-DISC.ind, T-DISC.req with a DI, a19, IDLE
abbrev pub closing : Connection → Code → List ℕ → Outcome
closing c why out =
    record {
      answer = done (acts (User.DisconnectIndication why) TDiscReqDi a19 3);
      connection = idle;
      output = splice out 0 (di_unit c.responder why.reason why.sub);
    }

-- a DT unit that comes in DATA
pub record CountedAs : Type 0 where
  -- neither: Sa-DATA.ind with the length of the user data
  pub accepted : (c : Connection) (unit out : List ℕ) (n : ℕ) → c.state ≡ state_code DATA → 1032 ≤ length out → data_answer c unit ≡ gives n
      → step (unit_indication Dt unit) c out ≡ record { answer = done (acts (User.DataIndication n) Quiet Keep 0); connection = c; output = out }
  -- Pre5: Sa-REPORT.ind, DATA
  pub h8 : (c : Connection) (unit out : List ℕ) → c.state ≡ state_code DATA → 1032 ≤ length out → data_answer c unit ≡ house 8
      → step (unit_indication Dt unit) c out ≡ record { answer = done (acts (User.ReportIndication (code 4 1)) Quiet Keep 0); connection = c; output = out }
  -- Pre6
  pub h7 : (c : Connection) (unit out : List ℕ) → c.state ≡ state_code DATA → 1032 ≤ length out → data_answer c unit ≡ house 7
      → step (unit_indication Dt unit) c out ≡ closing c (code 10 5) out
  pub h9 : (c : Connection) (unit out : List ℕ) → c.state ≡ state_code DATA → 1032 ≤ length out → data_answer c unit ≡ house 9
      → step (unit_indication Dt unit) c out ≡ closing c (contents_code c.responder unit) out
  pub others : (c : Connection) (unit out : List ℕ) (n : ℕ) → c.state ≡ state_code DATA → 1032 ≤ length out → data_answer c unit ≡ house n → (n ≡ 8 → ⊥)
      → (why : Code) × (step (unit_indication Dt unit) c out ≡ closing c why out)

-- ---- "blank squares follow 6.2.6.3.2"

abbrev pub unmoved : Connection → List ℕ → Outcome
unmoved c out = record { answer = done (acts User.Nothing Quiet Keep 0); connection = c; output = out }

-- no unit that T-DATA.ind brings
abbrev pub NoUnit : Input → Type 0
NoUnit i = (k : Kind) (unit : List ℕ) → i ≡ unit_indication k unit → ⊥

pub record BlanksFollowed : Type 0 where
  pub blanks : (e : Event) (s : State) (j : Judged) → filled table e s ≡ false → square e s j ≡ blank e s
  -- an event from the user, the transport or the timer: no action
  pub no_action_lem : (i : Input) (c : Connection) (out : List ℕ) → NoUnit i → filled table (asked i c).event (state_of c.state) ≡ false → 1032 ≤ length out
      → sendable i ≡ true → step i c out ≡ unmoved c out
  -- a received unit: a protocol error
  pub unit : (k : Kind) (unit : List ℕ) (c : Connection) (out : List ℕ) → filled table (kind_event k) (state_of c.state) ≡ false → 1032 ≤ length out
      → Follows (unit_indication k unit) c out (protocol_error (state_of c.state))
  -- which is treated as the state's own row treats a unit that is not acceptable; WFRESP has none and goes by that of DATA
  pub in-IDLE : protocol_error IDLE ≡ no_action
  pub in-WFTC : protocol_error WFTC ≡ square TConnConf WFTC (pre 2)
  pub in-WFAR : protocol_error WFAR ≡ square AR WFAR (pre 4)
  pub in-DATA : protocol_error DATA ≡ square DT DATA (pre 6)
  pub in-WFAU3 : protocol_error WFAU3 ≡ square AU3 WFAU3 (pre 3)
  pub in-WFRESP : protocol_error WFRESP ≡ square DT DATA (pre 6)

-- ---- "normal user data comes out only in DATA and only when checked under that session's key"

-- the event is a DT unit in DATA, and the one that the peer builds under the connection's key of the n bytes that are handed out
pub record CheckedData (i : Input) (c : Connection) (n : ℕ) : Type 0 where
  pub unit : List ℕ
  pub event_is : i ≡ unit_indication Dt unit
  pub in-DATA : state_of c.state ≡ DATA
  pub built : IsBuilt unit c.key (etcs_id c.own) (not c.responder) (part unit 1 n)
  pub count : length (part unit 1 n) ≡ n

-- whatever the event: where user data go up. Of which session the key is, `connections` claims of whole runs
pub record DataOnlyChecked : Type 0 where
  pub only : (i : Input) (c : Connection) (out : List ℕ) (a : Actions) (n : ℕ) → (step i c out).answer ≡ done a → a.user ≡ User.DataIndication n → CheckedData i c n

-- ---- "random numbers are inputs": RB comes with Sa-CONN.req, and RA with T-CONN.ind (`Input`)

-- ---- "before the table, each event is refused by H2 and, for user data to send, H10"

-- user data to send that are none, or too many
pub record Unsendable (i : Input) : Type 0 where
  pub sent : List ℕ
  pub event_is : i ≡ data_request sent
  pub length_wrong : (1 ≤ length sent) × (length sent ≤ 1023) → ⊥

-- in every state
pub record RefusedFirst : Type 0 where
  pub h2 : (i : Input) (c : Connection) (out : List ℕ) → length out < 1032 → step i c out ≡ refuse 2 c out
  pub h10 : (i : Input) (c : Connection) (out : List ℕ) → 1032 ≤ length out → Unsendable i → step i c out ≡ refuse 10 c out
  -- and never else
  pub only_h2 : (i : Input) (c : Connection) (out : List ℕ) → (step i c out).answer ≡ refused 2 → length out < 1032
  pub only_h10 : (i : Input) (c : Connection) (out : List ℕ) → (step i c out).answer ≡ refused 10 → Unsendable i

-- ---- "where the table starts set-up, on either side, the key of that peer is searched at a lent T, and a refusal is the answer"

-- the event starts set-up in IDLE with this connection, and what its search refuses is the answer
pub record SearchDecides (i : Input) (search : Answer) (new : Connection) : Type 0 where
  pub refused_by : (c : Connection) (out : List ℕ) (n : ℕ) → state_of c.state ≡ IDLE → 1032 ≤ length out → search ≡ house n → step i c out ≡ refuse n c out
  pub starts : (c : Connection) (out : List ℕ) (place : ℕ) → state_of c.state ≡ IDLE → 1032 ≤ length out → search ≡ gives place → (step i c out).connection ≡ new

pub record SearchRefuses : Type 0 where
  pub of_caller : (own peer t : ℕ) (rb store : List ℕ)
      → SearchDecides (connect_request true own peer t rb store) (found store own peer t) (calling own peer rb (Held.key store peer t))
  pub of_called : (own t : ℕ) (ra unit store : List ℕ) → au1_fault unit ≡ Ok tt
      → SearchDecides (connect_indication true own t ra unit store) (found store own (sender_of unit) t)
      (called own (sender_of unit) ra (random unit) (Held.key store (sender_of unit) t))
  -- H1, H12, H11, in this order
  pub h1 : (store : List ℕ) (own peer t : ℕ) → edition_of (length store) ≡ None → found store own peer t ≡ house 1
  pub h12 : (L : Limits) (store : List ℕ) (own peer t : ℕ) → edition_of (length store) ≡ Some L → sound L store ≡ false → found store own peer t ≡ house 12
  pub h11 : (L : Limits) (store : List ℕ) (own peer t : ℕ) → edition_of (length store) ≡ Some L → sound L store ≡ true
      → NoneServes (entries L store) peer t → found store own peer t ≡ house 11
  -- "H11 also if own or peer identity type is over 7"
  pub h11_types : (L : Limits) (store : List ℕ) (own peer t : ℕ) → edition_of (length store) ≡ Some L → sound L store ≡ true
      → (7 < type_of own) ⊎ (7 < type_of peer) → found store own peer t ≡ house 11
  -- no other refusal; and where a key serves and both types are at most 7, none
  pub only : (store : List ℕ) (own peer t n : ℕ) → found store own peer t ≡ house n → (n ≡ 1) ⊎ ((n ≡ 12) ⊎ (n ≡ 11))
  pub searched : (store : List ℕ) (own peer t place end : ℕ) → Held.find store peer t ≡ Held.found place end → type_of own ≤ 7 → type_of peer ≤ 7
      → found store own peer t ≡ gives place
  -- and where set-up does not start, no refusal but H2 and H10
  pub only_there : (i : Input) (c : Connection) (out : List ℕ) (n : ℕ) → (step i c out).answer ≡ refused n → (n ≡ 2) ⊎ ((n ≡ 10) ⊎ (Calls i c ⊎ CalledBy i c))

-- ---- "all these leave the state"

pub record RefusalLeaves : Type 0 where
  pub connection_left : (i : Input) (c : Connection) (out : List ℕ) (n : ℕ) → (step i c out).answer ≡ refused n → (step i c out).connection ≡ c
  pub output_left : (i : Input) (c : Connection) (out : List ℕ) (n : ℕ) → (step i c out).answer ≡ refused n → (step i c out).output ≡ out

-- ---- "key expiry later doesn't close"

-- the two events that bring a store and a moment do nothing outside IDLE, whatever these are; no other event has either (`Input`)
pub record ExpiryClosesNothing : Type 0 where
  pub of_request : (acceptable : Bool) (own peer t : ℕ) (rb store : List ℕ) (c : Connection) (out : List ℕ) → (state_of c.state ≡ IDLE → ⊥) → 1032 ≤ length out
      → step (connect_request acceptable own peer t rb store) c out ≡ unmoved c out
  pub of_indication : (acceptable : Bool) (own t : ℕ) (ra unit store : List ℕ) (c : Connection) (out : List ℕ) → (state_of c.state ≡ IDLE → ⊥) → 1032 ≤ length out
      → step (connect_indication acceptable own t ra unit store) c out ≡ unmoved c out

-- ---- where keys show

-- a unit without its MAC, made of role, own identity, RA, RB, reason and user data: no key goes in
unfoldable pub shown : ToTransport → Bool → ℕ → List ℕ → List ℕ → Code → List ℕ → List ℕ
shown Quiet responder own ra rb why sent = []
shown TConnReq responder own ra rb why sent = au1_unit own rb
shown TConnResp responder own ra rb why sent = au2_text own ra
shown TDiscReq responder own ra rb why sent = []
shown TDiscReqDi responder own ra rb why sent = di_unit responder why.reason why.sub
shown SendAu3 responder own ra rb why sent = first_byte 0 3 0 ∷ []
shown SendAr responder own ra rb why sent = first_byte 0 9 1 ∷ []
shown SendDt responder own ra rb why sent = message responder sent

-- only nothing, AU1 and DI go out without a MAC
abbrev pub bare : ToTransport → Bool
bare Quiet = true
bare TConnReq = true
bare TConnResp = false
bare TDiscReq = true
bare TDiscReqDi = true
bare SendAu3 = false
bare SendAr = false
bare SendDt = false

-- what stands behind it: nothing, or the MAC of some message
pub data Seal (key : List ℕ) : Bool → List ℕ → Type 0 where
  unsealed : Seal key true []
  sealed : (destination text : List ℕ) → Seal key false (mac key destination text)

-- the bytes that a step writes: the MAC is under the key that the connection then has
pub record Shows (i : Input) (c : Connection) (out : List ℕ) (a : Actions) : Type 0 where
  pub seal : List ℕ
  pub output_is :
      let b = (asked i c).about in
      (step i c out).output ≡ splice out 0 (shown a.transport b.responder b.own b.ra b.rb (asked i c).verdict.why (asked i c).sent ++ seal)
  pub seal_is : Seal (step i c out).connection.key (bare a.transport) seal

-- a refusal writes nothing (`RefusalLeaves`)
pub record OnlyMacsShowKeys : Type 0 where
  pub shows : (i : Input) (c : Connection) (out : List ℕ) (a : Actions) → (step i c out).answer ≡ done a → Shows i c out a

-- ---- answers

-- the paper's numbers are those of one answer only: a contract that fixes them fixes the answer
pub record OneAnswer : Type 0 where
  pub of_step : (a b : Result Actions Refusal) → stepped_as a ≡ stepped_as b → a ≡ b
