-- What is claimed of whole runs from no connection, and of two sides (document 02, change request 1). proofs/Theorems.antt has a proof of each claim.
-- Assumes nothing.
use Rattle.std.specs.Prelude.{◌≡◌, Bool, true, false, not, List, ◌∷◌, ◌++◌, ℕ, ◌≤◌, length}
use Rattle.octets.specs.Bytes.{part}
use Rattle.refusal.specs.House.{gives}
use Rattle.store.specs.Search as Held
use Rattle.authentication.specs.Keys.{session_keys}
use Rattle.authentication.specs.Claims.{IsBuilt}
use Rattle.units.specs.Units.{etcs_id}
use Rattle.table.specs.declared.Connection.{Connection}
use Rattle.table.specs.declared.Actions.{Actions}
use Rattle.table.specs.declared.Kind.TheVariants.{Au3, Ar, Dt}
use Rattle.table.specs.declared.State.{State}
use Rattle.table.specs.declared.State.TheVariants.{IDLE, WFTC, WFAR, DATA, WFAU3, WFRESP}
use Rattle.table.specs.declared.ToUser.TheVariants as User
use Rattle.table.specs.declared.ToTransport.TheVariants.{Quiet}
use Rattle.table.specs.declared.Timer.TheVariants.{Keep}
use Rattle.table.specs.Table.{a6, state_code, state_of}
use Rattle.table.specs.Steps.{idle, kind_of, found, Input, connect_request, data_request, connect_indication, unit_indication, acts, done, Outcome, step, handed_up}
use Rattle.connections.specs.Runs.{Account, kmac_of, key_of, Call, call, World, run, Sides, unit_sent, step3, step4, step5, step6}

-- ---- what a connection holds in each state, after any list of events

-- identities and role are the account's, and at its start a key was found for types of at most 7
pub record Named (c : Connection) (h : Account) : Type 0 where
  pub own_is : c.own ≡ h.own
  pub peer_is : c.peer ≡ h.peer
  pub role_is : c.responder ≡ h.responder
  pub rb_is : c.rb ≡ h.rb
  pub place : ℕ
  pub was_found : found h.store h.own h.peer h.t ≡ gives place

pub record HoldsKmac (c : Connection) (h : Account) : Type 0 where
  pub named : Named c h
  pub key_is : c.key ≡ kmac_of h

pub record HoldsSessionKey (c : Connection) (h : Account) : Type 0 where
  pub named : Named c h
  pub ra_is : c.ra ≡ h.ra
  pub key_is : c.key ≡ key_of h

-- in IDLE nothing is left, no key byte either
abbrev pub Holds : State → Connection → Account → Type 0
Holds IDLE c h = c ≡ idle
Holds WFTC c h = HoldsKmac c h
Holds WFAR c h = HoldsSessionKey c h
Holds DATA c h = HoldsSessionKey c h
Holds WFAU3 c h = HoldsSessionKey c h
Holds WFRESP c h = HoldsSessionKey c h

abbrev pub HoldsIn : World → Type 0
HoldsIn w = Holds (state_of w.connection.state) w.connection w.account

pub record KeyInEachState : Type 0 where
  pub held : (cs : List Call) → HoldsIn (run cs)

pub record IdleIsEmpty : Type 0 where
  pub empty : (cs : List Call) → state_of (run cs).connection.state ≡ IDLE → (run cs).connection ≡ idle

-- ---- "normal user data comes out only in DATA and only when checked under that session's key"

-- the event is a DT unit in DATA, and the one that the peer builds of the n bytes that are handed out, under the session key of the KMAC that the search at
-- this session's start gave and of this session's two random numbers
pub record SessionData (i : Input) (w : World) (n : ℕ) : Type 0 where
  pub unit : List ℕ
  pub event_is : i ≡ unit_indication Dt unit
  pub in-DATA : state_of w.connection.state ≡ DATA
  pub built : IsBuilt unit (key_of w.account) (etcs_id w.account.own) (not w.account.responder) (part unit 1 n)
  pub count : length (part unit 1 n) ≡ n
  pub place : ℕ
  pub was_found : found w.account.store w.account.own w.account.peer w.account.t ≡ gives place

pub record OnlyCheckedData : Type 0 where
  pub only : (cs : List Call) (i : Input) (out : List ℕ) (a : Actions) (n : ℕ) → (step i (run cs).connection out).answer ≡ done a
      → a.user ≡ User.DataIndication n → SessionData i (run cs) n

-- ---- "key expiry later doesn't close"

-- the two events that bring a store and a moment
pub data BringsStore : Input → Type 0 where
  request : (acceptable : Bool) (own peer t : ℕ) (rb store : List ℕ) → BringsStore (connect_request acceptable own peer t rb store)
  indication : (acceptable : Bool) (own t : ℕ) (ra unit store : List ℕ) → BringsStore (connect_indication acceptable own t ra unit store)

-- where a session is at hand, a run goes on as without them, whatever store and moment are
pub record ExpiryClosesNothingLater : Type 0 where
  pub left_out : (cs ds : List Call) (i : Input) (out : List ℕ) → BringsStore i → (state_of (run cs).connection.state ≡ IDLE → ⊥)
      → run (cs ++ (call i out ∷ ds)) ≡ run (cs ++ ds)

-- ---- two sides that deliver units unaltered

-- both find a key, and it is the same; random numbers have eight bytes, and output buffers room
pub record Ready (x : Sides) : Type 0 where
  pub place_a : ℕ
  pub place_b : ℕ
  pub found_a : found x.store_a x.a x.b x.ta ≡ gives place_a
  pub found_b : found x.store_b x.b x.a x.tb ≡ gives place_b
  pub shared : Held.key x.store_b x.a x.tb ≡ Held.key x.store_a x.b x.ta
  pub eight_a : length x.ra ≡ 8
  pub eight_b : length x.rb ≡ 8
  pub room_a : 1032 ≤ length x.out_a
  pub room_b : 1032 ≤ length x.out_b

abbrev pub shared_key : Sides → List ℕ
shared_key x = session_keys (Held.key x.store_a x.b x.ta) x.ra x.rb

-- what c sends, d can check: both in DATA, one key, c sends to d, in opposite roles
pub record Partners (c d : Connection) : Type 0 where
  pub c_in-DATA : c.state ≡ state_code DATA
  pub d_in-DATA : d.state ≡ state_code DATA
  pub destination : c.peer ≡ d.own
  pub roles : c.responder ≡ not d.responder
  pub one_key : c.key ≡ d.key
  pub triple : length c.key ≡ 24

pub record SetUp (x : Sides) : Type 0 where
  -- the users hear of it
  pub indicated : (step4 x).answer ≡ done (acts User.ConnectIndication Quiet Keep 0)
  pub confirmed : (step6 x).answer ≡ done (acts User.ConnectConfirmation Quiet a6 0)
  -- both sides are in DATA with one session key
  pub called_is : (step5 x).connection ≡ record { state = state_code DATA; responder = true; own = x.a; peer = x.b; ra = x.ra; rb = x.rb; key = shared_key x }
  pub caller_is : (step6 x).connection ≡ record { state = state_code DATA; responder = false; own = x.b; peer = x.a; ra = x.ra; rb = x.rb; key = shared_key x }
  pub to_caller : Partners (step5 x).connection (step6 x).connection
  pub to_called : Partners (step6 x).connection (step5 x).connection
  -- a host that goes by `kind_of` brings the same events
  pub au3_told : kind_of (unit_sent (step3 x)) ≡ Au3
  pub ar_told : kind_of (unit_sent (step5 x)) ≡ Ar

pub record Completes : Type 0 where
  pub completes : (x : Sides) → Ready x → SetUp x

-- the same bytes go up at the other side, and neither connection changes: so it holds of any number of units, in any order
pub record Arrived (c d : Connection) (sent : List ℕ) (sending receiving : Outcome) (unit : List ℕ) : Type 0 where
  pub sender_is : sending.connection ≡ c
  pub answer_is : receiving.answer ≡ done (acts (User.DataIndication (length sent)) Quiet Keep 0)
  pub receiver_is : receiving.connection ≡ d
  pub handed : handed_up receiving.answer unit ≡ sent
  pub dt_told : kind_of unit ≡ Dt

pub record DataArrives : Type 0 where
  pub arrives : (c d : Connection) (sent out out' : List ℕ) → Partners c d → 1 ≤ length sent → length sent ≤ 1023 → 1032 ≤ length out → 1032 ≤ length out'
      → let sending = step (data_request sent) c out in
      Arrived c d sent sending (step (unit_indication Dt (unit_sent sending)) d out') (unit_sent sending)
