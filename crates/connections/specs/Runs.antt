-- Runs: lists of events over one connection, and what inputs and answers tell of the session at hand; and two sides that exchange units.
-- Assumes nothing.
use Rattle.std.specs.Prelude.{Bool, true, false, cond, List, [], ◌∷◌, ℕ, take, replicate}
use Rattle.store.specs.Search as Held
use Rattle.authentication.specs.Keys.{session_keys}
use Rattle.units.specs.Units.{sender_of, random}
use Rattle.table.specs.declared.Connection.{Connection}
use Rattle.table.specs.declared.Kind.TheVariants.{Au3, Ar}
use Rattle.table.specs.declared.ToTransport.{ToTransport}
use Rattle.table.specs.declared.ToTransport.TheVariants.{Quiet, TConnReq, TConnResp, TDiscReq, TDiscReqDi, SendAu3, SendAr, SendDt}
use Rattle.table.specs.Steps.{Input, connect_request, connect_response, data_request, disconnect_request, connect_indication, connect_confirmation, disconnect_indication, unit_indication, time_out, Answered, done, refused, Outcome, idle, step}

-- ---- the account of a session, kept of inputs and answers alone

-- the store and the moment at its start, the two identities, the role and the random numbers
pub record Account : Type 0 where
  pub store : List ℕ
  pub t : ℕ
  pub own : ℕ
  pub peer : ℕ
  pub responder : Bool
  pub ra : List ℕ
  pub rb : List ℕ

-- the KMAC that the search gave, and the session's key
abbrev pub kmac_of : Account → List ℕ
kmac_of h = Held.key h.store h.peer h.t

abbrev pub key_of : Account → List ℕ
key_of h = session_keys (kmac_of h) h.ra h.rb

-- an AU1 that goes out begins the account of a caller, an AU2 that of one who is called; with an AU3 the caller has learnt RA
abbrev pub tells : ToTransport → Bool
tells TConnReq = true
tells TConnResp = true
tells SendAu3 = true
tells Quiet = false
tells TDiscReq = false
tells TDiscReqDi = false
tells SendAr = false
tells SendDt = false

abbrev pub told : Input → Account → Account
told (connect_request acceptable own peer t rb store) h =
    record { store = store; t = t; own = own; peer = peer; responder = false; ra = replicate 8 0; rb = rb }
told (connect_indication acceptable own t ra unit store) h =
    record { store = store; t = t; own = own; peer = sender_of unit; responder = true; ra = ra; rb = random unit }
told (connect_confirmation unit) h =
    record { store = h.store; t = h.t; own = h.own; peer = h.peer; responder = h.responder; ra = random unit; rb = h.rb }
told connect_response h = h
told (data_request sent) h = h
told (disconnect_request reason sub) h = h
told (disconnect_indication reason unit) h = h
told (unit_indication kind unit) h = h
told time_out h = h

unfoldable pub noted : Answered → Input → Account → Account
noted (done a) i h = cond (tells a.transport) (told i h) h
noted (refused n) i h = h

-- ---- a run

-- an event, with the output buffer that is lent
pub data Call : Type 0 where
  call : Input → List ℕ → Call

pub record World : Type 0 where
  pub connection : Connection
  pub account : Account

unfoldable pub next : Call → World → World
next (call i out) w =
    record { connection = (step i w.connection out).connection; account = noted (step i w.connection out).answer i w.account }

unfoldable pub final : List Call → World → World
final [] w = w
final (c ∷ cs) w = final cs (next c w)

-- from no connection
abbrev pub start : World
start = record { connection = idle; account = record { store = []; t = 0; own = 0; peer = 0; responder = false; ra = []; rb = [] } }

unfoldable pub run : List Call → World
run cs = final cs start

-- ---- two sides

-- the unit that an outcome sends: as many bytes of the output as were written
abbrev pub written_in : Answered → List ℕ → List ℕ
written_in (done a) out = take a.written out
written_in (refused n) out = []

abbrev pub unit_sent : Outcome → List ℕ
unit_sent o = written_in o.answer o.output

-- the caller b and the called a: random number, moment, store and output buffer of each
pub record Sides : Type 0 where
  pub a : ℕ
  pub b : ℕ
  pub ra : List ℕ
  pub rb : List ℕ
  pub ta : ℕ
  pub tb : ℕ
  pub store_a : List ℕ
  pub store_b : List ℕ
  pub out_a : List ℕ
  pub out_b : List ℕ

-- the six steps of set-up, each on what the one before sent (6.2.4.2)
unfoldable pub step1 : Sides → Outcome
step1 x = step (connect_request true x.b x.a x.tb x.rb x.store_b) idle x.out_b

unfoldable pub step2 : Sides → Outcome
step2 x = step (connect_indication true x.a x.ta x.ra (unit_sent (step1 x)) x.store_a) idle x.out_a

unfoldable pub step3 : Sides → Outcome
step3 x = step (connect_confirmation (unit_sent (step2 x))) (step1 x).connection x.out_b

unfoldable pub step4 : Sides → Outcome
step4 x = step (unit_indication Au3 (unit_sent (step3 x))) (step2 x).connection x.out_a

unfoldable pub step5 : Sides → Outcome
step5 x = step connect_response (step4 x).connection x.out_a

unfoldable pub step6 : Sides → Outcome
step6 x = step (unit_indication Ar (unit_sent (step5 x))) (step3 x).connection x.out_b
