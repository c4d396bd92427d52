-- What the parts of `receive` do, for the calls above them.
-- Assumes nothing.
use Rattle.std.specs.Prelude.{◌≡◌, ℕ, ◌+◌, ◌≤◌, List, [], ◌∷◌, length, Result, Ok, Err}
use Rattle.octets.specs.Bytes.{splice}
use Rattle.refusal.specs.declared.Refusal.{Refusal}
use Rattle.store.specs.declared.Limits.{Limits}
use Rattle.store.specs.Layout.{total, Bounded}
use Rattle.message.specs.declared.Command.{Command}
use Rattle.message.specs.declared.Task.TheVariants.{Requests}
use Rattle.session.specs.declared.Session.{Session}
use Rattle.session.specs.declared.Received.{Received}
use Rattle.session.specs.declared.response.Response.{Response}
use Rattle.session.specs.declared.response.Response.TheVariants.{Done, NotSupported, LengthError, SenderMismatch, ReceiverMismatch, VersionMismatch, StoreUnsound, SequenceMismatch, TransactionMismatch, FormatError}
use Rattle.session.specs.Sessions.{Closed, Open}
use Rattle.session.specs.Rules.{Verdict, failed, passed, first_failed, header_tests, store_test, Outcome, refuse, respond, judged, while_waiting, Does}

-- (000, 5.3.15)
abbrev pub response_number : Response → ℕ
response_number Done = 0
response_number NotSupported = 1
response_number LengthError = 2
response_number SenderMismatch = 3
response_number ReceiverMismatch = 4
response_number VersionMismatch = 5
response_number StoreUnsound = 6
response_number SequenceMismatch = 9
response_number TransactionMismatch = 10
response_number FormatError = 11

-- the verdict of the header tests, and v where none fails
abbrev pub fault_or : Verdict → Result (Unit {0}) Response → Verdict
fault_or v (Ok none) = v
fault_or v (Err r) = failed (response_number r) Closed

-- r is the RESPONSE of the first header test that fails, or says that none does
pub record Faults (e : Session) (m : List ℕ) (r : Result (Unit {0}) Response) : Type 0 where
  pub by : (v : Verdict) → first_failed (header_tests e m) v ≡ fault_or v r

-- what a message past the refusals works on: a store of an edition, and an output with room for every reply
pub record Lent (L : Limits) (s out : List ℕ) : Type 0 where
  pub bounded : Bounded L
  pub whole_store : length s ≡ total L
  pub room : 1032 ≤ length out

-- a refusal, whatever the store and the output hold
pub record Refuses (n : ℕ) (e : Session) (answer : Result Received Refusal) (session : Session) : Type 0 where
  pub by : (s out : List ℕ) → Does (refuse n e s out) answer session s out

-- a message to a waiting session, whatever the store and the output hold
pub record Waits (e : Session) (m : List ℕ) (answer : Result Received Refusal) (session : Session) : Type 0 where
  pub by : (s out : List ℕ) → Does (while_waiting e m s out) answer session s out

-- a reply with RESPONSE 0 and the n RESULTs that stand in the output from byte 23, whatever the store holds
pub record Reports (n : ℕ) (e : Session) (m written after : List ℕ) (answer : Result Received Refusal) (session : Session) : Type 0 where
  pub by : (s out rs : List ℕ) → length rs ≡ n → 23 + n ≤ length out → written ≡ splice out 23 rs → Does (respond 0 rs Open e m s out) answer session s after

-- a command whose body passed the test: the store test, and the work where it holds
abbrev pub work_if_sound : Limits → Command → Session → List ℕ → List ℕ → List ℕ → Outcome
work_if_sound L k e m s out = judged (first_failed (store_test (Requests k) L s ∷ []) (passed (Requests k))) L e m s out
