-- What a message does (document 01, "Sessions" and "What each request does"): the refusals, the waiting rule, the table of tests, and the work.
-- Assumes nothing.
use Rattle.std.specs.Prelude.{◌≡◌, ℕ, ◌+◌, Bool, true, false, cond, not, ◌&&◌, ◌||◌, List, [], ◌∷◌, length, ◌==◌, nat_le, Result, Ok, Err, Option, Some, None}
use Rattle.octets.specs.Bytes.{splice}
use Rattle.refusal.specs.declared.Refusal.{Refusal}
use Rattle.refusal.specs.House.{house_number}
use Rattle.store.specs.declared.Limits.{Limits}
use Rattle.store.specs.Layout.{edition_of}
use Rattle.store.specs.Store.{encode, entries, sound}
use Rattle.store.specs.Request.{work}
use Rattle.message.specs.declared.Task.{Task}
use Rattle.message.specs.declared.Task.TheVariants.{Requests, DeleteAll, EndOfUpdate}
use Rattle.message.specs.declared.Kind.{Kind}
use Rattle.message.specs.declared.Kind.TheVariants.{Asks, SessionInit, Other}
use Rattle.message.specs.Header.{header_length, message_length, version, receiver, sender, transaction, sequence, kind}
use Rattle.message.specs.Body.{body_ok, requests}
use Rattle.message.specs.Written.{reply_bytes, init_ok}
use Rattle.session.specs.declared.Session.{Session}
use Rattle.session.specs.declared.Received.{Received}
use Rattle.session.specs.declared.Received.TheVariants as ReceivedAs
use Rattle.session.specs.Sessions.{State, Closed, Waiting, Open, state_of, closing, opening, remembering, replied}

-- ---- what a message leaves

-- a reply of a length, opened, ended, or the refusal
pub data Answered : Type 0 where
  reply : ℕ → Answered
  opened ended : Answered
  refused : ℕ → Answered

pub record Outcome : Type 0 where
  pub answer : Answered
  pub session : Session
  pub store : List ℕ
  pub output : List ℕ

-- a refusal writes nowhere
unfoldable pub refuse : ℕ → Session → List ℕ → List ℕ → Outcome
refuse n e s out = record { answer = refused n; session = e; store = s; output = out }

-- a reply with its RESPONSE and RESULTs; the bytes of the output past it keep their contents
unfoldable pub respond : ℕ → List ℕ → State → Session → List ℕ → List ℕ → List ℕ → Outcome
respond response results then e m s out =
    record {
      answer = reply (23 + length results);
      session = replied e then;
      store = s;
      output = splice out 0 (reply_bytes e.own e.peer (transaction m) e.next response results);
    }

-- ---- the table of tests, in its order: a test, the RESPONSE where it is the first that fails, and the session then

pub data Test : Type 0 where
  test : Bool → ℕ → State → Test

-- (000, 5.3.2.4)
abbrev pub length_ok : List ℕ → Bool
length_ok m = message_length m == length m && nat_le (length m) 5000

-- those up to the sequence number (RESPONSE: 000, 5.3.15)
abbrev pub header_tests : Session → List ℕ → List Test
header_tests e m =
    test (length_ok m) 2 Closed
    ∷ test (version m == 2) 5 Closed
    ∷ test (receiver m == e.own) 4 Closed
    ∷ test (sender m == e.peer) 3 Closed
    ∷ test (sequence m == e.expected) 9 Closed
    ∷ []

-- the number n is the one that is remembered (000, 5.4.2.5)
abbrev pub repeats : Session → ℕ → Bool
repeats e n = e.remembered && n == e.transaction

-- the test between the sequence number and the type
abbrev pub transaction_tests : Session → List ℕ → List Test
transaction_tests e m = test (not (repeats e (transaction m))) 10 Closed ∷ []

-- delete all and end of update do not ask whether the store is sound
abbrev pub asks_store : Task → Bool
asks_store (Requests k) = true
asks_store DeleteAll = false
asks_store EndOfUpdate = false

-- the store test
abbrev pub store_test : Task → Limits → List ℕ → Test
store_test task L s = test (not (asks_store task) || sound L s) 6 Open

-- those after the type
abbrev pub body_tests : Task → Limits → List ℕ → List ℕ → List Test
body_tests task L m s =
    test (body_ok task m) 11 Closed
    ∷ store_test task L s
    ∷ []

-- the RESPONSE and the session then, or the task of a message past all tests
pub data Verdict : Type 0 where
  failed : ℕ → State → Verdict
  passed : Task → Verdict

-- the first test that fails decides
unfoldable pub first_failed : List Test → Verdict → Verdict
first_failed [] v = v
first_failed (test b response then ∷ ts) v = cond b (first_failed ts v) (failed response then)

-- the type is one of the five commands or end of update, or RESPONSE 1, open
abbrev pub type_test : Kind → Limits → List ℕ → List ℕ → Verdict
type_test (Asks task) L m s = first_failed (body_tests task L m s) (passed task)
type_test SessionInit L m s = failed 1 Open
type_test Other L m s = failed 1 Open

unfoldable pub verdict : Limits → Session → List ℕ → List ℕ → Verdict
verdict L e m s = first_failed (header_tests e m) (first_failed (transaction_tests e m) (type_test (kind m) L m s))

-- every test of a list holds
unfoldable pub all_pass : List Test → Bool
all_pass [] = true
all_pass (test b response then ∷ ts) = b && all_pass ts

-- the session that answers: it remembers the number of the last message that passed the sequence test
unfoldable pub heard : Session → List ℕ → Session
heard e m = cond (all_pass (header_tests e m)) (remembering e (transaction m)) e

-- ---- a message past all tests

unfoldable pub obey : Limits → Task → Session → List ℕ → List ℕ → List ℕ → Outcome
obey L (Requests k) e m s out =
    let w = work L e.own (requests k m) (entries L s) in
    respond 0 w.results Open e m (encode L w.left) out
obey L DeleteAll e m s out = respond 0 [] Open e m (encode L []) out
obey L EndOfUpdate e m s out = record { answer = ended; session = closing e; store = s; output = out }

abbrev pub judged : Verdict → Limits → Session → List ℕ → List ℕ → List ℕ → Outcome
judged (passed task) L e m s out = obey L task e m s out
judged (failed response then) L e m s out = respond response [] then e m s out

-- ---- while waiting

abbrev pub is_init : Kind → Bool
is_init (Asks task) = false
is_init SessionInit = true
is_init Other = false

-- the one message that opens a session
unfoldable pub opens : Session → List ℕ → Bool
opens e m = is_init (kind m) && (length_ok m && (version m == 2 && (receiver m == e.own && (sender m == e.peer && init_ok m))))

unfoldable pub while_waiting : Session → List ℕ → List ℕ → List ℕ → Outcome
while_waiting e m s out =
    cond (opens e m)
    (record { answer = opened; session = opening e (sequence m); store = s; output = out })
    (refuse 5 (closing e) s out)

-- ---- a message: H1, H2, H3, H4, H5

unfoldable pub in_state : State → Limits → Session → List ℕ → List ℕ → List ℕ → Outcome
in_state Closed L e m s out = refuse 3 e s out
in_state Waiting L e m s out = cond (nat_le header_length (length m)) (while_waiting e m s out) (refuse 4 e s out)
in_state Open L e m s out = cond (nat_le header_length (length m)) (judged (verdict L e m s) L (heard e m) m s out) (refuse 4 e s out)

unfoldable pub receive_in : Option Limits → Session → List ℕ → List ℕ → List ℕ → Outcome
receive_in None e m s out = refuse 1 e s out
receive_in (Some L) e m s out = cond (nat_le 1032 (length out)) (in_state (state_of e.state) L e m s out) (refuse 2 e s out)

unfoldable pub receive : Session → List ℕ → List ℕ → List ℕ → Outcome
receive e m s out = receive_in (edition_of (length s)) e m s out

-- ---- the call

-- the answer in the paper's numbers
abbrev pub received_as : Result Received Refusal → Answered
received_as (Ok (ReceivedAs.Reply n)) = reply n
received_as (Ok ReceivedAs.Opened) = opened
received_as (Ok ReceivedAs.Ended) = ended
received_as (Err h) = refused (house_number h)

-- the answer, the session, and every byte of the store and of the output afterwards are those of an outcome
pub record Does (o : Outcome) (answer : Result Received Refusal) (session : Session) (store output : List ℕ) : Type 0 where
  pub answer_is : received_as answer ≡ o.answer
  pub session_is : session ≡ o.session
  pub store_is : store ≡ o.store
  pub output_is : output ≡ o.output
