-- What is claimed of messages beside the contracts. proofs/Theorems.antt, proofs/TransactionLaws.antt, proofs/StoreTestLaws.antt and proofs/AnswerLaws.antt have a
-- proof of each claim.
-- Assumes nothing.
use Rattle.std.specs.Prelude.{◌≡◌, ℕ, ◌+◌, ◌<◌, ◌≤◌, Bool, true, false, List, length, take, ◌≢◌, slice_index, slice_index_or, Result, Some}
use Rattle.refusal.specs.declared.Refusal.{Refusal}
use Rattle.store.specs.declared.Limits.{Limits}
use Rattle.store.specs.Layout.{edition_of}
use Rattle.store.specs.Store.{sound}
use Rattle.message.specs.declared.Task.{Task}
use Rattle.message.specs.declared.Kind.TheVariants.{Asks}
use Rattle.message.specs.Header.{message_length, transaction, kind}
use Rattle.message.specs.Body.{body_ok, request_number}
use Rattle.session.specs.declared.Session.{Session}
use Rattle.session.specs.declared.Received.{Received}
use Rattle.session.specs.Sessions.{State, Closed, Open, code_of, closing, begin, begins, refuses, begin_output, begun_as}
use Rattle.session.specs.Rules.{Outcome, header_tests, transaction_tests, asks_store, all_pass, receive, reply, opened, refused, received_as}

-- the paper's numbers are those of one answer only: a contract that fixes them fixes the answer
pub record OneAnswer : Type 0 where
  pub of_begin : (a b : Result (Session × ℕ) Refusal) → begun_as a ≡ begun_as b → a ≡ b
  pub of_message : (a b : Result Received Refusal) → received_as a ≡ received_as b → a ≡ b

-- demand 1: a refusal writes to no lent buffer
pub record RefusalWritesNothing : Type 0 where
  pub of_begin : (own peer start : ℕ) (out : List ℕ) (n : ℕ) → begin own peer start out ≡ refuses n → begin_output (begin own peer start out) own peer start out ≡ out
  pub of_store : (e : Session) (m s out : List ℕ) (n : ℕ) → (receive e m s out).answer ≡ refused n → (receive e m s out).store ≡ s
  pub of_output : (e : Session) (m s out : List ℕ) (n : ℕ) → (receive e m s out).answer ≡ refused n → (receive e m s out).output ≡ out

-- demand 1: a message answered with RESPONSE other than 0 (byte 20 of the reply) changes no byte of the store
pub record OnlyZeroChangesStore : Type 0 where
  pub kept : (e : Session) (m s out : List ℕ) (n : ℕ) → (receive e m s out).answer ≡ reply n → (slice_index (receive e m s out).output 20 ≢ 0)
      → (receive e m s out).store ≡ s

-- a torn message leaves the store: one whose length field is not its length, and any proper prefix of a message whose length field is right
pub record TornLeavesStore : Type 0 where
  pub wrong_length : (e : Session) (m s out : List ℕ) → (message_length m ≢ length m) → (receive e m s out).store ≡ s
  pub prefix : (e : Session) (m s out : List ℕ) (k : ℕ) → k < length m → message_length m ≡ length m → (receive e (take k m) s out).store ≡ s

-- which session a refusal leaves: the one that was, but after H5, where it is closed
pub record RefusalLeavesSession : Type 0 where
  pub as_it_was : (e : Session) (m s out : List ℕ) (n : ℕ) → (receive e m s out).answer ≡ refused n → (n ≢ 5) → (receive e m s out).session ≡ e
  pub closed : (e : Session) (m s out : List ℕ) → (receive e m s out).answer ≡ refused 5 → (receive e m s out).session ≡ closing e

-- what is no reply writes neither the store nor the output
pub record OnlyRepliesWrite : Type 0 where
  pub of_store : (e : Session) (m s out : List ℕ) → ((n : ℕ) → (receive e m s out).answer ≢ reply n) → (receive e m s out).store ≡ s
  pub of_output : (e : Session) (m s out : List ℕ) → ((n : ℕ) → (receive e m s out).answer ≢ reply n) → (receive e m s out).output ≡ out

-- a reply has 23 bytes and one for each RESULT, at most 500
pub record ReplyLength : Type 0 where
  pub from : (e : Session) (m s out : List ℕ) (n : ℕ) → (receive e m s out).answer ≡ reply n → 23 ≤ n
  pub to : (e : Session) (m s out : List ℕ) (n : ℕ) → (receive e m s out).answer ≡ reply n → n ≤ 523

-- ---- the table of tests

-- the message comes to it: no refusal applies, and the session is open
pub record Tested (L : Limits) (e : Session) (m s out : List ℕ) : Type 0 where
  pub edition_is : edition_of (length s) ≡ Some L
  pub room : 1032 ≤ length out
  pub is_open : e.state ≡ code_of Open
  pub whole_header : 20 ≤ length m

-- a reply of type 11 with this RESPONSE and so many RESULTs; the session is then in this state
pub record HasResponse (response results : ℕ) (then : State) (o : Outcome) : Type 0 where
  pub answer_is : o.answer ≡ reply (23 + results)
  pub type_is : slice_index_or o.output 19 0 ≡ 11
  pub response_is : slice_index_or o.output 20 0 ≡ response
  pub state_is : o.session.state ≡ code_of then

-- ---- the transaction number of the last message that passed the sequence test (document 02, change request 3)

-- whether a session remembers one, and which
pub record Recalls (remembered : Bool) (number : ℕ) (e : Session) : Type 0 where
  pub remembered_is : e.remembered ≡ remembered
  pub number_is : e.transaction ≡ number

-- the same session, with n in the field of the number
abbrev pub beside : Session → ℕ → Session
beside e n =
    record { state = e.state; own = e.own; peer = e.peer; next = e.next; expected = e.expected; remembered = e.remembered; transaction = n }

-- two outcomes that differ in the session's number at most
pub record SameBeside (o o' : Outcome) : Type 0 where
  pub same_answer : o.answer ≡ o'.answer
  pub same_session : o.session ≡ beside o'.session o.session.transaction
  pub same_store : o.store ≡ o'.store
  pub same_output : o.output ≡ o'.output

-- a message past the header tests, to an open session, is remembered whatever it is answered, and end of update too
pub record HeardIsRemembered : Type 0 where
  pub recalled : (e : Session) (m s out : List ℕ) → all_pass (header_tests e m) ≡ true → ((n : ℕ) → (receive e m s out).answer ≢ refused n)
      → ((receive e m s out).answer ≢ opened) → Recalls true (transaction m) (receive e m s out).session

-- where a header test fails, or the message is refused, what is remembered stays
pub record NotHeard : Type 0 where
  pub after_fault : (e : Session) (m s out : List ℕ) → all_pass (header_tests e m) ≡ false → ((receive e m s out).answer ≢ opened)
      → Recalls e.remembered e.transaction (receive e m s out).session
  pub after_refusal : (e : Session) (m s out : List ℕ) (n : ℕ) → (receive e m s out).answer ≡ refused n → Recalls e.remembered e.transaction (receive e m s out).session

-- nothing is remembered of the session before
pub record OpeningForgets : Type 0 where
  pub of_begin : (own peer start : ℕ) (out : List ℕ) (e : Session) (n : ℕ) → begin own peer start out ≡ begins e n → Recalls false 0 e
  pub of_message : (e : Session) (m s out : List ℕ) → (receive e m s out).answer ≡ opened → Recalls false 0 (receive e m s out).session

-- where none is remembered, the number beside it means nothing
pub record NoneIsNone : Type 0 where
  pub any_number : (e : Session) (n : ℕ) (m s out : List ℕ) → e.remembered ≡ false → SameBeside (receive (beside e n) m s out) (receive e m s out)

-- so of two messages past the header tests, one after the other and with one number, where the first leaves the session open, the second is answered 10, whatever the type and the body of either and the RESPONSE to the first
pub record RepeatedIsTen : Type 0 where
  pub second : (e : Session) (m s out : List ℕ) → all_pass (header_tests e m) ≡ true → ((n : ℕ) → (receive e m s out).answer ≢ refused n)
      → ((receive e m s out).answer ≢ opened) → (e' : Session) → e' ≡ (receive e m s out).session → (L : Limits) (m' s' out' : List ℕ) → Tested L e' m' s' out'
      → all_pass (header_tests e' m') ≡ true → transaction m' ≡ transaction m → HasResponse 10 0 Closed (receive e' m' s' out') × ((receive e' m' s' out').store ≡ s')

-- and no other is: RESPONSE 10 says that the message is past the header tests, that a number was remembered, and that the message has it
pub record TenIsRepeated : Type 0 where
  pub only : (e : Session) (m s out : List ℕ) (n : ℕ) → (receive e m s out).answer ≡ reply n → slice_index (receive e m s out).output 19 ≡ 11
      → slice_index (receive e m s out).output 20 ≡ 10 → (all_pass (header_tests e m) ≡ true) × Recalls true (transaction m) e

-- ---- the store test (document 02, change request 9)

-- past every test before it, with a task that asks the store
pub record AtStoreTest (L : Limits) (e : Session) (m s out : List ℕ) : Type 0 where
  pub tested : Tested L e m s out
  pub header_right : all_pass (header_tests e m) ≡ true
  pub number_new : all_pass (transaction_tests e m) ≡ true
  pub task : Task
  pub type_is : kind m ≡ Asks task
  pub body_right : body_ok task m ≡ true
  pub asks : asks_store task ≡ true

-- a reply has RESPONSE 6 exactly where the message comes to the store test and the store is unsound then: no request has been worked. Where the store is sound,
-- the reply has RESPONSE 0, whatever the requests are: none of them can answer 6
pub record SixIsTheStoreTest : Type 0 where
  pub only : (e : Session) (m s out : List ℕ) (n : ℕ) → (receive e m s out).answer ≡ reply n → slice_index (receive e m s out).output 19 ≡ 11
      → slice_index (receive e m s out).output 20 ≡ 6 → (L : Limits) × AtStoreTest L e m s out × (sound L s ≡ false)
  pub unsound : (L : Limits) (e : Session) (m s out : List ℕ) → AtStoreTest L e m s out → sound L s ≡ false
      → HasResponse 6 0 Open (receive e m s out) × ((receive e m s out).store ≡ s)
  pub is_sound_lem : (L : Limits) (e : Session) (m s out : List ℕ) → AtStoreTest L e m s out → sound L s ≡ true
      → HasResponse 0 (request_number m) Open (receive e m s out)
