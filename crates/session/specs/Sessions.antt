-- Sessions (document 01, "Sessions"): the state codes, the numbers that rise, and how a session begins.
-- Assumes nothing.
use Rattle.std.specs.Prelude.{◌≡◌, ℕ, ◌+◌, ◌%◌, Bool, true, false, cond, not, List, length, ◌==◌, nat_le, Result, Ok, Err}
use Rattle.octets.specs.Bytes.{splice}
use Rattle.refusal.specs.declared.Refusal.{Refusal}
use Rattle.refusal.specs.House.{house_number}
use Rattle.message.specs.Written.{init_bytes}
use Rattle.session.specs.declared.Session.{Session}

-- ---- state codes: 0 closed, 1 waiting, 2 open; a session with any other code is a closed one

pub data State : Type 0 where
  Closed Waiting Open : State

abbrev pub state_of : ℕ → State
state_of n = cond (n == 1) Waiting (cond (n == 2) Open Closed)

abbrev pub code_of : State → ℕ
code_of Closed = 0
code_of Waiting = 1
code_of Open = 2

-- ---- sequence numbers are two bytes, and zero follows 65,535

abbrev pub up : ℕ → ℕ
up n = (n + 1) % 65536

-- ---- what becomes of a session

-- closed, with the numbers as they were
abbrev pub closing : Session → Session
closing e =
    record { state = code_of Closed; own = e.own; peer = e.peer; next = e.next; expected = e.expected; remembered = e.remembered; transaction = e.transaction }

-- opened by a session init with the number n; no transaction number is remembered, so the first message has none to differ from
abbrev pub opening : Session → ℕ → Session
opening e n = record { state = code_of Open; own = e.own; peer = e.peer; next = e.next; expected = up n; remembered = false; transaction = 0 }

-- with the transaction number n remembered (document 02, change request 3)
abbrev pub remembering : Session → ℕ → Session
remembering e n = record { state = e.state; own = e.own; peer = e.peer; next = e.next; expected = e.expected; remembered = true; transaction = n }

-- the expected number rises where the session stays open
abbrev pub expected_then : State → ℕ → ℕ
expected_then Closed n = n
expected_then Waiting n = n
expected_then Open n = up n

-- after a reply
abbrev pub replied : Session → State → Session
replied e then =
    record {
      state = code_of then;
      own = e.own;
      peer = e.peer;
      next = up e.next;
      expected = expected_then then e.expected;
      remembered = e.remembered;
      transaction = e.transaction;
    }

-- ---- begin: H2, H6

-- a session and the length written, or the refusal
pub data Beginning : Type 0 where
  begins : Session → ℕ → Beginning
  refuses : ℕ → Beginning

abbrev pub or_refuse : Bool → ℕ → Beginning → Beginning
or_refuse test n b = cond test b (refuses n)

unfoldable pub begin : ℕ → ℕ → ℕ → List ℕ → Beginning
begin own peer start out =
    or_refuse (nat_le 1032 (length out)) 2
    (or_refuse (not (own == peer)) 6
    (begins (record { state = code_of Waiting; own = own; peer = peer; next = up start; expected = 0; remembered = false; transaction = 0 }) 23))

-- what the output buffer holds afterwards
abbrev pub begin_output : Beginning → ℕ → ℕ → ℕ → List ℕ → List ℕ
begin_output (begins e n) own peer start out = splice out 0 (init_bytes own peer start)
begin_output (refuses n) own peer start out = out

-- the answer in the paper's numbers
abbrev pub begun_as : Result (Session × ℕ) Refusal → Beginning
begun_as (Ok (e, n)) = begins e n
begun_as (Err h) = refuses (house_number h)

pub record Begins (own peer start : ℕ) (out after : List ℕ) (r : Result (Session × ℕ) Refusal) : Type 0 where
  pub answer : begun_as r ≡ begin own peer start out
  pub written : after ≡ begin_output (begin own peer start out) own peer start out
