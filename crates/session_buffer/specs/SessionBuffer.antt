-- The session as C keeps it: 32 bytes, all zero in a closed session that has never begun.
-- Assumes nothing.
use Rattle.std.specs.Prelude.{◌≡◌, Bool, true, false, cond, List, ◌∷◌, ◌++◌, ℕ, ◌<◌, ◌^◌, eqb, ℤ, get_or, replicate}
use Rattle.octets.specs.Bytes.{get16, get32, be16, be32, nonzero}
use Rattle.refusal.specs.House.{Answer, house, gives}
use Rattle.refusal.specs.Code.{code}
use Rattle.session.specs.declared.Session.{Session}
use Rattle.session.specs.Sessions.{Beginning, begins, refuses}
use Rattle.session.specs.Rules.{Answered, reply, opened, ended, refused, Outcome}

-- whether a transaction number is remembered
abbrev pub flag : Bool → ℕ
flag true = 1
flag false = 0

-- the state, byte 1, the own next number, the number expected next, own identity, peer identity, the transaction number, zeros
abbrev pub bytes_with : ℕ → Session → List ℕ
bytes_with byte1 e = e.state ∷ byte1 ∷ be16 e.next ++ (be16 e.expected ++ (be32 e.own ++ (be32 e.peer ++ (be32 e.transaction ++ replicate 14 0))))

-- byte 1 is the flag
abbrev pub session_bytes : Session → List ℕ
session_bytes e = bytes_with (flag e.remembered) e

-- any flag but 0 is 1
abbrev pub session_of : List ℕ → Session
session_of b =
    record {
      state = get_or b 0 0;
      own = get32 b 6;
      peer = get32 b 10;
      next = get16 b 2;
      expected = get16 b 4;
      remembered = nonzero (get_or b 1 0);
      transaction = get32 b 14;
    }

-- ---- begin

-- C is told the length written
abbrev pub begun_length : Beginning → Answer
begun_length (begins e n) = gives n
begun_length (refuses n) = house n

-- a refusal leaves the buffer
abbrev pub begun_buffer : Beginning → List ℕ → List ℕ
begun_buffer (begins e n) old = session_bytes e
begun_buffer (refuses n) old = old

-- ---- receive

-- C is told the length of the reply, and 0 where there is none
abbrev pub reply_length : Answered → Answer
reply_length (reply n) = gives n
reply_length opened = gives 0
reply_length ended = gives 0
reply_length (refused n) = house n

-- a refusal leaves the buffer, but H5, which closes the session
abbrev pub writes_session : Answered → Bool
writes_session (reply n) = true
writes_session opened = true
writes_session ended = true
writes_session (refused n) = eqb n 5

-- the buffer after an outcome
abbrev pub session_after : Outcome → List ℕ → List ℕ
session_after o before = cond (writes_session o.answer) (session_bytes o.session) before

-- a length that C can be told: 31 bits
pub record Short (a : Answered) : Type 0 where
  pub by : (n : ℕ) → a ≡ reply n → n < 2 ^ 31

-- what C is told of an outcome, and every byte that it lent
pub record Tells (o : Outcome) (told : ℤ) (before after store output : List ℕ) : Type 0 where
  pub answer_is : told ≡ code (reply_length o.answer)
  pub session_is : after ≡ session_after o before
  pub store_is : store ≡ o.store
  pub output_is : output ≡ o.output
