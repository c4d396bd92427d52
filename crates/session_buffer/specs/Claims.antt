-- What is claimed of the lent session beside the contracts. proofs/Theorems.antt has a proof of each claim.
-- Assumes nothing.
use Rattle.std.specs.Prelude.{◌≡◌, List, ℕ, ◌<◌, ℤ, replicate}
use Rattle.octets.specs.Bytes.{Bytes}
use Rattle.session.specs.declared.Session.{Session}
use Rattle.session.specs.Sessions.{Closed, state_of, closing, begins, refuses, begin}
use Rattle.session.specs.Rules.{refused, receive}
use Rattle.session_buffer.specs.SessionBuffer.{session_bytes, session_of, begun_buffer, session_after, Tells}

-- a session whose fields fit their bytes is read as it was written
pub record ReadAsWritten : Type 0 where
  pub same : (e : Session) → e.state < 256 → e.next < 65536 → e.expected < 65536 → e.own < 4294967296 → e.peer < 4294967296 → e.transaction < 4294967296
      → session_of (session_bytes e) ≡ e

-- 32 zeros are a closed session
pub record ZerosAreClosed : Type 0 where
  pub closed : state_of (session_of (replicate 32 0)).state ≡ Closed

-- a refusal leaves the session buffer, but H5, which writes the closed session
pub record RefusalLeavesBuffer : Type 0 where
  pub as_it_was : (e : Session) (m s out before : List ℕ) (n : ℕ) → (receive e m s out).answer ≡ refused n → (n ≡ 5 → ⊥) → session_after (receive e m s out) before ≡ before
  pub closed : (e : Session) (m s out before : List ℕ) → (receive e m s out).answer ≡ refused 5 → session_after (receive e m s out) before ≡ session_bytes (closing e)

-- calls chain in C: the session that is read from the buffer afterwards is the one that the call behind hands back, whatever it answers.
-- So demand 3 speaks of runs of C calls that lend one session buffer and one store
pub record SessionsChain : Type 0 where
  pub of_message : (b m s out : List ℕ) → Bytes b → Bytes m → session_of (session_after (receive (session_of b) m s out) b) ≡ (receive (session_of b) m s out).session
  -- as the contract of `receive` has it
  pub of_receive : (b m s out : List ℕ) → Bytes b → Bytes m → (told : ℤ) (after store output : List ℕ) → Tells (receive (session_of b) m s out) told b after store output
      → session_of after ≡ (receive (session_of b) m s out).session
  -- a begin's session replaces the one before; a refused begin leaves it
  pub of_begin : (own peer number : ℕ) (out b : List ℕ) → own < 4294967296 → peer < 4294967296 → (e : Session) (n : ℕ) → begin own peer number out ≡ begins e n
      → session_of (begun_buffer (begin own peer number out) b) ≡ e
  pub of_refused_begin : (own peer number : ℕ) (out b : List ℕ) (n : ℕ) → begin own peer number out ≡ refuses n
      → session_of (begun_buffer (begin own peer number out) b) ≡ session_of b
