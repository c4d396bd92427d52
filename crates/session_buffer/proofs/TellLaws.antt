-- What C is told of a session's calls.
-- Assumes nothing.
use mathlib.Core.Path.{◌≡◌, sym, ◌∙◌}
use mathlib.Core.List.{List}
use Prim.Native.Nat.{ℕ, ◌<◌, ◌^◌}
use native.Mathlib.Omega.{arith}
use Rattle.std.specs.Prelude.{Result}
use Rattle.refusal.specs.declared.Refusal.{Refusal}
use Rattle.session.specs.declared.Session.{Session}
use Rattle.session.specs.declared.Received.{Received}
use Rattle.session.specs.Sessions.{begins, begin}
use Rattle.session.specs.Rules.{receive, received_as, Does}
use Rattle.session.proofs.SessionLaws.{begin-made}
use Rattle.session.proofs.Theorems.{reply-length}
use Rattle.session_buffer.specs.SessionBuffer.{Short}

-- ---- lengths are small numbers

pub init-small : (own peer number : ℕ) (out : List ℕ) (e : Session) (n : ℕ) → begin own peer number out ≡ begins e n → n < 2 ^ 31
init-small own peer number out e n q = omega (arith, (begin-made own peer number out e n q).1)

-- ---- a message

module _ (e : Session) (m s out : List ℕ) {after : Session} {store output : List ℕ} {answer : Result Received Refusal} (d : Does (receive e m s out) answer after store output) where
  pub answer-short : Short (received_as answer)
  answer-short = record { by = λ n q. omega (arith, reply-length.to e m s out n (sym d.answer_is ∙ q)) }
