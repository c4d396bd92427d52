-- What is claimed of messages' bodies beside the contracts. proofs/ReadableLaws.antt has the proof.
-- Assumes nothing.
use Rattle.std.specs.Prelude.{◌≡◌, true, List, ℕ}
use Rattle.octets.specs.Bytes.{Bytes}
use Rattle.store.specs.WellFormed.{AllReadable}
use Rattle.message.specs.declared.Command.{Command}
use Rattle.message.specs.declared.Task.TheVariants.{Requests}
use Rattle.message.specs.Body.{body_ok, requests}

-- change request 9: the requests of a message that passes the body test have fields that fit their widths, which is all that RequestsKeepSound of `store` asks of them
pub record RequestsReadable : Type 0 where
  pub readable : (k : Command) (m : List ℕ) → Bytes m → body_ok (Requests k) m ≡ true → AllReadable (requests k m)
