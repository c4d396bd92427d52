-- Which of the header tests is the first that fails.
-- Assumes nothing.
use Rattle.std.proofs.Common.{◌≡◌, ℕ, true, false, List, Ok, Err, eq-eqb, ne_eqb}
use Rattle.message.specs.Header.{version, receiver, sender, sequence}
use Rattle.session.specs.declared.Session.{Session}
use Rattle.session.specs.declared.response.Response.TheVariants.{LengthError, VersionMismatch, ReceiverMismatch, SenderMismatch, SequenceMismatch}
use Rattle.session.specs.Rules.{length_ok, first_failed}
use Rattle.session.specs.Parts.{Faults}

module _ (e : Session) (m : List ℕ) where
  pub fault_length : length_ok m ≡ false → Faults e m (Err LengthError)
  unfolding first_failed
  fault_length a = record { by = λ v. simp a }

  pub fault_version : length_ok m ≡ true → (version m ≡ 2 → ⊥) → Faults e m (Err VersionMismatch)
  unfolding first_failed
  fault_version a b = record { by = λ v. simp (a, ne_eqb (version m) 2 b) }

  pub fault_receiver : length_ok m ≡ true → version m ≡ 2 → (receiver m ≡ e.own → ⊥) → Faults e m (Err ReceiverMismatch)
  unfolding first_failed
  fault_receiver a b c = record { by = λ v. simp (a, eq-eqb (version m) 2 b, ne_eqb (receiver m) e.own c) }

  pub fault_sender : length_ok m ≡ true → version m ≡ 2 → receiver m ≡ e.own → (sender m ≡ e.peer → ⊥) → Faults e m (Err SenderMismatch)
  unfolding first_failed
  fault_sender a b c d = record { by = λ v. simp (a, eq-eqb (version m) 2 b, eq-eqb (receiver m) e.own c, ne_eqb (sender m) e.peer d) }

  pub fault_sequence : length_ok m ≡ true → version m ≡ 2 → receiver m ≡ e.own → sender m ≡ e.peer → (sequence m ≡ e.expected → ⊥) → Faults e m (Err SequenceMismatch)
  unfolding first_failed
  fault_sequence a b c d f =
      record { by = λ v. simp (a, eq-eqb (version m) 2 b, eq-eqb (receiver m) e.own c, eq-eqb (sender m) e.peer d, ne_eqb (sequence m) e.expected f) }

  pub fault_none : length_ok m ≡ true → version m ≡ 2 → receiver m ≡ e.own → sender m ≡ e.peer → sequence m ≡ e.expected → Faults e m (Ok tt)
  unfolding first_failed
  fault_none a b c d f =
      record { by = λ v. simp (a, eq-eqb (version m) 2 b, eq-eqb (receiver m) e.own c, eq-eqb (sender m) e.peer d, eq-eqb (sequence m) e.expected f) }
