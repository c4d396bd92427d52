-- The session that a message leaves: the one before, with the message's number remembered or not; and that closed, opened, or after a reply.
-- Assumes nothing.
use Rattle.std.proofs.Common.{ℕ, Bool, true, false, cond, List}
use Rattle.store.specs.declared.Limits.{Limits}
use Rattle.message.specs.declared.Task.{Task}
use Rattle.message.specs.declared.Task.TheVariants.{Requests, DeleteAll, EndOfUpdate}
use Rattle.message.specs.Header.{transaction, sequence}
use Rattle.session.specs.declared.Session.{Session}
use Rattle.session.specs.Sessions.{State, Open, closing, opening, remembering, replied}
use Rattle.session.specs.Rules.{refuse, respond, header_tests, all_pass, heard, obey, receive}
use Rattle.session.proofs.RuleLaws.{receive-ends}

-- what holds of each holds of it
module _ (P : Session → Type 0) (e : Session) (m s out : List ℕ)
    (at-refusal : P e)
    (at-remembering : P (remembering e (transaction m)))
    (at-closed : (d : Session) → P d → P (closing d))
    (at-opened : (n : ℕ) → P (opening e n))
    (at-replied : (d : Session) (then : State) → P d → P (replied d then)) where
  at-heard : P (heard e m)
  unfolding heard
  at-heard = go (all_pass (header_tests e m))
    where
      go : (b : Bool) → P (cond b (remembering e (transaction m)) e)
      go true = at-remembering
      go false = at-refusal

  pub session-ends : P (receive e m s out).session
  unfolding refuse respond obey
  session-ends =
      receive-ends (λ o. P o.session) e m s out (λ n h. at-refusal) (at-closed e at-refusal) (at-opened (sequence m))
      (λ L t response then h. at-replied (heard e m) then at-heard) (λ L t task h. obeyed L task)
    where
      obeyed : (L : Limits) (task : Task) → P (obey L task (heard e m) m s out).session
      obeyed L (Requests k) = at-replied (heard e m) Open at-heard
      obeyed L DeleteAll = at-replied (heard e m) Open at-heard
      obeyed L EndOfUpdate = at-closed (heard e m) at-heard
