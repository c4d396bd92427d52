-- Answers with the same numbers are the same answer.
-- Assumes nothing.
use Rattle.std.proofs.Common.{◌≡◌, ℕ, Result, Ok, Err, refl, ap}
use Rattle.refusal.specs.declared.Refusal.{Refusal}
use Rattle.refusal.proofs.Laws.{one_each, named, named_back}
use Rattle.session.specs.declared.Session.{Session}
use Rattle.session.specs.declared.Received.{Received}
use Rattle.session.specs.declared.Received.TheVariants as ReceivedAs
use Rattle.session.specs.Sessions.{Beginning, begins, refuses, begun_as}
use Rattle.session.specs.Rules.{Answered, reply, opened, ended, refused, received_as}
use Rattle.session.specs.Claims.{OneAnswer}

begun : Beginning → Result (Session × ℕ) Refusal
begun (begins e n) = Ok (e, n)
begun (refuses n) = Err (named n)

begun-back : (r : Result (Session × ℕ) Refusal) → begun (begun_as r) ≡ r
unfolding begun
begun-back (Ok (e, n)) = refl
begun-back (Err h) = ap Err (named_back h)

received : Answered → Result Received Refusal
received (reply n) = Ok (ReceivedAs.Reply n)
received opened = Ok ReceivedAs.Opened
received ended = Ok ReceivedAs.Ended
received (refused n) = Err (named n)

received-back : (r : Result Received Refusal) → received (received_as r) ≡ r
unfolding received
received-back (Ok (ReceivedAs.Reply n)) = refl
received-back (Ok ReceivedAs.Opened) = refl
received-back (Ok ReceivedAs.Ended) = refl
received-back (Err h) = ap Err (named_back h)

pub one_answer : OneAnswer
one_answer = record { of_begin = one_each begun_as begun begun-back; of_message = one_each received_as received received-back }
