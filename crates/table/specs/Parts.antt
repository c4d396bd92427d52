-- What `table::search` and the received units of `squares` promise.
-- Assumes nothing.
use Rattle.std.specs.Prelude.{Result, List, ℕ}
use Rattle.refusal.specs.declared.Refusal.{Refusal}
use Rattle.refusal.specs.House.{Answer, answer_as}
use Rattle.table.specs.declared.Connection.{Connection}
use Rattle.table.specs.declared.Kind.{Kind}
use Rattle.table.specs.declared.State.{State}
use Rattle.table.specs.Table.{ok, protocol_error}
use Rattle.table.specs.Steps.{Outcome, because, out_of_sequence, plain, kind_event, perform}

-- the answer of the search in the paper's numbers
abbrev pub searched_as : Result ℕ Refusal → Answer
searched_as r = answer_as (λ place. place) r

-- a unit of this kind in a state that does not wait for it: the treatment of protocol errors
abbrev pub unawaited : Kind → State → Connection → List ℕ → Outcome
unawaited k s c out = perform (protocol_error s) (plain (kind_event k) (because ok (out_of_sequence s k)) c) c out
