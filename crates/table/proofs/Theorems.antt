-- The claims of specs/Claims.antt, in their order; those with longer proofs are passed on from where these stand.
-- Assumes nothing.
use Rattle.std.specs.Prelude.{Result, Ok, Err}
use mathlib.Core.Path.{◌≡◌, refl, ap}
use mathlib.Core.Bool.{Bool, true, false}
use mathlib.Core.List.{List}
use Prim.Native.Nat.{ℕ}
use Rattle.refusal.specs.declared.Refusal.{Refusal}
use Rattle.refusal.proofs.Laws.{one_each, named, named_back}
use Rattle.authentication.specs.Unit.{message, unit_of}
use Rattle.units.specs.Units.{au3_unit, ar_unit}
use Rattle.table.specs.declared.Kind.TheVariants.{Dt}
use Rattle.table.specs.declared.Actions.{Actions}
use Rattle.table.specs.Steps.{kind_of, Answered, done, refused, stepped_as}
use Rattle.table.specs.Claims.{KindOf, TableFollowed, OneAnswer}
use Rattle.table.proofs.EndLaws.{step_follows}
use Rattle.table.proofs.PickLaws.{picked}
pub use Rattle.table.proofs.JudgeLaws.{predicates_judge}
pub use Rattle.table.proofs.TableLaws.{rows-found}
pub use Rattle.table.proofs.SquareLaws.{counted_as, blanks-followed, expiry_closes_nothing}
pub use Rattle.table.proofs.DataLaws.{data_only_checked}
pub use Rattle.table.proofs.RefusalLaws.{refused-first, search-refuses, refusal_leaves}
pub use Rattle.table.proofs.KeyLaws.{only_macs_show_keys}

-- ---- the kind of a unit

data_kind : (key destination : List ℕ) (direction : Bool) (sent : List ℕ) → kind_of (unit_of key destination direction sent) ≡ Dt
unfolding unit_of message
data_kind key destination true sent = refl
data_kind key destination false sent = refl

pub kind_of_lem : KindOf
unfolding au3_unit ar_unit
kind_of_lem = record { au3 = λ key responder ra rb. refl; ar = λ key caller. refl; dt = data_kind }

-- ---- the table

pub table-followed : TableFollowed
table-followed = record { followed = step_follows; picked = picked }

-- ---- one answer

meant : Answered → Result Actions Refusal
meant (done a) = Ok a
meant (refused n) = Err (named n)

meant-back : (r : Result Actions Refusal) → meant (stepped_as r) ≡ r
unfolding meant
meant-back (Ok a) = refl
meant-back (Err h) = ap Err (named_back h)

pub one_answer : OneAnswer
one_answer = record { of_step = one_each stepped_as meant meant-back }
