-- `squares::received::judge_au3` meets its contract.
use mathlib.Core.Path.{refl, sym, ap, ◌∙◌}
use Rattle.units.specs.Units.{Fault, di_unit}
use Rattle.table.specs.declared.Kind.TheVariants.{Au3}
use Rattle.table.specs.declared.State.TheVariants.{IDLE, WFAU3, WFRESP}
use Rattle.table.specs.declared.ToTransport.TheVariants.{Quiet, TDiscReqDi}
use Rattle.table.specs.declared.Timer.TheVariants.{Keep}
use Rattle.table.specs.Table.{pre, no, SaConnInd, a19, to, square_of, square, row_in, table}
use Rattle.table.specs.Steps.{good, because, unless, judged_unit, carried}
use Rattle.table.proofs.UnitLaws.{unit-quiet, unit-sent}
use Rattle.squares.proofs.received.judge_au3.Goals as goal

pub returns-in-Ok : goal.returns-in-Ok
unfolding judged_unit carried square row_in table
returns-in-Ok c =
    unit-quiet Au3 WFAU3 good (square_of SaConnInd Quiet Keep (to WFRESP)) _ _ _ c.requires.1 c.requires.0
    (ap (λ (f : Fault). unless 3 f) (sym c.au3_fault.ensures ∙ c.in-Ok.is)) refl refl refl c.acting.ensures.0 (c.acting.ensures.1 ∙ c.entering.ensures)

pub returns-in-Err : goal.returns-in-Err
unfolding judged_unit carried square row_in table di_unit
returns-in-Err c =
    unit-sent Au3 WFAU3 (because (pre 3) c.in-Err.why) (square_of no TDiscReqDi a19 (to IDLE)) _ _ _ c.requires.1 c.requires.0
    (ap (λ (f : Fault). unless 3 f) (sym c.au3_fault.ensures ∙ c.in-Err.is)) refl refl c.ended_by_di.ensures.0 c.ended_by_di.ensures.1 c.ended_by_di.ensures.2
