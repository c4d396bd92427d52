-- `squares::received::judge_ar` meets its contract.
use mathlib.Core.Path.{refl, sym, ap, ◌∙◌}
use Rattle.units.specs.Units.{Fault, di_unit}
use Rattle.table.specs.declared.Kind.TheVariants.{Ar}
use Rattle.table.specs.declared.State.TheVariants.{IDLE, WFAR, DATA}
use Rattle.table.specs.declared.ToTransport.TheVariants.{Quiet, TDiscReqDi}
use Rattle.table.specs.Table.{pre, SaConnConf, SaDiscInd, a6, a19, to, square_of, square, row_in, table}
use Rattle.table.specs.Steps.{good, because, unless, judged_unit, carried}
use Rattle.table.proofs.UnitLaws.{unit-quiet, unit-sent}
use Rattle.squares.proofs.received.judge_ar.Goals as goal

pub returns-in-Ok : goal.returns-in-Ok
unfolding judged_unit carried square row_in table
returns-in-Ok c =
    unit-quiet Ar WFAR good (square_of SaConnConf Quiet a6 (to DATA)) _ _ _ c.requires.1 c.requires.0
    (ap (λ (f : Fault). unless 4 f) (sym c.ar_fault.ensures ∙ c.in-Ok.is)) refl refl refl c.acting.ensures.0 (c.acting.ensures.1 ∙ c.entering.ensures)

pub returns-in-Err : goal.returns-in-Err
unfolding judged_unit carried square row_in table di_unit
returns-in-Err c =
    unit-sent Ar WFAR (because (pre 4) c.in-Err.why) (square_of SaDiscInd TDiscReqDi a19 (to IDLE)) _ _ _ c.requires.1 c.requires.0
    (ap (λ (f : Fault). unless 4 f) (sym c.ar_fault.ensures ∙ c.in-Err.is)) refl refl c.broken.ensures.0 c.broken.ensures.1 c.broken.ensures.2
