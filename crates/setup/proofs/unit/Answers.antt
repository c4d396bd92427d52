-- `setup::unit` meets its contract.
use mathlib.Core.Path.{ap}
use Rattle.table.specs.declared.Kind.{Kind}
use Rattle.table.specs.Steps.{unit_indication, step}
use Rattle.table.proofs.StepLaws.{does-along, does_short}
use Rattle.setup.proofs.unit.Goals as goal

pub returns-then-out-lt-OUTPUT_LEAST : goal.returns-then-out-lt-OUTPUT_LEAST
returns-then-out-lt-OUTPUT_LEAST c = does_short _ _ _ _ _ c.if-out-lt-OUTPUT_LEAST.true c.refuse.ensures.0 c.refuse.ensures.1

pub returns-in-Au3 : goal.returns-in-Au3
returns-in-Au3 c =
    does-along (ap (λ (k : Kind). step (unit_indication k c.args.unit.now) c.args.c c.args.out.now) c.in-Au3.is) c.take_au3.ensures

pub returns-in-Ar : goal.returns-in-Ar
returns-in-Ar c =
    does-along (ap (λ (k : Kind). step (unit_indication k c.args.unit.now) c.args.c c.args.out.now) c.in-Ar.is) c.take_ar.ensures

pub returns-in-Dt : goal.returns-in-Dt
returns-in-Dt c =
    does-along (ap (λ (k : Kind). step (unit_indication k c.args.unit.now) c.args.c c.args.out.now) c.in-Dt.is) c.take_dt.ensures
