-- `squares::received::take_ar` meets its contract.
use native.Mathlib.Omega.{arith}
use Rattle.table.specs.declared.State.TheVariants.{WFAR}
use Rattle.table.proofs.StepLaws.{does-along}
use Rattle.table.proofs.UnitLaws.{not_in, ar-unawaited}
use Rattle.squares.proofs.received.take_ar.Goals as goal

pub returns-else-c-eq-WFAR : goal.returns-else-c-eq-WFAR
returns-else-c-eq-WFAR c =
    does-along (ar-unawaited _ c.args.unit.now c.args.out.now c.requires (not_in WFAR _ (omega arith) c.if-c-eq-WFAR.false)) c.out_of_sequence.ensures
