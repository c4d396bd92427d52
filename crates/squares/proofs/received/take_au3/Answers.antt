-- `squares::received::take_au3` meets its contract.
use native.Mathlib.Omega.{arith}
use Rattle.table.specs.declared.State.TheVariants.{WFAU3}
use Rattle.table.proofs.StepLaws.{does-along}
use Rattle.table.proofs.UnitLaws.{not_in, au3-unawaited}
use Rattle.squares.proofs.received.take_au3.Goals as goal

pub returns-else-c-eq-WFAU3 : goal.returns-else-c-eq-WFAU3
returns-else-c-eq-WFAU3 c =
    does-along (au3-unawaited _ c.args.unit.now c.args.out.now c.requires (not_in WFAU3 _ (omega arith) c.if-c-eq-WFAU3.false)) c.out_of_sequence.ensures
