-- `squares::received::take_dt` meets its contract.
use native.Mathlib.Omega.{arith}
use borrow.Author.Rules.{rules}
use Rattle.table.specs.declared.State.TheVariants.{DATA}
use Rattle.table.proofs.StepLaws.{does-along}
use Rattle.table.proofs.UnitLaws.{not_in, dt-unawaited}
use Rattle.squares.proofs.received.take_dt.Goals as goal

pub returns-else-c-eq-DATA : goal.returns-else-c-eq-DATA
returns-else-c-eq-DATA c =
    does-along (dt-unawaited _ c.args.unit.now c.args.out.now c.requires (not_in DATA c.args.c.state (omega arith) (search rules))) c.out_of_sequence.ensures
