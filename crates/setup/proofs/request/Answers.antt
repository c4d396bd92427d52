-- `setup::request` meets its contract.
use mathlib.Core.Path.{refl, sym, ◌∙◌}
use Rattle.table.specs.declared.State.TheVariants.{WFTC, WFAR, DATA, WFAU3, WFRESP}
use Rattle.table.specs.Table.{square, row_in, table}
use Rattle.table.specs.Steps.{asked}
use Rattle.table.proofs.StepLaws.{does_short}
use Rattle.table.proofs.CallLaws.{nothing_in}
use Rattle.setup.proofs.request.Goals as goal

pub returns-then-out-lt-OUTPUT_LEAST : goal.returns-then-out-lt-OUTPUT_LEAST
returns-then-out-lt-OUTPUT_LEAST c = does_short _ _ _ _ _ c.if-out-lt-OUTPUT_LEAST.true c.refuse.ensures.0 c.refuse.ensures.1

pub requested-requires : goal.requested-requires
requested-requires c =
    (sym c.from.ensures ∙ c.in-IDLE.is, c.if-out-lt-OUTPUT_LEAST.false)

pub returns-in-WFTC : goal.returns-in-WFTC
unfolding asked square row_in table
returns-in-WFTC c =
    nothing_in _ WFTC c.if-out-lt-OUTPUT_LEAST.false refl c.from.ensures c.in-WFTC.is refl c.unmoved.ensures.0 c.unmoved.ensures.1

pub returns-in-WFAR : goal.returns-in-WFAR
unfolding asked square row_in table
returns-in-WFAR c =
    nothing_in _ WFAR c.if-out-lt-OUTPUT_LEAST.false refl c.from.ensures c.in-WFAR.is refl c.unmoved-in-WFAR.ensures.0 c.unmoved-in-WFAR.ensures.1

pub returns-in-DATA : goal.returns-in-DATA
unfolding asked square row_in table
returns-in-DATA c =
    nothing_in _ DATA c.if-out-lt-OUTPUT_LEAST.false refl c.from.ensures c.in-DATA.is refl c.unmoved-in-DATA.ensures.0 c.unmoved-in-DATA.ensures.1

pub returns-in-WFAU3 : goal.returns-in-WFAU3
unfolding asked square row_in table
returns-in-WFAU3 c =
    nothing_in _ WFAU3 c.if-out-lt-OUTPUT_LEAST.false refl c.from.ensures c.in-WFAU3.is refl c.unmoved-in-WFAU3.ensures.0 c.unmoved-in-WFAU3.ensures.1

pub returns-in-WFRESP : goal.returns-in-WFRESP
unfolding asked square row_in table
returns-in-WFRESP c =
    nothing_in _ WFRESP c.if-out-lt-OUTPUT_LEAST.false refl c.from.ensures c.in-WFRESP.is refl c.unmoved-in-WFRESP.ensures.0 c.unmoved-in-WFRESP.ensures.1
