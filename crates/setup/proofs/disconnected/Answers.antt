-- `setup::disconnected` meets its contract.
use mathlib.Core.Path.{refl}
use Rattle.table.specs.declared.State.TheVariants.{IDLE, WFTC, WFAR, DATA, WFAU3, WFRESP}
use Rattle.table.specs.declared.ToTransport.TheVariants.{Quiet}
use Rattle.table.specs.Table.{no, SaDiscInd, a19, to, square_of, square, row_in, table}
use Rattle.table.specs.Steps.{disconnect_indication, asked, carried}
use Rattle.table.proofs.StepLaws.{does_short}
use Rattle.table.proofs.CallLaws.{nothing_in, quiet_in}
use Rattle.setup.proofs.disconnected.Goals as goal

pub returns-then-out-lt-OUTPUT_LEAST : goal.returns-then-out-lt-OUTPUT_LEAST
returns-then-out-lt-OUTPUT_LEAST c = does_short _ _ _ _ _ c.if-out-lt-OUTPUT_LEAST.true c.refuse.ensures.0 c.refuse.ensures.1

pub returns-in-IDLE : goal.returns-in-IDLE
unfolding asked square row_in table
returns-in-IDLE c =
    nothing_in (disconnect_indication c.args.reason c.args.unit.now) IDLE c.if-out-lt-OUTPUT_LEAST.false refl c.from.ensures c.in-IDLE.is refl c.unmoved.ensures.0 c.unmoved.ensures.1

pub returns-in-WFTC : goal.returns-in-WFTC
unfolding asked carried square row_in table
returns-in-WFTC c =
    quiet_in (disconnect_indication c.args.reason c.args.unit.now) WFTC (square_of SaDiscInd Quiet a19 (to IDLE)) _ _ c.if-out-lt-OUTPUT_LEAST.false refl c.from.ensures c.in-WFTC.is refl refl refl
    c.lost.ensures.0 c.lost.ensures.1

pub returns-in-WFAR : goal.returns-in-WFAR
unfolding asked carried square row_in table
returns-in-WFAR c =
    quiet_in (disconnect_indication c.args.reason c.args.unit.now) WFAR (square_of SaDiscInd Quiet a19 (to IDLE)) _ _ c.if-out-lt-OUTPUT_LEAST.false refl c.from.ensures c.in-WFAR.is refl refl refl
    c.lost-in-WFAR.ensures.0 c.lost-in-WFAR.ensures.1

pub returns-in-DATA : goal.returns-in-DATA
unfolding asked carried square row_in table
returns-in-DATA c =
    quiet_in (disconnect_indication c.args.reason c.args.unit.now) DATA (square_of SaDiscInd Quiet a19 (to IDLE)) _ _ c.if-out-lt-OUTPUT_LEAST.false refl c.from.ensures c.in-DATA.is refl refl refl
    c.lost-in-DATA.ensures.0 c.lost-in-DATA.ensures.1

pub returns-in-WFAU3 : goal.returns-in-WFAU3
unfolding asked carried square row_in table
returns-in-WFAU3 c =
    quiet_in (disconnect_indication c.args.reason c.args.unit.now) WFAU3 (square_of no Quiet a19 (to IDLE)) _ _ c.if-out-lt-OUTPUT_LEAST.false refl c.from.ensures c.in-WFAU3.is refl refl refl
    c.ended.ensures.0 c.ended.ensures.1

pub returns-in-WFRESP : goal.returns-in-WFRESP
unfolding asked carried square row_in table
returns-in-WFRESP c =
    quiet_in (disconnect_indication c.args.reason c.args.unit.now) WFRESP (square_of SaDiscInd Quiet a19 (to IDLE)) _ _ c.if-out-lt-OUTPUT_LEAST.false refl c.from.ensures c.in-WFRESP.is refl refl refl
    c.lost-in-WFRESP.ensures.0 c.lost-in-WFRESP.ensures.1
