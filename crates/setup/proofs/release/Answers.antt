-- `setup::release` meets its contract.
use mathlib.Core.Path.{refl}
use Rattle.units.specs.Units.{di_unit}
use Rattle.table.specs.declared.State.TheVariants.{IDLE, WFTC, WFAR, DATA, WFAU3, WFRESP}
use Rattle.table.specs.declared.ToTransport.TheVariants.{TDiscReq, TDiscReqDi}
use Rattle.table.specs.Table.{no, a19, to, square_of, square, row_in, table}
use Rattle.table.specs.Steps.{disconnect_request, asked, carried}
use Rattle.table.proofs.StepLaws.{does_short}
use Rattle.table.proofs.CallLaws.{nothing_in, quiet_in, sent_in}
use Rattle.setup.proofs.release.Goals as goal

pub returns-then-out-lt-OUTPUT_LEAST : goal.returns-then-out-lt-OUTPUT_LEAST
returns-then-out-lt-OUTPUT_LEAST c = does_short _ _ _ _ _ c.if-out-lt-OUTPUT_LEAST.true c.refuse.ensures.0 c.refuse.ensures.1

pub returns-in-IDLE : goal.returns-in-IDLE
unfolding asked square row_in table
returns-in-IDLE c =
    nothing_in (disconnect_request c.args.reason c.args.sub) IDLE c.if-out-lt-OUTPUT_LEAST.false refl c.from.ensures c.in-IDLE.is refl c.unmoved.ensures.0 c.unmoved.ensures.1

pub returns-in-WFTC : goal.returns-in-WFTC
unfolding asked carried square row_in table
returns-in-WFTC c =
    quiet_in (disconnect_request c.args.reason c.args.sub) WFTC (square_of no TDiscReq a19 (to IDLE)) _ _ c.if-out-lt-OUTPUT_LEAST.false refl c.from.ensures c.in-WFTC.is refl refl refl
    c.ended.ensures.0 c.ended.ensures.1

pub returns-in-WFAR : goal.returns-in-WFAR
unfolding asked carried square row_in table di_unit
returns-in-WFAR c =
    sent_in (disconnect_request c.args.reason c.args.sub) WFAR (square_of no TDiscReqDi a19 (to IDLE)) _ _ c.if-out-lt-OUTPUT_LEAST.false refl c.from.ensures c.in-WFAR.is refl refl
    c.ended_by_di.ensures.0 c.ended_by_di.ensures.1 c.ended_by_di.ensures.2

pub returns-in-DATA : goal.returns-in-DATA
unfolding asked carried square row_in table di_unit
returns-in-DATA c =
    sent_in (disconnect_request c.args.reason c.args.sub) DATA (square_of no TDiscReqDi a19 (to IDLE)) _ _ c.if-out-lt-OUTPUT_LEAST.false refl c.from.ensures c.in-DATA.is refl refl
    c.ended_by_di-in-DATA.ensures.0 c.ended_by_di-in-DATA.ensures.1 c.ended_by_di-in-DATA.ensures.2

pub returns-in-WFAU3 : goal.returns-in-WFAU3
unfolding asked square row_in table
returns-in-WFAU3 c =
    nothing_in (disconnect_request c.args.reason c.args.sub) WFAU3 c.if-out-lt-OUTPUT_LEAST.false refl c.from.ensures c.in-WFAU3.is refl c.unmoved-in-WFAU3.ensures.0 c.unmoved-in-WFAU3.ensures.1

pub returns-in-WFRESP : goal.returns-in-WFRESP
unfolding asked carried square row_in table di_unit
returns-in-WFRESP c =
    sent_in (disconnect_request c.args.reason c.args.sub) WFRESP (square_of no TDiscReqDi a19 (to IDLE)) _ _ c.if-out-lt-OUTPUT_LEAST.false refl c.from.ensures c.in-WFRESP.is refl refl
    c.ended_by_di-in-WFRESP.ensures.0 c.ended_by_di-in-WFRESP.ensures.1 c.ended_by_di-in-WFRESP.ensures.2
