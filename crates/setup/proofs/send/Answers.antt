-- `setup::send` meets its contract.
use mathlib.Core.Path.{refl, sym, ap, ◌∙◌}
use Prim.Native.Nat.{ℕ}
use Rattle.authentication.proofs.UnitLaws.{length-unit}
use Rattle.units.specs.Units.{etcs_id}
use Rattle.table.specs.declared.State.TheVariants.{IDLE, WFTC, WFAR, DATA, WFAU3, WFRESP}
use Rattle.std.specs.Prelude.{Ok}
use Rattle.table.specs.declared.ToUser.TheVariants as User
use Rattle.table.specs.declared.ToTransport.TheVariants.{SendDt}
use Rattle.table.specs.declared.Timer.TheVariants.{Keep}
use Rattle.table.specs.Table.{no, to, square_of, square, row_in, table}
use Rattle.table.specs.Steps.{data_request, asked, carried, acts}
use Rattle.table.proofs.StepLaws.{does_short, does-unsendable}
use Rattle.table.proofs.CallLaws.{nothing_in, sent_in}
use Rattle.setup.proofs.send.Goals as goal

pub returns-then-out-lt-OUTPUT_LEAST : goal.returns-then-out-lt-OUTPUT_LEAST
returns-then-out-lt-OUTPUT_LEAST c =
    does_short _ _ _ _ _ c.if-out-lt-OUTPUT_LEAST.true c.refuse.ensures.0 c.refuse.ensures.1

pub returns-then-not-between : goal.returns-then-not-between
returns-then-not-between c =
    does-unsendable _ _ _ _ _ c.if-out-lt-OUTPUT_LEAST.false (sym c.between.ensures ∙ c.if-not-between.true) c.refuse-then-not-between.ensures.0 c.refuse-then-not-between.ensures.1

-- the user data have a length that a unit takes
pub send_dt-requires : goal.send_dt-requires
send_dt-requires c =
    (c.if-out-lt-OUTPUT_LEAST.false, (sym c.between.ensures ∙ c.if-not-between.false))

pub returns-in-IDLE : goal.returns-in-IDLE
unfolding asked square row_in table
returns-in-IDLE c =
    nothing_in _ IDLE c.if-out-lt-OUTPUT_LEAST.false (sym c.between.ensures ∙ c.if-not-between.false) c.from.ensures c.in-IDLE.is refl c.unmoved.ensures.0 c.unmoved.ensures.1

pub returns-in-WFTC : goal.returns-in-WFTC
unfolding asked square row_in table
returns-in-WFTC c =
    nothing_in _ WFTC c.if-out-lt-OUTPUT_LEAST.false (sym c.between.ensures ∙ c.if-not-between.false) c.from.ensures c.in-WFTC.is refl c.unmoved-in-WFTC.ensures.0 c.unmoved-in-WFTC.ensures.1

pub returns-in-WFAR : goal.returns-in-WFAR
unfolding asked square row_in table
returns-in-WFAR c =
    nothing_in _ WFAR c.if-out-lt-OUTPUT_LEAST.false (sym c.between.ensures ∙ c.if-not-between.false) c.from.ensures c.in-WFAR.is refl c.unmoved-in-WFAR.ensures.0 c.unmoved-in-WFAR.ensures.1

pub returns-in-DATA : goal.returns-in-DATA
unfolding asked carried square row_in table
returns-in-DATA c =
    let a = c.args in
    sent_in (data_request a.user.now) DATA (square_of no SendDt Keep (to DATA)) _ _ c.if-out-lt-OUTPUT_LEAST.false (sym c.between.ensures ∙ c.if-not-between.false) c.from.ensures c.in-DATA.is refl refl
    (c.send_dt.ensures.0
    ∙ ap (λ (n : ℕ). Ok (acts User.Nothing SendDt Keep n)) (sym (length-unit a.c.key (etcs_id a.c.peer) a.c.responder a.user.now)))
    c.send_dt.ensures.1 c.send_dt.ensures.2

pub returns-in-WFAU3 : goal.returns-in-WFAU3
unfolding asked square row_in table
returns-in-WFAU3 c =
    nothing_in _ WFAU3 c.if-out-lt-OUTPUT_LEAST.false (sym c.between.ensures ∙ c.if-not-between.false) c.from.ensures c.in-WFAU3.is refl c.unmoved-in-WFAU3.ensures.0 c.unmoved-in-WFAU3.ensures.1

pub returns-in-WFRESP : goal.returns-in-WFRESP
unfolding asked square row_in table
returns-in-WFRESP c =
    nothing_in _ WFRESP c.if-out-lt-OUTPUT_LEAST.false (sym c.between.ensures ∙ c.if-not-between.false) c.from.ensures c.in-WFRESP.is refl c.unmoved-in-WFRESP.ensures.0 c.unmoved-in-WFRESP.ensures.1
