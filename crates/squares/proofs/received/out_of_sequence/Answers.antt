-- `squares::received::out_of_sequence` meets its contract.
use mathlib.Core.Path.{refl, ap, ◌∙◌}
use mathlib.Core.Logic.{inl, inr}
use Rattle.octets.specs.Bytes.{splice}
use Rattle.units.specs.declared.Code.{Code}
use Rattle.units.specs.Units.{di_unit}
use Rattle.table.specs.declared.State.TheVariants.{IDLE, WFTC, WFAR, DATA, WFAU3, WFRESP}
use Rattle.std.specs.Prelude.{Ok}
use Rattle.table.specs.declared.ToUser.TheVariants as User
use Rattle.table.specs.declared.ToTransport.TheVariants.{TDiscReq, TDiscReqDi}
use Rattle.table.specs.Table.{a19}
use Rattle.table.specs.Steps.{acts, carried}
use Rattle.table.proofs.UnitLaws.{error_quiet, error_sent}
use Rattle.squares.proofs.received.out_of_sequence.Goals as goal

pub returns-in-IDLE : goal.returns-in-IDLE
unfolding carried
returns-in-IDLE c =
    error_quiet c.args.kind IDLE c.args.c c.args.out.now c.from.ensures c.in-IDLE.is refl c.unmoved.ensures.0 c.unmoved.ensures.1

pub returns-in-WFTC : goal.returns-in-WFTC
unfolding carried
returns-in-WFTC c =
    error_quiet c.args.kind WFTC c.args.c c.args.out.now c.from.ensures c.in-WFTC.is refl
    (c.ended.ensures.0 ∙ ap (λ (x : Code). Ok (acts (User.DisconnectIndication x) TDiscReq a19 0)) c.not_due.ensures) c.ended.ensures.1

pub returns-in-WFAR : goal.returns-in-WFAR
unfolding carried di_unit
returns-in-WFAR c =
    error_sent c.args.kind WFAR c.args.c c.args.out.now c.from.ensures c.in-WFAR.is
    (c.broken.ensures.0 ∙ ap (λ (x : Code). Ok (acts (User.DisconnectIndication x) TDiscReqDi a19 3)) c.not_due-in-WFAR.ensures)
    c.broken.ensures.1
    (c.broken.ensures.2 ∙ ap (λ (x : Code). splice c.args.out.now 0 (di_unit c.args.c.responder x.reason x.sub)) c.not_due-in-WFAR.ensures)

pub returns-in-WFAU3 : goal.returns-in-WFAU3
unfolding carried di_unit
returns-in-WFAU3 c =
    error_sent c.args.kind WFAU3 c.args.c c.args.out.now c.from.ensures c.in-WFAU3.is c.ended_by_di.ensures.0 c.ended_by_di.ensures.1
    (c.ended_by_di.ensures.2 ∙ ap (λ (x : Code). splice c.args.out.now 0 (di_unit c.args.c.responder x.reason x.sub)) c.not_due-in-WFAU3.ensures)

pub returns-in-DATA : goal.returns-in-DATA
unfolding carried di_unit
returns-in-DATA c =
    let told = c.broken-in-DATA.ensures.0 ∙ ap (λ (x : Code). Ok (acts (User.DisconnectIndication x) TDiscReqDi a19 3)) c.replayed.ensures in
    let sent = c.broken-in-DATA.ensures.2 ∙ ap (λ (x : Code). splice c.args.out.now 0 (di_unit c.args.c.responder x.reason x.sub)) c.replayed.ensures in
    elim c.in-DATA.is [
      | inl e ↦ error_sent c.args.kind DATA c.args.c c.args.out.now c.from.ensures e told c.broken-in-DATA.ensures.1 sent
      | inr e ↦ error_sent c.args.kind WFRESP c.args.c c.args.out.now c.from.ensures e told c.broken-in-DATA.ensures.1 sent
    ]
