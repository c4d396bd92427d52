-- `session::Session::receive_open` meets its contract.
use Rattle.std.proofs.Common.{false, refl, sym, ap, ◌∙◌}
use Rattle.session.specs.Sessions.{remembering}
use Rattle.session.specs.Rules.{repeats, first_failed, respond, received_as}
use Rattle.session.proofs.TestLaws.{header-holds}
use Rattle.session.proofs.OutcomeLaws.{does_as, open_long, fault_judged, transaction-judged}
use Rattle.session.proofs.Session.receive_open.Goals as goal

pub returns-in-Err : goal.returns-in-Err
unfolding respond
returns-in-Err c =
    let a = c.args in
    let r = c.reply.ensures in
    does_as
    (fault_judged a.lim a.self a.m.bytes.now a.s.now a.out.now c.in-Err.response c.in-Err.ensures ∙ open_long a.lim a.self a.m.bytes.now a.s.now a.out.now a.m.whole)
    (record { answer_is = ap received_as r.answer; session_is = r.session ∙ c.dropped.ensures; store_is = refl; output_is = r.output })

pub returns : goal.returns
unfolding first_failed
returns c =
    let a = c.args in
    let m = a.m.bytes.now in
    let number = c.transaction-number.ensures in
    does_as
    (transaction-judged a.lim a.self m a.s.now a.out.now (header-holds a.self m c.in_default.ensures) c.remembering-session.result
    (c.remembering-session.ensures ∙ ap (remembering a.self) number) false (ap (repeats a.self) (sym number) ∙ sym c.repeats.ensures ∙ c.if-repeats.false)
    ∙ open_long a.lim a.self m a.s.now a.out.now a.m.whole)
    c.receive_typed.ensures
