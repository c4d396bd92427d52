-- `session::Session::report` meets its contract.
use Rattle.std.proofs.Common.{◌∙◌}
use Rattle.session.proofs.OutcomeLaws.{reports}
use Rattle.session.proofs.Session.report.Goals as goal

pub returns : goal.returns
returns c =
    let a = c.args in
    let r = c.reply.ensures in
    reports a.n a.self a.m.bytes.now a.out.now _ _ _ r.answer (r.session ∙ c.kept.ensures) r.output
