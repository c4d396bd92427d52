-- `session::Session::work` meets its contract.
use Rattle.std.proofs.Common.{ℕ, ap, ◌∙◌, arith}
use Rattle.message.specs.Body.{fields_from}
use Rattle.message.proofs.BodyLaws.{listed}
use Rattle.session.proofs.OutcomeLaws.{worked}
use Rattle.session.proofs.Session.work.Goals as goal

pub get16_at-n-requires : goal.get16_at-n-requires
get16_at-n-requires c = omega (arith, (listed c.args.command c.args.m.bytes.now c.requires.body).within)

pub work-requires-clause-n_value : goal.work-requires-clause-n_value
work-requires-clause-n_value c =
    let a = c.args in
    ap (λ (x : ℕ). fields_from a.command a.m.bytes.now 22 x) c.get16_at-n.ensures ∙ (listed a.command a.m.bytes.now c.requires.body).fields

pub work-requires-clause-n_in_bounds : goal.work-requires-clause-n_in_bounds
work-requires-clause-n_in_bounds c = omega (arith, c.get16_at-n.ensures, (listed c.args.command c.args.m.bytes.now c.requires.body).few)

pub returns : goal.returns
returns c =
    let a = c.args in
    worked a.lim a.command a.self a.m.bytes.now a.s.now a.out.now _ _ c.work.new.s c.work.new.out _ c.get16_at-n.result c.get16_at-n.ensures
    (omega (arith, c.get16_at-n.ensures, (listed a.command a.m.bytes.now c.requires.body).few)) c.work.ensures c.report.ensures
