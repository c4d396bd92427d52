-- `session::Session::delete_all` meets its contract.
use Rattle.std.proofs.Common.{ℕ, List, [], sym, refl, ap, arith}
use Rattle.octets.proofs.SpliceLaws.{splice-none}
use Rattle.session.specs.Sessions.{Open}
use Rattle.session.specs.Rules.{respond, obey}
use Rattle.session.proofs.OutcomeLaws.{does_as}
use Rattle.session.proofs.Session.delete_all.Goals as goal

pub returns : goal.returns
unfolding obey
returns c =
    let a = c.args in
    does_as (ap (λ (t : List ℕ). respond 0 [] Open a.self a.m.bytes.now t a.out.now) c.write_empty.ensures)
    (c.report.ensures.by c.write_empty.new.s a.out.now [] refl (omega arith) (sym (splice-none a.out.now 23)))
