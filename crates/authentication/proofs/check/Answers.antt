-- `authentication::check` meets its contract.
use mathlib.Core.Path.{sym, ◌∙◌}
use Rattle.authentication.proofs.AnswerLaws.{length_wrong}
use Rattle.authentication.proofs.check.Goals as goal

pub returns-then-not-between : goal.returns-then-not-between
returns-then-not-between c =
    let a = c.args in
    length_wrong a.unit.now a.key.now a.destination a.direction c.in_ok-key.ensures.ok.1 (sym c.between.ensures ∙ c.if-not-between.true)
