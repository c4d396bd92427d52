-- `sheet::input::is_name` meets its contract.
use Rattle.std.proofs.Common.{sym, ◌∙◌}
use Rattle.sheet.specs.Input.{has_zero}
use Rattle.sheet.proofs.InputLaws.{name_empty, name_long, name_judged}
use Rattle.sheet.proofs.input.is_name.Goals as goal
use Rattle.sheet.proofs.input.is_name.Goals.{then-is_empty-via-then-is_empty, then-is_empty-via-else-is_empty+then-line-gt-NAME_MOST}

pub returns-then-is_empty : goal.returns-then-is_empty
returns-then-is_empty c =
    let e = c.is_empty.ensures in
    elim c.then-is_empty.branch [
      | then-is_empty-via-then-is_empty w ↦ name_empty c.args.line.now (sym e ∙ w.if-is_empty.true)
      | then-is_empty-via-else-is_empty+then-line-gt-NAME_MOST w ↦ name_long c.args.line.now w.if-line-gt-NAME_MOST.true
    ]

pub returns : goal.returns
unfolding has_zero
returns c =
    name_judged c.args.line.now c.contains.result (sym c.if-is_empty.ensures) c.if-line-gt-NAME_MOST.false c.contains.ensures.value
