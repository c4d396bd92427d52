-- `squares::calling::answered` meets its contract.
use mathlib.Core.Path.{sym, ◌∙◌}
use Rattle.table.proofs.SideLaws.{by-fields, confirmation_faulty}
use Rattle.squares.proofs.calling.answered.Goals as goal

pub returns-in-Err : goal.returns-in-Err
returns-in-Err c =
    let a = c.args in
    confirmation_faulty a.unit.now a.c a.out.now c.requires.1 c.requires.0 c.in-Err.why
    (by-fields a.unit.now a.c c.in-Err.why (sym c.au2_fields.ensures ∙ c.in-Err.is))
    c.ended.ensures.0 c.ended.ensures.1
