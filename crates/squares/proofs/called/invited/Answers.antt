-- `squares::called::invited` meets its contract.
use mathlib.Core.Path.{sym, ◌∙◌}
use Rattle.table.proofs.SideLaws.{indication_faulty}
use Rattle.squares.proofs.called.invited.Goals as goal

pub returns-in-Err : goal.returns-in-Err
returns-in-Err c =
    let a = c.args in
    indication_faulty a.acceptable a.own a.t a.ra a.unit.now a.store.now a.c a.out.now c.in-Err.why
    c.requires.1 c.requires.0 (sym c.typed_fault.ensures ∙ c.in-Err.is) c.rejected.ensures.0 c.rejected.ensures.1 c.rejected.ensures.2
