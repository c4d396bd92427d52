-- `squares::received::data_of` meets its contract.
use mathlib.Core.Path.{ap, ◌∙◌}
use mathlib.Core.Bool.{not}
use mathlib.Core.List.{List}
use Prim.Native.Nat.{ℕ}
use Rattle.authentication.specs.Unit.{checked, data_of}
use Rattle.table.specs.Table.{state_of}
use Rattle.table.proofs.UnitLaws.{dt_elsewhere_up, dt-up}
use Rattle.squares.proofs.received.data_of.Goals as goal

pub returns-then-c-ne-DATA : goal.returns-then-c-ne-DATA
returns-then-c-ne-DATA c =
    dt_elsewhere_up _ _ c.args.out.now c.requires c.if-c-ne-DATA.true

pub returns : goal.returns
returns c =
    let a = c.args in
    c.user_data.ensures ∙ ap (λ (d : List ℕ). data_of (checked a.unit.now a.c.key d (not a.c.responder)) a.unit.now) c.etcs_id.ensures
    ∙ dt-up a.c a.unit.now a.out.now c.requires (ap state_of c.if-c-ne-DATA.false)
