-- `squares::received::judge_dt` meets its contract.
use mathlib.Core.Path.{refl, sym, ap, ◌∙◌}
use mathlib.Core.Bool.{not}
use mathlib.Core.List.{List}
use Prim.Native.Nat.{ℕ}
use Rattle.authentication.specs.Unit.{checked, checked_as}
use Rattle.units.specs.Units.{code}
use Rattle.table.specs.declared.Kind.TheVariants.{Dt}
use Rattle.table.specs.declared.State.TheVariants.{DATA}
use Rattle.table.specs.declared.ToTransport.TheVariants.{Quiet}
use Rattle.table.specs.declared.Timer.TheVariants.{Keep}
use Rattle.table.specs.Table.{ok, SaDataInd, to, square_of, square, row_in, table}
use Rattle.table.specs.Steps.{carried}
use Rattle.table.proofs.UnitLaws.{unit-quiet, dt-accepted}
use Rattle.squares.proofs.received.judge_dt.Goals as goal

pub returns-in-Ok : goal.returns-in-Ok
unfolding carried square row_in table
returns-in-Ok c =
    let judged = ap (λ (d : List ℕ). checked c.args.unit.now c.args.c.key d (not c.args.c.responder)) (sym c.etcs_id.ensures) ∙ sym c.check.ensures in
    unit-quiet Dt DATA (record { when = ok; why = code 0 0; count = c.in-Ok.n }) (square_of SaDataInd Quiet Keep (to DATA)) _ _ _ c.requires.1 c.requires.0
    (dt-accepted _ _ _ (judged ∙ ap checked_as c.in-Ok.is)) refl refl refl c.acting.ensures.0 (c.acting.ensures.1 ∙ c.entering.ensures)
