-- `setup::user_data` meets its contract.
use mathlib.Core.Path.{◌≡◌, sym, ap, ◌∙◌}
use mathlib.Core.Logic.{inl, inr}
use mathlib.Core.List.{[]}
use Rattle.table.specs.declared.Kind.{Kind}
use Rattle.table.specs.declared.Kind.TheVariants.{Au3, Ar}
use Rattle.table.specs.Steps.{unit_indication, step, handed_up}
use Rattle.table.proofs.UnitLaws.{refused-up, au3-up, ar-up}
use Rattle.setup.proofs.user_data.Goals as goal

pub returns-then-out-lt-OUTPUT_LEAST : goal.returns-then-out-lt-OUTPUT_LEAST
returns-then-out-lt-OUTPUT_LEAST c =
    refused-up _ c.args.c c.args.unit.now c.args.out.now c.if-out-lt-OUTPUT_LEAST.true

pub returns-in-Au3 : goal.returns-in-Au3
returns-in-Au3 c =
    let a = c.args in
    let none = λ (k : Kind) (e : a.kind ≡ k) (h : [] ≡ handed_up (step (unit_indication k a.unit.now) a.c a.out.now).answer a.unit.now).
    h ∙ ap (λ (k : Kind). handed_up (step (unit_indication k a.unit.now) a.c a.out.now).answer a.unit.now) (sym e) in
    elim c.in-Au3.is [
      | inl e ↦ none Au3 e (au3-up a.c a.unit.now a.out.now c.if-out-lt-OUTPUT_LEAST.false)
      | inr e ↦ none Ar e (ar-up a.c a.unit.now a.out.now c.if-out-lt-OUTPUT_LEAST.false)
    ]

pub returns-in-Dt : goal.returns-in-Dt
returns-in-Dt c =
    let a = c.args in
    c.data_of.ensures ∙ ap (λ (k : Kind). handed_up (step (unit_indication k a.unit.now) a.c a.out.now).answer a.unit.now) (sym c.in-Dt.is)
