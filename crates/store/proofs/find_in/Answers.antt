-- `store::find_in` meets its contract.
use mathlib.Core.Path.{sym, ap, ◌∙◌}
use lib.ListN.{length}
use Rattle.std.specs.Prelude.{Option}
use Rattle.std.specs.Option.{ok_or}
use Rattle.refusal.specs.declared.Refusal.TheVariants.{NoKey}
use Rattle.store.specs.declared.Found.{Found}
use Rattle.store.specs.Store.{entries}
use Rattle.store.specs.Search.{chosen, found_as}
use Rattle.store.proofs.SearchLaws.{find_unsound, find_sound, taken_placed}
use Rattle.store.proofs.find_in.Goals as goal

pub returns-then-not-is_sound : goal.returns-then-not-is_sound
returns-then-not-is_sound c =
    let a = c.args in
    sym (find_unsound a.lim a.s.now a.peer a.t (sym c.is_sound.ensures ∙ c.if-not-is_sound.true))

pub returns : goal.returns
returns c =
    let a = c.args in
    let h = sym c.is_sound.ensures ∙ c.if-not-is_sound.false in
    ap found_as (c.ok_or.ensures.value ∙ ap (λ (o : Option Found). ok_or o NoKey) c.chosen.ensures)
    ∙ taken_placed (chosen a.peer a.t (entries a.lim a.s.now)) (length (entries a.lim a.s.now)) ∙ sym (find_sound a.lim a.s.now a.peer a.t h)
