use Rattle.std.proofs.Common.{rules}
use mathlib.Core.Path.{refl, ap, ◌∙◌}
use mathlib.Core.Bool.{not}
use Rattle.std.proofs.lemmas.Iterator.{YieldsList-from_range}
use Rattle.std.proofs.lemmas.Iterator.Search.{any_from_yields_List}
use native.Mathlib.Omega.{arith}
use borrow.Author.Tests.{tests}
use Rattle.store.specs.Store.{same_key, new_key}
use Rattle.store.proofs.ChainLaws.{any-range}
use Rattle.store.proofs.sound.new_key.Goals as goal

pub returns : goal.returns
unfolding new_key
returns c =
    let a = c.args in
    let r = any_from_yields_List (same_key a.s.now a.i) _ _ c.any.result c.any.ensures.ran (YieldsList-from_range 0 a.i a.i refl (omega arith)) (λ x b q k. search (rules, tests)) in
    ap not r ∙ any-range a.i (same_key a.s.now a.i)
