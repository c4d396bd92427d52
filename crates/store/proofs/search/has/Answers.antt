use Rattle.std.proofs.Common.{rules, ◌+◌, ◌*◌}
use mathlib.Core.Path.{refl, ◌∙◌}
use native.Mathlib.Omega.{arith}
use lib.Dec.{eqb}
use Rattle.std.proofs.lemmas.Iterator.{YieldsList-from_range}
use Rattle.std.proofs.lemmas.Iterator.Search.{any_from_yields_List}
use borrow.Author.Tests.{tests}
use Rattle.octets.specs.Bytes.{get32}
use Rattle.store.proofs.ChainLaws.{elem-range}
use Rattle.store.proofs.search.has.Goals as goal

pub returns : goal.returns
returns c =
    let a = c.args in
    let r = any_from_yields_List (λ k. eqb (get32 a.s.now (a.i + 4 * k)) a.x) _ _ c.any.result c.any.ensures.ran (YieldsList-from_range 0 a.n a.n refl (omega arith)) (λ x b q k. search (rules, tests)) in
    r ∙ elem-range a.x a.s.now a.i a.n
