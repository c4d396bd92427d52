use Rattle.std.proofs.Common.{rules}
use mathlib.Core.Path.{refl, ap, ◌∙◌}
use native.Mathlib.Omega.{arith}
use Rattle.std.proofs.lemmas.Iterator.{YieldsList-from_range}
use Rattle.std.proofs.lemmas.Iterator.Search.{all_from_yields_List}
use borrow.Author.Tests.{tests}
use Rattle.octets.specs.Bytes.{all_below}
use Rattle.store.specs.Store.{kmac_at, all_odd, parity_ok}
use Rattle.store.proofs.ChainLaws.{all-range}
use Rattle.store.proofs.sound.parity_ok.Goals as goal

pub returns : goal.returns
unfolding parity_ok
returns c =
    let s = c.args.s.now in
    let n = c.number_at-n.result in
    let r = all_from_yields_List (λ i. all_odd (kmac_at s i)) _ _ c.all.result c.all.ensures.ran (YieldsList-from_range 0 n n refl (omega arith)) (λ x b q k. search (rules, tests)) in
    r ∙ all-range n (λ i. all_odd (kmac_at s i)) ∙ ap (λ m. all_below m (λ i. all_odd (kmac_at s i))) c.number_at-n.ensures.0
