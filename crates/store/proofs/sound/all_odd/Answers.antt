use Rattle.std.proofs.Common.{rules, ◌≡◌, ◌+◌, ◌-◌}
use mathlib.Core.Path.{ap, ◌∙◌}
use native.Mathlib.Omega.{arith}
use Rattle.std.proofs.lemmas.Iterator.{YieldsList-from_slice}
use Rattle.std.proofs.lemmas.Iterator.Search.{all_from_yields_List}
use borrow.Author.Tests.{tests}
use Rattle.octets.specs.Bytes.{part}
use Rattle.store.specs.Store.{is_odd, all_odd}
use Rattle.store.proofs.ChainLaws.{all-list}
use lib.ListN.{take, drop}
use Rattle.store.proofs.sound.all_odd.Goals as goal

pub returns : goal.returns
unfolding all_odd part
returns c =
    let a = c.args in
    let lent : c.iter.result.rest.now ≡ part a.s.now a.i 24 = c.iter.ensures.rest ∙ ap (λ n. take n (drop a.i a.s.now)) {x = a.i + 24 - a.i} {y = 24} (omega arith) in
    let r = all_from_yields_List is_odd _ _ c.all.result c.all.ensures.ran (YieldsList-from_slice (part a.s.now a.i 24) lent) (λ x b q k. search (rules, tests)) in
    r ∙ all-list is_odd (part a.s.now a.i 24)
