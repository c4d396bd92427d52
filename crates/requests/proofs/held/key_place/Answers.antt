-- `requests::held::key_place` meets its contract.
use Rattle.std.proofs.Common.{◌≡◌, true, false, rules, tests}
use Rattle.std.proofs.lemmas.Iterator.{first_from_Range}
use Rattle.store.specs.Store.{entry_at}
use Rattle.store.specs.Request.{has_key}
use Rattle.requests.proofs.HeldLaws.{held-place}
use Rattle.requests.proofs.held.key_place.Goals as goal

pub returns-clause-found : goal.returns-clause-found
returns-clause-found c =
    let s = c.args.s.now in
    let a = c.args.id.issuer in
    let b = c.args.id.serial in
    λ L. held-place c.find.result L s a b c.number_at.result c.number_at.ensures.0
    (first_from_Range _ _ _ _ (λ i. has_key a b (entry_at L s i) ≡ true) (λ i. has_key a b (entry_at L s i) ≡ false) c.find.ensures.ran
    (λ x q k. search (rules, tests)) (λ x q k. search (rules, tests)))
