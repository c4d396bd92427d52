-- `authentication::keys::derive` meets its contract.
use mathlib.Core.Path.{◌∙◌}
use Rattle.authentication.proofs.KeyLaws.{derived_of}
use Rattle.authentication.proofs.keys.derive.Goals as goal

pub returns : goal.returns
returns c =
    let a = c.args in
    c.set_parity.ensures
    ∙ derived_of a.kmac.now a.ra a.rb c.join.result c.load-a.result c.load-b.result c.lefts.result c.rights.result _ _ _
    c.load-a.ensures c.load-b.ensures c.lefts.ensures c.rights.ensures c.draw.ensures c.join.ensures
