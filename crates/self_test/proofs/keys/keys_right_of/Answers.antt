-- `self_test::keys::keys_right_of` meets its contract.
use mathlib.Core.Path.{◌∙◌}
use Rattle.self_test.proofs.WordLaws.{keys-made, keys-given, parity-all}
use Rattle.self_test.proofs.keys.keys_right_of.Goals as goal

pub returns-in-Ok : goal.returns-in-Ok
returns-in-Ok c =
    let a = c.args in
    c.same_but_parity.ensures
    ∙ parity-all c.in-Ok.key c.formulas-plain.result
    (keys-given c.join.result c.store.result c.store-2.result c.in-Ok.key a.k1 a.k2 a.k3 a.a a.b
    c.lefts.result c.rights.result c.formulas-plain.result c.join.ensures c.store.ensures c.store-2.ensures
    c.in-Ok.ensures.made c.lefts.ensures c.rights.ensures c.formulas-plain.ensures)

pub returns-in-Err : goal.returns-in-Err
returns-in-Err c =
    let a = c.args in
    cc (c.in-Err.ensures.said, keys-made c.join.result a.k1 a.k2 a.k3 c.join.ensures)
