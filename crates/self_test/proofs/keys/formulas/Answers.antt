-- `self_test::keys::formulas` meets its contract.
use Rattle.self_test.proofs.WordLaws.{formulas}
use Rattle.self_test.proofs.keys.formulas.Goals as goal

pub returns : goal.returns
returns c =
    let a = c.args in
    formulas a.k1 a.k2 a.k3 a.x a.y c.triple.result c.triple-2.result c.triple-3.result c.join.result
    c.triple.ensures c.triple-2.ensures c.triple-3.ensures c.join.ensures
