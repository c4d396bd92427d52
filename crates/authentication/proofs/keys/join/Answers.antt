-- `authentication::keys::join` meets its contract.
use mathlib.Core.Path.{refl}
use lib.ListN.{replicate}
use Rattle.authentication.proofs.KeyLaws.{joined}
use Rattle.authentication.proofs.keys.join.Goals as goal

pub returns : goal.returns
returns c =
    let a = c.args in
    joined (replicate 24 0) c.put64.new.s c.put64-2.new.s c.put64-3.new.s a.a a.b a.c refl
    c.put64.ensures c.put64-2.ensures c.put64-3.ensures
