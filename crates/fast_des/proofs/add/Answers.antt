-- `fast_des::add` meets its contract.
use mathlib.Core.Path.{refl}
use Rattle.fast_des.proofs.InsideLaws.{adds}
use Rattle.fast_des.proofs.add.Goals as goal

pub returns : goal.returns
returns c =
    let x = c.args in
    adds x.a x.b _ refl refl
