-- `fast_des::iteration::round` meets its contract.
use mathlib.Core.Path.{refl}
use Rattle.fast_des.proofs.InsideLaws.{round-sides}
use Rattle.fast_des.proofs.iteration.round.Goals as goal

pub returns : goal.returns
returns c =
    let a = c.args in
    round-sides a.h _ a.k c.substitute.result c.substitute.ensures refl refl
