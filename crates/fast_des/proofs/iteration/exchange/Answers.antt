-- `fast_des::iteration::exchange` meets its contract.
use mathlib.Core.Path.{refl}
use Rattle.fast_des.proofs.iteration.exchange.Goals as goal

pub returns : goal.returns
returns c = (refl, refl)
