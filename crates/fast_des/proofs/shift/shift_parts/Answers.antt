-- `fast_des::shift::shift_parts` meets its contract.
use mathlib.Core.Path.{refl}
use Rattle.fast_des.specs.Networks.{shift_parts}
use Rattle.fast_des.proofs.shift.shift_parts.Goals as goal

pub returns : goal.returns
unfolding shift_parts
returns c = refl
