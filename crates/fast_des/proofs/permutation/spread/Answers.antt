-- `fast_des::permutation::spread` meets its contract.
use mathlib.Core.Path.{refl}
use Rattle.fast_des.specs.Networks.{spread_parts}
use Rattle.fast_des.proofs.permutation.spread.Goals as goal

pub returns : goal.returns
unfolding spread_parts
returns c = refl
