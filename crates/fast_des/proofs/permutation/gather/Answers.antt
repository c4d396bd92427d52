-- `fast_des::permutation::gather` meets its contract.
use mathlib.Core.Path.{refl}
use Rattle.fast_des.specs.Networks.{gather_parts}
use Rattle.fast_des.proofs.permutation.gather.Goals as goal

pub returns : goal.returns
unfolding gather_parts
returns c = refl
