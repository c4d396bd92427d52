-- `fast_des::permutation::exchange_bits` meets its contract.
use mathlib.Core.Path.{refl}
use Rattle.fast_des.specs.Networks.{exchange_bits}
use Rattle.fast_des.proofs.permutation.exchange_bits.Goals as goal

pub returns : goal.returns
unfolding exchange_bits
returns c = refl
