-- `fast_des::permutation::inverse_initial` meets its contract.
use mathlib.Core.Path.{◌≡◌, refl}
use mathlib.Core.Bool.{true}
use Prim.Native.Nat.{ℕ}
use native.Mathlib.Omega.{arith}
use Rattle.octets.specs.Bytes.{same, all_below}
use Rattle.des.specs.Bits.{bits}
use Rattle.des.specs.Tables.{ip_inverse}
use Rattle.des.specs.Des.{permute}
use Rattle.fast_des.specs.Networks.{exchange_bits}
use Rattle.fast_des.proofs.LinearLaws.{Linear, same-linear, exchange_linear, permutes_powers, by_powers}
use Rattle.fast_des.proofs.permutation.inverse_initial.Goals as goal

abbrev network : ℕ → ℕ
network x = exchange_bits 36 0x0f0f0f0f (exchange_bits 48 0xffff (exchange_bits 30 0xcccccccc (exchange_bits 24 0xff00ff00 (exchange_bits 33 0x55555555 x))))

linear : Linear network
linear = exchange_linear _ _ (exchange_linear _ _ (exchange_linear _ _ (exchange_linear _ _ (exchange_linear _ _ same-linear))))

test : permutes_powers 64 64 ip_inverse network ≡ true
unfolding permutes_powers all_below same bits permute ip_inverse exchange_bits
test = refl

pub returns : goal.returns
returns c =
    by_powers 64 64 ip_inverse linear test c.args.x (omega arith) (cc)
