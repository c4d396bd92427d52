-- `fast_des::permutation::initial` meets its contract.
use mathlib.Core.Path.{◌≡◌, refl}
use mathlib.Core.Bool.{true}
use Prim.Native.Nat.{ℕ}
use native.Mathlib.Omega.{arith}
use Rattle.octets.specs.Bytes.{same, all_below}
use Rattle.des.specs.Bits.{bits}
use Rattle.des.specs.Tables.{ip}
use Rattle.des.specs.Des.{permute}
use Rattle.fast_des.specs.Networks.{exchange_bits}
use Rattle.fast_des.proofs.LinearLaws.{Linear, same-linear, exchange_linear, permutes_powers, by_powers}
use Rattle.fast_des.proofs.permutation.initial.Goals as goal

abbrev network : ℕ → ℕ
network x = exchange_bits 33 0x55555555 (exchange_bits 24 0xff00ff00 (exchange_bits 30 0xcccccccc (exchange_bits 48 0xffff (exchange_bits 36 0x0f0f0f0f x))))

linear : Linear network
linear = exchange_linear _ _ (exchange_linear _ _ (exchange_linear _ _ (exchange_linear _ _ (exchange_linear _ _ same-linear))))

test : permutes_powers 64 64 ip network ≡ true
unfolding permutes_powers all_below same bits permute ip exchange_bits
test = refl

pub returns : goal.returns
returns c =
    by_powers 64 64 ip linear test c.args.x (omega arith) (cc)
