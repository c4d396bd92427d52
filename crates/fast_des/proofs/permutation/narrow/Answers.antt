-- `fast_des::permutation::narrow` meets its contract.
use mathlib.Core.Path.{◌≡◌, refl}
use mathlib.Core.Bool.{true}
use Prim.Native.Nat.{ℕ, ◌/◌, ◌^◌}
use native.Mathlib.Omega.{arith}
use lib.Bits.{bit_and}
use Rattle.octets.specs.Bytes.{same, all_below}
use Rattle.des.specs.Bits.{bits}
use Rattle.des.specs.Des.{permute}
use Rattle.fast_des.specs.Networks.{gather_parts, middle}
use Rattle.fast_des.proofs.LinearLaws.{Linear, same-linear, and_linear, shr_linear, gather_linear, permutes_powers, by_powers}
use Rattle.fast_des.proofs.permutation.narrow.Goals as goal

abbrev network : ℕ → ℕ
network x = gather_parts 0xffff000000 8 0xffff (gather_parts 0xff0000ff000 4 0xff0000ff (gather_parts 0x3c03c03c03c0 2 0xf00f00f00f (bit_and (x / 2 ^ 1) 0x3cf3cf3cf3cf)))

linear : Linear network
linear = gather_linear _ _ _ (gather_linear _ _ _ (gather_linear _ _ _ (and_linear _ (shr_linear 1 same-linear))))

test : permutes_powers 32 48 middle network ≡ true
unfolding permutes_powers all_below same bits permute middle gather_parts
test = refl

pub returns : goal.returns
returns c =
    by_powers 32 48 middle linear test c.args.x (omega arith) (cc)
