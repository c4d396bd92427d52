-- `fast_des::permutation::expand` meets its contract.
use mathlib.Core.Path.{◌≡◌, refl, ap, ◌∙◌}
use mathlib.Core.Bool.{true}
use Prim.Native.Nat.{ℕ, ◌*◌, ◌/◌, ◌%◌, ◌^◌}
use native.Mathlib.Omega.{arith}
use lib.Bits.{bit_and, bit_xor}
use Rattle.octets.specs.Bytes.{same, all_below}
use Rattle.des.specs.Bits.{bits}
use Rattle.des.specs.Tables.{e}
use Rattle.des.specs.Des.{permute}
use Rattle.fast_des.specs.Networks.{spread_parts}
use Rattle.fast_des.proofs.LinearLaws.{Linear, same-linear, xor_linear, and_linear, shl_linear, shr_linear, spread_linear, permutes_powers, by_powers}
use Rattle.fast_des.proofs.permutation.expand.Goals as goal

-- the half with its last bit before it and its first behind it
abbrev ends : ℕ → ℕ
ends r = bit_xor (bit_xor (r * 2 ^ 1 % 2 ^ 64) (r / 2 ^ 31)) (bit_and r 1 * 2 ^ 33 % 2 ^ 64)

abbrev network : ℕ → ℕ
network x = spread_parts 0x3f03f03f03f0 2 0x3f03f03f03f (spread_parts 0x3ff0003ff00 4 0x3ff0003ff (spread_parts 0x3ffff0000 8 0x3ffff (ends (bit_and x 0xffffffff))))

linear : Linear network
linear =
    let half : Linear (λ (x : ℕ). bit_and x 0xffffffff) = and_linear _ same-linear in
    spread_linear _ _ _ (spread_linear _ _ _ (spread_linear _ _ _ (xor_linear (xor_linear (shl_linear 1 half) (shr_linear 31 half)) (shl_linear 33 (and_linear 1 half)))))

test : permutes_powers 48 32 e network ≡ true
unfolding permutes_powers all_below same bits permute e spread_parts
test = refl

pub returns : goal.returns
returns c =
    by_powers 48 32 e linear test c.args.x (omega arith)
    (c.spread.ensures ∙ ap (spread_parts 0x3f03f03f03f0 2 0x3f03f03f03f) (c.spread-b.ensures ∙ ap (spread_parts 0x3ff0003ff00 4 0x3ff0003ff) c.spread-a.ensures))
