-- `fast_des::permutation::choice1` meets its contract.
use mathlib.Core.Path.{◌≡◌, refl, ap, ◌∙◌}
use mathlib.Core.Bool.{true}
use mathlib.Core.List.{List}
use Prim.Native.Nat.{ℕ, ◌*◌, ◌/◌, ◌%◌, ◌^◌}
use lib.Bits.{bit_and, bit_xor}
use Rattle.octets.specs.Bytes.{same, all_below}
use Rattle.des.specs.Bits.{bits}
use Rattle.des.specs.Tables.{ip, ip_inverse, pc1}
use Rattle.des.specs.Des.{permute}
use Rattle.des.proofs.WordLaws.{recast}
use Rattle.des.proofs.CipherLaws.{compose}
use Rattle.fast_des.proofs.LinearLaws.{Linear, same-linear, xor_linear, and_linear, shl_linear, shr_linear, permutes_powers, by_powers}
use Rattle.fast_des.proofs.permutation.choice1.Goals as goal

-- C and D, of the bytes that IP makes
abbrev left : ℕ → ℕ
left y =
    bit_xor
    (bit_xor (bit_xor (bit_and y 0xff000000 * 2 ^ 24 % 2 ^ 64) (bit_and y 0xff00000000000000 / 2 ^ 16)) (bit_and y 0xff0000 * 2 ^ 16 % 2 ^ 64))
    (bit_and y 0xf0000000000000 / 2 ^ 24)

abbrev right : ℕ → ℕ
right y =
    bit_xor (bit_xor (bit_xor (bit_and y 0xff * 2 ^ 20 % 2 ^ 64) (bit_and y 0xff0000000000 / 2 ^ 28)) (bit_and y 0xff00 / 2 ^ 4)) (bit_and y 0xf000000000000 / 2 ^ 48)

abbrev network : ℕ → ℕ
network y = bit_xor (left y) (right y)

linear : Linear network
linear =
    let part : (m : ℕ) → Linear (λ (y : ℕ). bit_and y m) = λ m. and_linear m same-linear in
    xor_linear (xor_linear (xor_linear (xor_linear (shl_linear 24 (part _)) (shr_linear 16 (part _))) (shl_linear 16 (part _))) (shr_linear 24 (part _)))
    (xor_linear (xor_linear (xor_linear (shl_linear 20 (part _)) (shr_linear 28 (part _))) (shr_linear 4 (part _))) (shr_linear 48 (part _)))

-- where IP puts the bits that permuted choice 1 names
abbrev moved : List ℕ
moved = permute pc1 ip_inverse

test : permutes_powers 56 64 moved network ≡ true
unfolding permutes_powers all_below same bits permute pc1 ip_inverse
test = refl

moved-ip : (x : List ℕ) → permute moved (permute ip x) ≡ permute pc1 x
unfolding permute pc1 ip ip_inverse
moved-ip x = compose moved ip x refl

pub returns : goal.returns
returns c =
    let y = c.initial-y.ensures in
    recast (by_powers 56 64 moved linear test c.initial-y.result y.fits refl) (ap (permute moved) y.same ∙ moved-ip (bits 64 c.args.x))
