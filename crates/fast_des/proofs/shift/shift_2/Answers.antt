-- `fast_des::shift::shift_2` meets its contract.
use mathlib.Core.Path.{◌≡◌, refl}
use mathlib.Core.Bool.{true}
use native.Mathlib.Omega.{arith}
use Rattle.octets.specs.Bytes.{same, all_below}
use Rattle.des.specs.Bits.{bits}
use Rattle.des.specs.Des.{permute, swap, shift_both}
use Rattle.des.specs.Words.{up_from}
use Rattle.fast_des.specs.Networks.{shift_parts}
use Rattle.fast_des.proofs.LinearLaws.{permutes_powers, shift_word}
use Rattle.fast_des.proofs.shift.shift_2.Goals as goal

test : permutes_powers 56 56 (shift_both 2 (up_from 1 56)) (shift_parts 2 0xffffffcffffffc 0x30000003) ≡ true
unfolding permutes_powers all_below same bits permute swap shift_both shift_parts
test = refl

pub returns : goal.returns
returns c = shift_word 2 0xffffffcffffffc 0x30000003 test c.args.cd (omega arith) c.shift_parts.ensures
