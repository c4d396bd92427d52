use Rattle.std.proofs.Common.{refl, arith}
use lib.Dec.{lit<}
use Rattle.des.specs.Bits.{bits}
use Rattle.des.specs.Des as Des
use Rattle.des.proofs.TableLaws.{entry_step}
use Rattle.des.proofs.permutation.permute_row.Goals as goal

pub loop-bit-init : goal.loop-bit-init
unfolding bits Des.permute
loop-bit-init c = record { fits = lit< tt; same = refl }

pub loop-bit-preserved : goal.loop-bit-preserved
loop-bit-preserved c =
    let a = c.args in
    rw c.from.ensures (entry_step a.width a.x a.row.now c.loop-bit.bit-index c.loop-bit.r c.requires.0 c.loop-bit-test.true (omega arith) c.loop-bit.invariant)
