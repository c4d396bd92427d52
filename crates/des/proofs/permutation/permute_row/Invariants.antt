-- `des::permutation::permute_row` meets its contract. The loop's invariant: the result holds the bits that the first entries name.
use Rattle.std.proofs.Common.{take}
use Rattle.des.specs.Bits.{bits}
use Rattle.des.specs.Des as Des
use Rattle.des.specs.Words.{Holds}
use Rattle.des.proofs.permutation.permute_row.Given as goal

abbrev pub invariant-loop-bit : goal.invariant-loop-bit
invariant-loop-bit l = Holds l.bit-index l.r (Des.permute (take l.bit-index l.row) (bits l.width l.x))
