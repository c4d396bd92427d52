-- `des::selection::substitute` meets its contract. The loop's invariant: the result holds what the first k S-boxes select.
use Prim.Native.Nat.{◌*◌}
use Rattle.des.specs.Bits.{bits}
use Rattle.des.specs.Des.{selects}
use Rattle.des.specs.Words.{Holds}
use Rattle.des.proofs.selection.substitute.Given as goal

abbrev pub invariant-loop-k : goal.invariant-loop-k
invariant-loop-k l = Holds (4 * l.k) l.r (selects l.k (bits 48 l.x))
