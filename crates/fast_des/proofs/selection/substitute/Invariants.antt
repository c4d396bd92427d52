-- `fast_des::selection::substitute` meets its contract. The loop's invariant: r holds what the boxes from k on select, moved by P and expanded.
use Prim.Native.Nat.{◌*◌}
use Rattle.des.specs.Bits.{bits}
use Rattle.des.specs.Tables.{e, p}
use Rattle.des.specs.Des.{permute, selects}
use Rattle.des.specs.Words.{Holds}
use Rattle.fast_des.proofs.JoinedLaws.{keep}
use Rattle.fast_des.proofs.selection.substitute.Given as goal

abbrev pub invariant-loop-k : goal.invariant-loop-k
invariant-loop-k l = Holds 48 l.r (permute e (permute p (keep (4 * l.k) 32 (selects 8 (bits 48 l.x)))))
