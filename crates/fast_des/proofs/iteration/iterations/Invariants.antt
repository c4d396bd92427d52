-- `fast_des::iteration::iterations` meets its contract. The loops' invariants: each block holds its halves after n iterations, and in the inner loop the first i after one more.
use Prim.Native.Nat.{◌+◌}
use Rattle.fast_des.specs.Inside.{Iterates, Each}
use Rattle.fast_des.proofs.InsideLaws.{Partly}
use Rattle.fast_des.proofs.iteration.iterations.Given as goal

abbrev pub invariant-loop-n : goal.invariant-loop-n
invariant-loop-n g l = Each (λ h r. Iterates h l.keys l.back l.n r) l.fn.blocks l.s × Iterates l.fn.last l.others l.back l.n l.t

abbrev pub invariant-loop-i : goal.invariant-loop-i
invariant-loop-i g l = Partly (λ h r. Iterates h l.keys l.back (l.n + 1) r) (λ h r. Iterates h l.keys l.back l.n r) l.i l.fn.blocks l.s
