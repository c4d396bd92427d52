-- `fast_des::iteration::pass` meets its contract. The loop's invariant: the first i blocks hold what the cipher makes of them, the others their halves after the iterations.
use Rattle.fast_des.specs.Inside.{Iterates, Passes}
use Rattle.fast_des.proofs.InsideLaws.{Partly}
use Rattle.fast_des.proofs.iteration.pass.Given as goal

abbrev pub invariant-loop-i : goal.invariant-loop-i
invariant-loop-i g l = Partly (λ h r. Passes h l.fn.keys l.fn.back r) (λ h r. Iterates h l.fn.keys l.fn.back 16 r) l.i l.fn.blocks l.s
