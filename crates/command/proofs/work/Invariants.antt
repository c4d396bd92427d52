-- `command::work` meets its contract. The loop's invariant: what is left of the requests, applied to the store and the output as they are, gives what is to come.
use Rattle.command.proofs.WorkLaws.{Going}
use Rattle.command.proofs.work.Given as goal

abbrev pub invariant-loop-k : goal.invariant-loop-k
invariant-loop-k l = Going l.lim l.own l.command l.m l.n l.initial.s l.initial.out l.i l.k l.s l.out
