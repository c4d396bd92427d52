-- `fast_des::permutation::choices` meets its contract. The loop's invariant: the four words hold what is chosen of the first i groups of C and of D.
use Rattle.fast_des.proofs.ChoiceLaws.{ChosenBy}
use Rattle.fast_des.proofs.permutation.choices.Given as goal

abbrev pub invariant-loop-i : goal.invariant-loop-i
invariant-loop-i l = ChosenBy l.x l.i l.none l.four l.eight l.twelve
