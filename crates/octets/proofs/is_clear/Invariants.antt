-- `octets::is_clear` meets its contract. The loop's invariant: whether the bytes seen are zero.
use Rattle.std.proofs.Common.{◌≡◌, take, eqb}
use Rattle.std.specs.List.{list_all}
use Rattle.octets.proofs.is_clear.Given as goal

abbrev pub invariant-loop-x : goal.invariant-loop-x
invariant-loop-x l = l.clear ≡ list_all (λ x. eqb x 0) (take l.x-index l.x-items)
