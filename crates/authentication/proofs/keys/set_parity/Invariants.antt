-- `authentication::keys::set_parity` meets its contract. The loop's invariant: the bytes before the index have their parity, the others are as they were.
use Rattle.std.proofs.Common.{◌≡◌, ◌++◌, map, take, drop}
use Rattle.authentication.specs.Keys.{odd}
use Rattle.authentication.proofs.keys.set_parity.Given as goal

abbrev pub invariant-loop-b : goal.invariant-loop-b
invariant-loop-b l = l.b-items ≡ map odd (take l.b-index l.fn.d) ++ drop l.b-index l.fn.d
