-- `octets::move_left` meets its contract. The loop's invariant: the first k bytes are moved.
use Rattle.std.proofs.Common.{◌≡◌, ◌+◌, length}
use Rattle.octets.specs.Bytes.{part, splice}
use Rattle.octets.proofs.move_left.Given as goal

abbrev pub invariant-loop-k : goal.invariant-loop-k
invariant-loop-k l = (length l.s ≡ length l.initial.s) × (l.s ≡ splice l.initial.s l.i (part l.initial.s (l.i + l.gap) l.k))
