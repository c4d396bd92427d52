-- `lines::digits::put_bytes` meets its contract. The loop's invariant: the first i bytes are written.
use mathlib.Core.Path.{◌≡◌}
use lib.ListN.{take}
use Rattle.octets.specs.Bytes.{splice}
use Rattle.lines.specs.Digits.{from_hex}
use Rattle.lines.proofs.digits.put_bytes.Given as goal

abbrev pub invariant-loop-i : goal.invariant-loop-i
invariant-loop-i l = l.out ≡ splice l.initial.out 0 (take l.i (from_hex l.s))
