-- `lines::digits::put_digits` meets its contract. The loop's invariant: the digits of the first i bytes are written.
use mathlib.Core.Path.{◌≡◌}
use lib.ListN.{take}
use Rattle.octets.specs.Bytes.{splice}
use Rattle.lines.specs.Digits.{to_hex}
use Rattle.lines.proofs.digits.put_digits.Given as goal

abbrev pub invariant-loop-i : goal.invariant-loop-i
invariant-loop-i l = l.out ≡ splice l.initial.out 0 (to_hex (take l.i l.s))
