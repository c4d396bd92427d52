-- `lines::digits::number` meets its contract. The loop's invariant: what is left, behind what is read, is the number.
use Rattle.std.proofs.Common.{◌≡◌, ◌*◌, ◌<◌, ◌^◌, drop}
use Rattle.lines.specs.Digits.{numeral}
use Rattle.lines.proofs.digits.number.Given as goal

abbrev pub invariant-loop-b : goal.invariant-loop-b
invariant-loop-b l = (l.r < 2 ^ (4 * l.b-index)) × (numeral l.base 0 l.s ≡ numeral l.base l.r (drop l.b-index l.s))
