-- `sheet::row::put_fields` meets its contract. The loop's invariant: what is left to write, over what is there, is the whole.
use mathlib.Core.Path.{◌≡◌}
use Prim.Native.Nat.{◌+◌}
use lib.ListN.{length, drop}
use Rattle.octets.specs.Bytes.{splice}
use Rattle.sheet.specs.Row.{fields}
use Rattle.sheet.proofs.row.put_fields.Given as goal

abbrev pub invariant-loop-n : goal.invariant-loop-n
invariant-loop-n l = (splice l.initial.out l.at (fields l.numbers) ≡ splice l.out l.end (fields (drop l.n-index l.numbers))) × (l.end + length (fields (drop l.n-index l.numbers)) ≡ l.at + length (fields l.numbers))
