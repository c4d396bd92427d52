-- `store::sound::unique_ok` meets its contract. The loop's invariant: each record passed has a key of its own, and is marked in its slot.
use mathlib.Core.Path.{◌≡◌}
use mathlib.Core.Bool.{true}
use lib.ListN.{length}
use Rattle.octets.specs.Bytes.{all_below}
use Rattle.store.specs.Store.{new_key}
use Rattle.store.proofs.SlotLaws.{Marked}
use Rattle.store.proofs.sound.unique_ok.Given as goal

abbrev pub invariant-loop-i : goal.invariant-loop-i
invariant-loop-i l = (all_below l.i (new_key l.s) ≡ true) × (length l.marks ≡ 1024) × (Marked l.s l.i l.marks)
