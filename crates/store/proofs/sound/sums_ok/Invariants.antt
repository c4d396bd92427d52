-- `store::sound::sums_ok` meets its contract. The loop's invariant: the sums passed hold, and `sum` is the sum so far.
use mathlib.Core.Path.{◌≡◌}
use mathlib.Core.Bool.{true}
use Prim.Native.Nat.{◌*◌, ◌≤◌}
use Rattle.octets.specs.Bytes.{all_below}
use Rattle.store.specs.Store.{sum_before, sum_at}
use Rattle.store.proofs.sound.sums_ok.Given as goal

abbrev pub invariant-loop-i : goal.invariant-loop-i
invariant-loop-i l = (l.sum ≡ sum_before l.s l.i) × (l.sum ≤ 65535 * l.i) × (all_below l.i (sum_at l.s) ≡ true)
