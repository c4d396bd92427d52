-- `requests::record::renumber` meets its contract. The loop's invariant: what is left, done to the bytes now, is all, done to those at the start.
use mathlib.Core.Path.{◌≡◌}
use lib.ListN.{length}
use Prim.Native.Nat.{◌+◌, ◌-◌, ◌*◌, ◌≤◌}
use Rattle.requests.specs.Edit.{renumbered}
use Rattle.requests.proofs.record.renumber.Given as goal

abbrev pub invariant-loop-k : goal.invariant-loop-k
invariant-loop-k l =
    record {
      room : l.i + 44 * l.n ≤ length l.s;
      small : l.first ≤ 1048576 + 65535 * l.k;
      rest : renumbered l.initial.s l.i l.n l.p ≡ renumbered l.s (l.i + 44 * l.k) (l.n - l.k) l.first;
    }
