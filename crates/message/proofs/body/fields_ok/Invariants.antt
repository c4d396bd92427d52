-- `message::body::fields_ok` meets its contract. The loop's invariant: what is left of the requests decides.
use mathlib.Core.Path.{◌≡◌}
use Prim.Native.Nat.{◌-◌, ◌≤◌}
use lib.ListN.{length}
use Rattle.message.specs.Body.{fields_from}
use Rattle.message.proofs.body.fields_ok.Given as goal

abbrev pub invariant-loop : goal.invariant-loop
invariant-loop l = (l.i ≤ length l.m) × (fields_from l.command l.m 22 l.n ≡ fields_from l.command l.m l.i (l.n - l.counter))
