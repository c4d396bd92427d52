-- `depot::periods::classes_of` meets its contract. The loop's invariant: the classes are those of the records from i on.
use Rattle.std.proofs.Common.{◌≡◌, ◌-◌}
use Rattle.store.specs.Store.{key_count, entries_from}
use Rattle.depot.specs.Counts.{classes_of}
use Rattle.depot.proofs.periods.classes_of.Given as goal

abbrev pub invariant-loop-i : goal.invariant-loop-i
invariant-loop-i l = l.c ≡ classes_of l.t (entries_from l.lim l.s l.i (key_count l.s - l.i))
