-- `store::search::chosen` meets its contract. The loop's invariant: what is held is the choice among the records from i on.
use Rattle.store.specs.Store.{key_count}
use Rattle.store.specs.Search.{serves}
use Rattle.store.proofs.LatestLaws.{Held}
use Rattle.store.proofs.search.chosen.Given as goal

abbrev pub invariant-loop-i : goal.invariant-loop-i
invariant-loop-i l = Held (serves l.peer l.t) l.lim l.s (key_count l.s) l.i l.taken
