-- `depot::periods::class_at` meets its contract.
use Rattle.std.proofs.Common.{arith}
use Rattle.store.proofs.SearchLaws.{room}
use Rattle.depot.proofs.periods.class_at.Goals as goal

pub get32_at-requires : goal.get32_at-requires
get32_at-requires c = omega (arith, room c.args.lim c.args.s.now c.args.i (λ j. (c.type_inv.s j).fits) c.requires.s_value c.requires.i_bound)

pub get32_at-requires-2 : goal.get32_at-requires-2
get32_at-requires-2 c = omega (arith, room c.args.lim c.args.s.now c.args.i (λ j. (c.type_inv.s j).fits) c.requires.s_value c.requires.i_bound)
