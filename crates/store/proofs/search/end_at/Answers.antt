-- `store::search::end_at` meets its contract.
use native.Mathlib.Omega.{arith}
use Rattle.store.proofs.SearchLaws.{room}
use Rattle.store.proofs.search.end_at.Goals as goal

pub overflow_mul-i : goal.overflow_mul-i
overflow_mul-i c = let r = room c.args.lim c.args.s.now c.args.i (λ j. (c.type_inv.s j).fits) c.requires.s_value c.requires.i_bound in omega arith

pub overflow_add-i : goal.overflow_add-i
overflow_add-i c = let r = room c.args.lim c.args.s.now c.args.i (λ j. (c.type_inv.s j).fits) c.requires.s_value c.requires.i_bound in omega arith

pub overflow_add-i-2 : goal.overflow_add-i-2
overflow_add-i-2 c = let r = room c.args.lim c.args.s.now c.args.i (λ j. (c.type_inv.s j).fits) c.requires.s_value c.requires.i_bound in omega arith

pub get32_at-requires : goal.get32_at-requires
get32_at-requires c = let r = room c.args.lim c.args.s.now c.args.i (λ j. (c.type_inv.s j).fits) c.requires.s_value c.requires.i_bound in omega arith
