-- `store::search::serves_at` meets its contract.
use native.Mathlib.Omega.{arith}
use Rattle.store.proofs.SearchLaws.{room}
use Rattle.store.proofs.search.serves_at.Goals as goal

pub overflow_mul-peers_at : goal.overflow_mul-peers_at
overflow_mul-peers_at c = let r = room c.args.lim c.args.s.now c.args.i (λ j. (c.type_inv.s j).fits) c.requires.s_value c.requires.i_bound in omega arith

pub overflow_add-peers_at : goal.overflow_add-peers_at
overflow_add-peers_at c = let r = room c.args.lim c.args.s.now c.args.i (λ j. (c.type_inv.s j).fits) c.requires.s_value c.requires.i_bound in omega arith

pub number_at-first-requires : goal.number_at-first-requires
number_at-first-requires c = let r = room c.args.lim c.args.s.now c.args.i (λ j. (c.type_inv.s j).fits) c.requires.s_value c.requires.i_bound in omega arith
