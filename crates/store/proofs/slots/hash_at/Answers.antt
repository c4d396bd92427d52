-- `store::slots::hash_at` meets its contract.
use borrow.Author.Rules.{rules}
use Rattle.store.specs.Slots.{hash_of}
use Rattle.store.proofs.slots.hash_at.Goals as goal

pub returns : goal.returns
unfolding hash_of
returns c = search rules
