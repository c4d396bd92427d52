-- `des::permutation::choice2` meets its contract: the constant is the printed table.
use mathlib.Core.Path.{refl}
use lib.Dec.{lit≤}
use Rattle.des.specs.Tables.{pc2}
use Rattle.des.proofs.permutation.choice2.Goals as goal

pub permute-requires : goal.permute-requires
permute-requires c = record { names = record { wide = lit≤ tt; entries = refl }; eight = refl; some = lit≤ tt; most = lit≤ tt }

pub returns : goal.returns
unfolding pc2
returns c = c.permute.ensures
