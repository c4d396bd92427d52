-- `des::permutation::expand` meets its contract: the constant is the printed table.
use mathlib.Core.Path.{refl}
use lib.Dec.{lit≤}
use Rattle.des.specs.Tables.{e}
use Rattle.des.proofs.permutation.expand.Goals as goal

pub permute-requires : goal.permute-requires
permute-requires c = record { names = record { wide = lit≤ tt; entries = refl }; eight = refl; some = lit≤ tt; most = lit≤ tt }

pub returns : goal.returns
unfolding e
returns c = c.permute.ensures
