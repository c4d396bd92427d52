-- `des::permutation::permute_p` meets its contract: the constant is the printed table.
use mathlib.Core.Path.{refl}
use lib.Dec.{lit≤}
use Rattle.des.specs.Tables.{p}
use Rattle.des.proofs.permutation.permute_p.Goals as goal

pub permute-requires : goal.permute-requires
permute-requires c = record { names = record { wide = lit≤ tt; entries = refl }; eight = refl; some = lit≤ tt; most = lit≤ tt }

pub returns : goal.returns
unfolding p
returns c = c.permute.ensures
