-- `fast_des::groups_table` meets its contract: the table is what its rule makes, entry by entry.
use mathlib.Core.Path.{refl}
use Rattle.des.specs.Bits.{bits, value, value_from}
use Rattle.des.specs.Tables.{pc2}
use Rattle.des.specs.Des.{permute}
use Rattle.fast_des.specs.Joined.{zeros, placed, pc2_entry, pc2_groups}
use Rattle.fast_des.proofs.groups_table.Goals as goal

pub returns : goal.returns
unfolding pc2_groups pc2_entry pc2 placed zeros permute bits value value_from
returns c = refl
