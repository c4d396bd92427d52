-- `fast_des::joined_table` meets its contract: the table is what its rule makes, entry by entry.
use mathlib.Core.Path.{refl}
use Rattle.des.specs.Bits.{bits, value, value_from}
use Rattle.des.specs.Tables.{e, p, sboxes}
use Rattle.des.specs.Des.{permute, row, column, select}
use Rattle.fast_des.specs.Joined.{zeros, placed, moved, joined_entry, joined}
use Rattle.fast_des.proofs.joined_table.Goals as goal

pub returns : goal.returns
unfolding joined joined_entry moved select row column sboxes e p placed zeros permute bits value value_from
returns c = refl
