-- `sheet::row::put_bad` meets its contract.
use mathlib.Core.Path.{refl}
use lib.ListN.{length}
use Rattle.sheet.proofs.RowLaws.{bad-written}
use Rattle.sheet.proofs.row.put_bad.Goals as goal

pub returns : goal.returns
returns c =
    let a = c.args in
    bad-written a.out.now c.copy.new.s c.copy-2.new.s a.name.now (length a.name.now) refl c.requires c.copy.ensures c.copy-2.ensures
