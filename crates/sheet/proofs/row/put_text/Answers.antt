-- `sheet::row::put_text` meets its contract.
use mathlib.Core.Path.{refl}
use Rattle.sheet.proofs.RowLaws.{text-written}
use Rattle.sheet.proofs.row.put_text.Goals as goal

pub returns : goal.returns
returns c =
    let a = c.args in
    text-written a.out.now c.copy.new.s a.text.now _ refl c.requires c.copy.ensures
