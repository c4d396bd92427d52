-- `units::put_text` meets its contract.
use borrow.Author.Rules.{rules}
use Rattle.units.proofs.WriteLaws.{text-put}
use Rattle.units.proofs.put_text.Goals as goal

pub returns : goal.returns
returns c =
    let a = c.args in
    text-put a.out.now c.copy.new.s c.copy-2.new.s c.etcs_id-id.result a.random a.first a.own c.requires (search rules)
    c.etcs_id-id.ensures c.copy.ensures c.copy-2.ensures
