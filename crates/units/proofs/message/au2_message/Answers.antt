-- `units::message::au2_message` meets its contract.
use borrow.Author.Rules.{rules}
use Rattle.units.proofs.WriteLaws.{au2-string}
use Rattle.units.proofs.message.au2_message.Goals as goal

pub returns : goal.returns
returns c =
    let a = c.args in
    au2-string a.text.now a.rb c.etcs_id-id.result c.copy.new.s c.copy-2.new.s c.copy-3.new.s a.caller c.requires
    (search rules) c.etcs_id-id.ensures c.copy.ensures c.copy-2.ensures c.copy-3.ensures
