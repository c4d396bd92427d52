-- `units::message::au3_message` meets its contract.
use borrow.Author.Rules.{rules}
use Rattle.units.proofs.WriteLaws.{au3-string}
use Rattle.units.proofs.message.au3_message.Goals as goal

pub returns : goal.returns
returns c =
    let a = c.args in
    au3-string a.ra a.rb c.copy.new.s c.copy-2.new.s a.first (search rules) (search rules) c.copy.ensures c.copy-2.ensures
