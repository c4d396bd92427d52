-- `units::put_au2` meets its contract.
use borrow.Author.Rules.{rules}
use Rattle.units.proofs.WriteLaws.{au2-put}
use Rattle.units.proofs.put_au2.Goals as goal

pub returns : goal.returns
returns c =
    let a = c.args in
    au2-put a.out.now c.put_text.new.out c.put_au2_mac.new.out a.key a.ra a.rb a.own a.caller c.type_of.result c.first_byte-first.result c.requires.1
    (search rules) c.type_of.ensures c.first_byte-first.ensures c.put_text.ensures c.put_au2_mac.ensures
