-- `units::put_au2_mac` meets its contract.
use Rattle.units.proofs.WriteLaws.{au2-sealed}
use Rattle.units.proofs.put_au2_mac.Goals as goal

pub returns : goal.returns
returns c =
    let a = c.args in
    au2-sealed a.out.now c.copy.new.s c.mac-mac.result a.key c.etcs_id.result c.au2_message-m.result a.rb a.caller c.etcs_id.ensures c.au2_message-m.ensures
    c.mac-mac.ensures c.copy.ensures
