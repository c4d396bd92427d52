-- `units::put_sealed` meets its contract.
use Rattle.units.proofs.WriteLaws.{sealed-put}
use Rattle.units.proofs.put_sealed.Goals as goal

pub returns : goal.returns
returns c =
    let a = c.args in
    sealed-put a.out.now c.copy.new.s c.mac-mac.result a.key c.etcs_id.result a.message.now a.first a.destination c.requires
    c.etcs_id.ensures c.mac-mac.ensures c.copy.ensures
