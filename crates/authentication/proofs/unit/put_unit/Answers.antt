-- `authentication::unit::put_unit` meets its contract.
use Rattle.authentication.proofs.UnitLaws.{unit-put}
use Rattle.authentication.proofs.unit.put_unit.Goals as goal

pub returns : goal.returns
returns c =
    let a = c.args in
    unit-put a.key.now a.destination a.direction a.user.now a.out.now c.put_message.new.out c.put_mac.new.out c.requires c.put_message.ensures c.put_mac.ensures
