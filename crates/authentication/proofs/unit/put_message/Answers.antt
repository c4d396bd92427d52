-- `authentication::unit::put_message` meets its contract.
use Rattle.authentication.proofs.UnitLaws.{message-put}
use Rattle.authentication.proofs.unit.put_message.Goals as goal

pub returns : goal.returns
returns c =
    let a = c.args in
    message-put a.out.now a.direction c.header.result a.user.now c.copy.new.s c.requires c.header.ensures c.copy.ensures
