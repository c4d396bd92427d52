-- `fast_des::enter` meets its contract.
use Rattle.fast_des.proofs.InsideLaws.{enters}
use Rattle.fast_des.proofs.enter.Goals as goal

pub returns : goal.returns
returns c =
    enters c.args.x c.initial-y.result _ c.initial-y.ensures c.expand.ensures c.expand-2.ensures
