-- `fast_des::leave` meets its contract.
use Rattle.fast_des.proofs.InsideLaws.{leaves}
use Rattle.fast_des.proofs.leave.Goals as goal

pub returns : goal.returns
returns c =
    leaves c.args.h c.narrow.result c.narrow-2.result c.inverse_initial.result c.narrow.ensures c.narrow-2.ensures c.inverse_initial.ensures
