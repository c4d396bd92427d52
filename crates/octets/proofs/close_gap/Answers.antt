-- `octets::close_gap` meets its contract.
use Rattle.octets.proofs.SpliceLaws.{closed_is}
use Rattle.octets.proofs.close_gap.Goals as goal

pub returns : goal.returns
returns c =
    closed_is c.args.s.now c.args.i c.args.gap c.args.n c.move_left.new.s c.clear.new.s c.requires c.move_left.ensures c.clear.ensures
