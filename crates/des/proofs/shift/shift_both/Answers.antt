-- `des::shift::shift_both` meets its contract.
use Rattle.des.proofs.TableLaws.{shifted-both}
use Rattle.des.proofs.shift.shift_both.Goals as goal

pub returns : goal.returns
returns c = shifted-both c.args.n c.args.cd c.rotate28.ensures c.rotate28-2.ensures
