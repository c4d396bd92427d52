-- `des::iteration::exchange` meets its contract.
use Rattle.des.proofs.TableLaws.{exchanged}
use Rattle.des.proofs.iteration.exchange.Goals as goal

pub returns : goal.returns
returns c = exchanged c.args.s c.ranges.s.fits
