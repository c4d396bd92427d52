-- `des::iteration::round` meets its contract.
use Rattle.des.proofs.TableLaws.{rounded}
use Rattle.des.proofs.iteration.round.Goals as goal

pub returns : goal.returns
returns c =
    rounded c.args.lr c.args.k c.cipher_function.result c.ranges.lr.fits c.cipher_function.ensures
