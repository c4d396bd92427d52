-- `units::header::first_byte` meets its contract.
use Rattle.units.proofs.HeaderLaws.{first-joined}
use Rattle.units.proofs.header.first_byte.Goals as goal

pub returns : goal.returns
returns c = first-joined c.args.ety c.args.mti c.args.df c.requires.0 c.requires.1 c.requires.2
