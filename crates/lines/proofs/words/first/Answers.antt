-- `lines::words::first` meets its contract.
use Rattle.lines.proofs.WordLaws.{first_found, first_none}
use Rattle.lines.proofs.words.first.Goals as goal

pub returns-in-Some : goal.returns-in-Some
returns-in-Some c = first_found c.args.class c.args.s.now c.args.i c.requires c.in-Some.n c.in-Some.ensures

pub returns-in-None : goal.returns-in-None
returns-in-None c = first_none c.args.class c.args.s.now c.args.i c.requires c.in-None.ensures
