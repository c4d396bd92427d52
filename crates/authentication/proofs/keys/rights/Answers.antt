-- `authentication::keys::rights` meets its contract.
use Rattle.authentication.proofs.KeyLaws.{rights_of}
use Rattle.authentication.proofs.keys.rights.Goals as goal

pub returns : goal.returns
returns c = rights_of c.args.a c.args.b
