-- `authentication::keys::lefts` meets its contract.
use Rattle.authentication.proofs.KeyLaws.{lefts_of}
use native.Mathlib.Omega.{arith}
use Rattle.authentication.proofs.keys.lefts.Goals as goal

pub returns : goal.returns
returns c = lefts_of c.args.a c.args.b (omega arith) (omega arith)
