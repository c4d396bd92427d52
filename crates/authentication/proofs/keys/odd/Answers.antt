-- `authentication::keys::odd` meets its contract.
use Rattle.authentication.proofs.KeyLaws.{odd_of}
use native.Mathlib.Omega.{arith}
use Rattle.authentication.proofs.keys.odd.Goals as goal

pub returns : goal.returns
returns c = odd_of c.args.b (omega arith)
