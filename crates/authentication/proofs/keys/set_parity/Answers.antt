-- `authentication::keys::set_parity` meets its contract.
use Rattle.std.proofs.Common.{rules}
use Rattle.authentication.proofs.KeyLaws.{parity_turn}
use Rattle.authentication.proofs.keys.set_parity.Goals as goal

pub loop-b-preserved : goal.loop-b-preserved
loop-b-preserved c = parity_turn c.args.d c.loop-b.b-items c.loop-b.b-index c.odd.result (search rules) c.odd.ensures c.loop-b.invariant
