-- `command::peers_at` meets its contract.
use Prim.Native.Nat.{◌+◌}
use native.Mathlib.Omega.{arith}
use Rattle.octets.specs.Bytes.{part}
use Rattle.command.proofs.ReadLaws.{peers_read}
use Rattle.command.proofs.peers_at.Goals as goal

pub returns-clause-peers : goal.returns-clause-peers
unfolding part
returns-clause-peers c =
    let a = c.args in
    peers_read a.m.now (a.i + 2) _ _ (omega arith) (omega (arith, c.get16_at-count.ensures))
