-- `command::addition_at` meets its contract.
use mathlib.Core.Path.{◌≡◌, ap}
use Prim.Native.Nat.{◌+◌, ◌-◌}
use native.Mathlib.Omega.{arith}
use lib.ListN.{take, drop}
use Rattle.octets.specs.Bytes.{get16, part}
use Rattle.command.proofs.ReadLaws.{addition-is}
use Rattle.command.proofs.addition_at.Goals as goal

pub returns : goal.returns
unfolding part
returns c =
    let a = c.args in
    let n : c.count.result ≡ get16 a.m.now (a.i + 37) = omega (arith, c.peers_at-peers.ensures.number, c.count.ensures) in
    let k : a.i + 13 + 24 - (a.i + 13) ≡ 24 = omega arith in
    addition-is a.m.now a.i c.id_at.result c.get32_at.result _ _ c.period_at.result c.count.result
    c.id_at.ensures c.get32_at.ensures (ap (λ x. take x (drop (a.i + 13) a.m.now)) k) c.peers_at-peers.ensures.peers n c.period_at.ensures
