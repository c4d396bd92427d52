-- `requests::peers::replace_peers` meets its contract.
use Rattle.std.proofs.Common.{rules}
use native.Mathlib.Omega.{arith}
use Rattle.requests.proofs.AroundLaws.{around}
use Rattle.requests.proofs.PeersLaws.{peers-written}
use Rattle.requests.proofs.peers.replace_peers.Goals as goal

pub returns : goal.returns
returns c =
    let a = c.args in
    let s = a.s.now in
    let q = c.counts_at-old.result in
    let says = c.counts_at-old.ensures in
    let o = around a.lim s a.i q.keys q.peers q.first q.count (search rules) c.requires.s_value c.requires.i_bound says.keys_are says.peers_are says.first_is says.count_is in
    peers-written a.lim s a.new.bytes.now a.i q.keys q.peers q.first q.count c.count-count.result c.replace.new.s c.put_share.new.s c.renumber.new.s c.put_counts.new.s
    o a.new.whole c.count-count.ensures (omega (arith, c.count-count.ensures, c.requires.bound)) c.replace.ensures c.put_share.ensures c.renumber.ensures c.put_counts.ensures
