-- `requests::peers::set_peers` meets its contract.
use Rattle.std.proofs.Common.{rules}
use mathlib.Core.Path.{sym, ◌∙◌}
use Prim.Native.Nat.{◌/◌}
use lib.ListN.{length}
use Rattle.octets.proofs.WordLaws.{length-numbers}
use Rattle.requests.specs.Worked.{peer_numbers}
use Rattle.requests.proofs.AroundLaws.{around}
use Rattle.requests.proofs.PeersLaws.{peers_overwritten}
use Rattle.requests.proofs.peers.set_peers.Goals as goal

pub returns-then-old-count : goal.returns-then-old-count
returns-then-old-count c =
    let a = c.args in
    let b = a.new.bytes.now in
    let q = c.counts_at-old.result in
    let says = c.counts_at-old.ensures in
    let o = around a.lim a.s.now a.i q.keys q.peers q.first q.count (search rules) c.requires.s_value c.requires.i_bound says.keys_are says.peers_are says.first_is says.count_is in
    peers_overwritten a.lim a.s.now (peer_numbers a.new) a.i q.keys q.peers q.first q.count c.put_peers.new.s
    o (c.if-old-count.true ∙ c.count.ensures ∙ sym (length-numbers b 0 (length b / 4))) c.put_peers.ensures
