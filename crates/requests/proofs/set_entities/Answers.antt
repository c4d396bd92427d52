-- `requests::set_entities` meets its contract.
use Rattle.std.proofs.Common.{sym, ◌/◌, length, rules}
use Rattle.octets.proofs.WordLaws.{length-numbers}
use Rattle.requests.specs.Worked.{peer_numbers}
use Rattle.requests.proofs.AroundLaws.{around}
use Rattle.requests.proofs.ResultLaws.{entities-worked, entities-over, entities-refused, not-held-number}
use Rattle.requests.proofs.set_entities.Goals as goal

pub returns-in_err-i : goal.returns-in_err-i
returns-in_err-i c =
    let a = c.args in
    let e = c.in_err-i.ensures in
    rw (not-held-number c.key_place.result c.in_err-i.field-0.0 c.from_residual.result e.ok_part e.value c.from_residual.ensures.1)
    (λ own. entities-refused a.lim a.s.now a.id.issuer a.id.serial own (search rules) c.requires (rw e.ok_part at (c.key_place.ensures.found a.lim)) (peer_numbers a.peers))

pub returns-then-lim-old : goal.returns-then-lim-old
returns-then-lim-old c =
    let a = c.args in
    let s = a.s.now in
    let b = a.peers.bytes.now in
    let q = c.counts_at-old.result in
    let says = c.counts_at-old.ensures in
    let place = rw c.in_ok-i.ensures.ok_part at (c.key_place.ensures.found a.lim) in
    let counted = rw c.in_ok-i.ensures.ok_part at c.key_place.ensures.counted in
    let o = around a.lim s c.in_ok-i.i q.keys q.peers q.first q.count (search rules) c.requires counted says.keys_are says.peers_are says.first_is says.count_is in
    λ own. entities-over a.lim s a.id.issuer a.id.serial own c.in_ok-i.i place counted q.keys q.peers q.first q.count o (peer_numbers a.peers) (length b / 4)
    (sym (length-numbers b 0 (length b / 4))) (search rules) c.requires (rw c.count.ensures at c.if-lim-old.true)

pub returns : goal.returns
returns c =
    let a = c.args in
    let s = a.s.now in
    let b = a.peers.bytes.now in
    let q = c.counts_at-old.result in
    let says = c.counts_at-old.ensures in
    let place = rw c.in_ok-i.ensures.ok_part at (c.key_place.ensures.found a.lim) in
    let counted = rw c.in_ok-i.ensures.ok_part at c.key_place.ensures.counted in
    let o = around a.lim s c.in_ok-i.i q.keys q.peers q.first q.count (search rules) c.requires counted says.keys_are says.peers_are says.first_is says.count_is in
    λ own. entities-worked a.lim s a.id.issuer a.id.serial own c.in_ok-i.i place counted q.keys q.peers q.first q.count o (peer_numbers a.peers) (length b / 4)
    (sym (length-numbers b 0 (length b / 4))) c.set_peers.new.s (rw c.count.ensures at c.if-lim-old.false) c.set_peers.ensures
