use Rattle.std.proofs.Common.{ap, arith}
use Rattle.store.proofs.SearchLaws.{room}
use Rattle.records.specs.declared.Record.{Record}
use Rattle.console.proofs.BenchLaws.{held_says}
use Rattle.console.proofs.show.records.Goals as goal

pub number_at-n-requires : goal.number_at-n-requires
number_at-n-requires c = let w = (held_says c.args.s.now c.requires).says in omega arith

pub number_at-peer_count-requires : goal.number_at-peer_count-requires
number_at-peer_count-requires c = let w = (held_says c.args.s.now c.requires).says in omega arith

pub record_at-r-requires : goal.record_at-r-requires
record_at-r-requires c =
    let w = (held_says c.args.s.now c.requires).says in
    (omega arith, omega (arith, w.size, w.keys_fit, c.number_at-n.ensures.0))

pub peers-requires : goal.peers-requires
peers-requires c =
    let s = c.args.s.now in
    let h = held_says s c.requires in
    let w = h.says in
    let r = room h.limits s c.loop-i.i (λ j. (c.type_inv.s j).fits) h.in_limits (omega arith) in
    let f = ap (λ (x : Record). x.first) c.record_at-r.ensures in
    let n = ap (λ (x : Record). x.count) c.record_at-r.ensures in
    (omega (arith, f, n, r.inside, r.framed.total_fits, r.framed.peers_fit), omega (arith, w.size), omega (arith, f, n, r.inside, w.size, w.peers_at_lem, r.framed.peers_fit))
