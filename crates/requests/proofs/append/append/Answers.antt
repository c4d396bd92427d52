-- `requests::append::append` meets its contract.
use Rattle.std.proofs.Common.{rules}
use Rattle.requests.proofs.AddLaws.{added-written}
use Rattle.requests.proofs.append.append.Goals as goal

pub returns : goal.returns
returns c =
    let a = c.args in
    added-written a.lim a.s.now a.new c.number_at-n.result c.number_at-p.result c.put_record.new.s c.put_peers.new.s c.put_counts.new.s
    (search rules) c.requires.s_value c.requires.s_bound.0 c.requires.s_bound.1 c.number_at-n.ensures.0 c.number_at-p.ensures.0 c.put_record.ensures
    c.put_peers.ensures (rw c.count.ensures at c.put_counts.ensures)
