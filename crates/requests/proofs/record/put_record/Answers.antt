-- `requests::record::put_record` meets its contract.
use Rattle.requests.proofs.RecordLaws.{record_written}
use Rattle.requests.proofs.record.put_record.Goals as goal

pub returns : goal.returns
returns c =
    let a = c.args in
    record_written a.s.now a.i a.p a.new c.put_key.new.s c.put_period.new.s c.put_share.new.s
    c.requires a.new.kmac_long c.put_key.ensures c.put_period.ensures (rw c.count.ensures at c.put_share.ensures)
