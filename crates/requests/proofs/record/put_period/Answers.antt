-- `requests::record::put_period` meets its contract.
use mathlib.Core.Path.{refl}
use native.Mathlib.Omega.{arith}
use Rattle.octets.specs.Bytes.{be32}
use Rattle.requests.proofs.RecordLaws.{write_two}
use Rattle.requests.proofs.record.put_period.Goals as goal

pub returns : goal.returns
returns c =
    let a = c.args in
    write_two a.s.now a.i (be32 a.period.start) (be32 a.period.end) c.put32.new.s c.put32-2.new.s 4 refl (omega arith) c.put32.ensures c.put32-2.ensures
