-- `requests::record::put_share` meets its contract.
use mathlib.Core.Path.{refl}
use native.Mathlib.Omega.{arith}
use Rattle.octets.specs.Bytes.{be16}
use Rattle.requests.proofs.RecordLaws.{write_two}
use Rattle.requests.proofs.record.put_share.Goals as goal

pub returns : goal.returns
returns c =
    let a = c.args in
    write_two a.s.now a.i (be16 a.first) (be16 a.count) c.put_number.new.s c.put_number-2.new.s 2 refl
    (omega arith) c.put_number.ensures c.put_number-2.ensures
