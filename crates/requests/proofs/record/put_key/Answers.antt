-- `requests::record::put_key` meets its contract.
use mathlib.Core.Path.{refl}
use mathlib.Core.List.{◌++◌}
use native.Mathlib.Omega.{arith}
use Rattle.octets.specs.Bytes.{be32}
use Rattle.octets.proofs.PartLaws.{part-whole}
use Rattle.requests.proofs.RecordLaws.{write_two}
use Rattle.requests.proofs.record.put_key.Goals as goal

pub returns : goal.returns
returns c =
    let a = c.args in
    let I = be32 a.id.issuer in
    let S = be32 a.id.serial in
    let t = write_two a.s.now a.i I S c.put32.new.s c.put32-2.new.s 4 refl (omega arith) c.put32.ensures c.put32-2.ensures in
    write_two a.s.now a.i (I ++ S) a.kmac.now c.put32-2.new.s c.copy.new.s 8 refl (omega arith) t (rw (part-whole a.kmac.now 24 c.requires.1) at c.copy.ensures)
