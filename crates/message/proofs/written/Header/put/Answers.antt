-- `message::written::Header::put` meets its contract.
use mathlib.Core.Path.{refl}
use mathlib.Core.List.{[], ◌∷◌, ◌++◌}
use native.Mathlib.Omega.{arith}
use Rattle.octets.specs.Bytes.{be16, be32}
use Rattle.message.proofs.WrittenLaws.{then-bytes, then-byte}
use Rattle.message.proofs.written.Header.put.Goals as goal

pub returns : goal.returns
returns c =
    let h = c.args.self in
    let d = c.args.out.now in
    let v1 = be32 h.length in
    let v2 = v1 ++ (2 ∷ []) in
    let v3 = v2 ++ be32 h.receiver in
    let v4 = v3 ++ be32 h.sender in
    let v5 = v4 ++ be32 h.transaction in
    let v6 = v5 ++ be16 h.sequence in
    let e2 = then-byte d v1 c.put32.new.s 4 refl c.put32.ensures 2 (omega arith) in
    let e3 = then-bytes d v2 _ 5 refl e2 (be32 h.receiver) c.put32-2.new.s (omega arith) c.put32-2.ensures in
    let e4 = then-bytes d v3 _ 9 refl e3 (be32 h.sender) c.put32-3.new.s (omega arith) c.put32-3.ensures in
    let e5 = then-bytes d v4 _ 13 refl e4 (be32 h.transaction) c.put32-4.new.s (omega arith) c.put32-4.ensures in
    let e6 = then-bytes d v5 _ 17 refl e5 (be16 h.sequence) c.put16.new.s (omega arith) c.put16.ensures in
    then-byte d v6 c.put16.new.s 19 refl e6 h.kind (omega arith)
