-- `message::written::put_reply` meets its contract.
use mathlib.Core.Path.{refl}
use mathlib.Core.List.{[], ◌∷◌, ◌++◌}
use Prim.Native.Nat.{◌+◌}
use native.Mathlib.Omega.{arith}
use Rattle.octets.specs.Bytes.{be16}
use Rattle.message.specs.Written.{header}
use Rattle.message.proofs.WrittenLaws.{then-bytes, then-byte}
use Rattle.message.proofs.written.put_reply.Goals as goal

pub returns : goal.returns
returns c =
    let a = c.args in
    let d = a.out.now in
    let v = header (23 + a.n) a.peer a.own a.number a.next 11 in
    let e = then-byte d v c.put.new.out 20 refl c.put.ensures a.response (omega arith) in
    then-bytes d (v ++ (a.response ∷ [])) _ 21 refl e (be16 a.n) c.put16.new.s (omega arith) c.put16.ensures
