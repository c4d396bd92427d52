-- `message::written::put_init` meets its contract.
use mathlib.Core.Path.{refl}
use mathlib.Core.List.{[], ◌∷◌, ◌++◌}
use native.Mathlib.Omega.{arith}
use Rattle.message.specs.Written.{header}
use Rattle.message.proofs.WrittenLaws.{then-byte}
use Rattle.message.proofs.written.put_init.Goals as goal

pub returns : goal.returns
returns c =
    let a = c.args in
    let d = a.out.now in
    let v = header 23 a.peer a.own 0 a.start 9 in
    let e1 = then-byte d v c.put.new.out 20 refl c.put.ensures 1 (omega arith) in
    let e2 = then-byte d (v ++ (1 ∷ [])) _ 21 refl e1 2 (omega arith) in
    then-byte d (v ++ (1 ∷ 2 ∷ [])) _ 22 refl e2 255 (omega arith)
