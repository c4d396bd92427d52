-- `self_test::words::fast_decipher` meets its contract.
use Rattle.des.specs.Bits.{bits}
use Rattle.des.specs.Des.{decipher_bits}
use Rattle.self_test.proofs.words.fast_decipher.Goals as goal

pub returns : goal.returns
returns c =
    let a = c.args in
    let key = bits 64 a.key in
    let x = bits 64 a.x in
    c.leave.ensures.by (decipher_bits key x) (c.decipher_halves.ensures.by key x c.schedule-keys.ensures c.enter.ensures)
