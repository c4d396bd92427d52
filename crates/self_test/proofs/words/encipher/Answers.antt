-- `self_test::words::encipher` meets its contract.
use mathlib.Core.Path.{◌∙◌}
use Rattle.des.specs.Bits.{bits}
use Rattle.des.proofs.KeyLaws.{enciphers}
use Rattle.self_test.proofs.words.encipher.Goals as goal

pub returns : goal.returns
returns c =
    let a = c.args in
    c.encipher_word.ensures ∙ enciphers (bits 64 a.key) c.schedule.result (bits 64 a.x) c.schedule.ensures
