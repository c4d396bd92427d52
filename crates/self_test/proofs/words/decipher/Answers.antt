-- `self_test::words::decipher` meets its contract.
use mathlib.Core.Path.{◌∙◌}
use Rattle.des.specs.Bits.{bits}
use Rattle.des.proofs.KeyLaws.{deciphers}
use Rattle.self_test.proofs.words.decipher.Goals as goal

pub returns : goal.returns
returns c =
    let a = c.args in
    c.decipher_word.ensures ∙ deciphers (bits 64 a.key) c.schedule.result (bits 64 a.x) c.schedule.ensures
