-- `self_test::words::triple` meets its contract.
use mathlib.Core.Path.{ap, ◌∙◌}
use Rattle.des.specs.Bits.{bits}
use Rattle.des.specs.Des.{encipher_bits, decipher_bits}
use Rattle.authentication.specs.Keys.{triple}
use Rattle.self_test.proofs.words.triple.Goals as goal

pub returns : goal.returns
unfolding triple
returns c =
    let a = c.args in
    c.encipher-2.ensures ∙ ap (encipher_bits (bits 64 a.k3)) (c.decipher.ensures ∙ ap (decipher_bits (bits 64 a.k2)) c.encipher.ensures)
