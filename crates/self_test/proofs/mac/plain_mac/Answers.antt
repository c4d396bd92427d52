-- `self_test::mac::plain_mac` meets its contract.
use mathlib.Core.Path.{ap, ◌∙◌}
use Rattle.des.specs.Bits.{bits}
use Rattle.des.specs.Des.{encipher_bits}
use Rattle.self_test.proofs.WordLaws.{macs}
use borrow.Author.Rules.{rules}
use borrow.Author.Rules.{rules}
use Rattle.self_test.proofs.mac.plain_mac.Goals as goal

pub returns : goal.returns
returns c =
    let a = c.args in
    macs a.k1 a.k2 a.k3 a.destination a.m.now c.plain_chain-h.result c.encipher.result (search rules)
    c.plain_chain-h.ensures (c.encipher.ensures ∙ ap (encipher_bits (bits 64 a.k3)) c.decipher.ensures)
