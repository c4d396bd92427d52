-- `self_test::mac::fast_cbc_mac` meets its contract.
use mathlib.Core.Path.{ap, ◌∙◌}
use Rattle.des.specs.Bits.{bits}
use Rattle.des.specs.Des.{encipher_bits, decipher_bits}
use Rattle.authentication.specs.Keys.{triple}
use Rattle.self_test.proofs.WordLaws.{chains}
use Rattle.self_test.proofs.mac.fast_cbc_mac.Goals as goal

pub returns : goal.returns
unfolding triple
returns c =
    let a = c.args in
    chains a.k1 a.k2 a.k3 a.x a.y a.z c.fast_encipher-h.result c.fast_encipher-i.result c.fast_encipher.result
    c.fast_encipher-h.ensures c.fast_encipher-i.ensures
    (c.fast_encipher.ensures ∙ ap (encipher_bits (bits 64 a.k3)) (c.fast_decipher-d.ensures ∙ ap (decipher_bits (bits 64 a.k2)) c.fast_encipher-j.ensures))
