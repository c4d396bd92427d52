-- `des::iteration::cipher_function` meets its contract.
use mathlib.Core.Path.{ap, ◌∙◌}
use mathlib.Core.List.{List}
use Prim.Native.Nat.{ℕ}
use Rattle.des.specs.Bits.{bits, xor_bits}
use Rattle.des.specs.Tables.{p}
use Rattle.des.specs.Des.{permute, selects, cipher_function}
use Rattle.des.proofs.BitLaws.{xor_bits_lem}
use Rattle.des.proofs.WordLaws.{recast}
use Rattle.des.proofs.iteration.cipher_function.Goals as goal

pub returns : goal.returns
unfolding cipher_function
returns c =
    let k = c.args.k in
    let x = c.expand in
    recast c.permute_p.ensures
    (ap (permute p)
    (c.substitute.ensures.same ∙ ap (selects 8) (xor_bits_lem 48 x.result k ∙ ap (λ (l : List ℕ). xor_bits l (bits 48 k)) x.ensures.same)))
