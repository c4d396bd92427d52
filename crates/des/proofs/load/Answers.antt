-- `des::load` meets its contract.
use mathlib.Core.Path.{ap, ◌∙◌}
use native.Mathlib.Omega.{arith}
use Rattle.octets.proofs.PartLaws.{part-whole}
use Rattle.des.specs.Bits.{bits, bits_of_bytes}
use Rattle.des.proofs.ByteLaws.{bits-number}
use lib.ListN.{length}
use mathlib.Core.Path.{◌≡◌}
use borrow.Author.Rules.{rules}
use Rattle.des.proofs.load.Goals as goal

pub returns : goal.returns
returns c =
    let b = c.args.b in
    let eight : length b ≡ 8 = search rules in
    ap (bits 64) c.get64_at.ensures ∙ bits-number 8 b 0 (omega arith) ∙ ap bits_of_bytes (part-whole b 8 eight)
