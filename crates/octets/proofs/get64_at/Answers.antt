-- `octets::get64_at` meets its contract.
use Rattle.std.proofs.Common.{◌∙◌, arith, rules}
use Rattle.octets.specs.Bytes.{part}
use Rattle.octets.proofs.NumberLaws.{number-8}
use Rattle.octets.proofs.get64_at.Goals as goal

pub returns : goal.returns
unfolding part
returns c =
    let a = c.args in c.from_be_bytes.ensures ∙ number-8 a.s.now a.i c.copy_from_slice.new.self (λ i. omega (arith, c.type_inv.s i)) (search rules)
