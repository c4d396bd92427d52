-- `octets::copy` meets its contract.
use Rattle.std.proofs.Common.{arith, ◌≡◌, ◌+◌, ◌-◌}
use Rattle.std.proofs.lemmas.Grind.{common_steps}
use Rattle.octets.specs.Bytes.{part}
use Rattle.octets.proofs.SpliceLaws.{part_written}
use Rattle.octets.proofs.copy.Goals as goal

pub returns : goal.returns
unfolding part
returns c =
    let n : c.args.at + c.args.n - c.args.at ≡ c.args.n = omega arith in grind (arith, common_steps, part_written)
