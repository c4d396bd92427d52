use Rattle.std.proofs.Common.{◌≡◌, ◌+◌, ◌-◌, arith}
use Rattle.std.proofs.lemmas.Grind.{common_steps}
use Rattle.octets.specs.Bytes.{part, all_zero}
use Rattle.octets.proofs.is_clear.Goals as goal

pub returns : goal.returns
unfolding part all_zero
returns c =
    let n : c.args.i + c.args.n - c.args.i ≡ c.args.n = omega arith in grind (arith, common_steps)
