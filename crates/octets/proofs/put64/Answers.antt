-- `octets::put64` meets its contract.
use Rattle.std.proofs.Common.{arith}
use Rattle.std.proofs.lemmas.Grind.{common_steps}
use Rattle.octets.proofs.NumberLaws.{bytes_8}
use Rattle.octets.proofs.SpliceLaws.{part_written}
use Rattle.octets.proofs.put64.Goals as goal

pub returns : goal.returns
returns c = grind (arith, common_steps, part_written, bytes_8 c.args.v)
