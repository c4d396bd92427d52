-- `octets::open_gap` meets its contract.
use Rattle.std.proofs.Common.{◌+◌, ◌∙◌, refl}
use Rattle.octets.specs.Bytes.{opened}
use Rattle.octets.proofs.SpliceLaws.{copy_within-splice}
use native.Mathlib.Omega.{arith}
use Rattle.octets.proofs.open_gap.Goals as goal

pub returns : goal.returns
unfolding opened
returns c = let a = c.args in c.copy_within.ensures.after ∙ copy_within-splice a.s.now a.i (a.i + a.n) (a.i + a.gap) a.n refl (omega arith)
