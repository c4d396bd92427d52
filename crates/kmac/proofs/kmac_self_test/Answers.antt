-- `kmac::kmac_self_test` meets its contract.
use mathlib.Core.Path.{refl}
use Rattle.kmac.proofs.kmac_self_test.Goals as goal

pub returns-then-self_test : goal.returns-then-self_test
returns-then-self_test c = refl

pub returns-else-self_test : goal.returns-else-self_test
returns-else-self_test c = cc
