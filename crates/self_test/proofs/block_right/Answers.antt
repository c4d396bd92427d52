-- `self_test::block_right` meets its contract.
use mathlib.Core.Path.{sym, ◌∙◌}
use borrow.Author.Tests.{eq-eqb}
use Rattle.self_test.proofs.WordLaws.{same_bits}
use native.Mathlib.Omega.{arith}
use Rattle.self_test.proofs.block_right.Goals as goal

pub returns-then-encipher-fast_encipher : goal.returns-then-encipher-fast_encipher
returns-then-encipher-fast_encipher c =
    eq-eqb c.decipher.result c.fast_decipher.result (same_bits (omega arith) (omega arith) (c.decipher.ensures ∙ sym c.fast_decipher.ensures))

pub returns-else-encipher-fast_encipher : goal.returns-else-encipher-fast_encipher
returns-else-encipher-fast_encipher c =
    eq-eqb c.encipher.result c.fast_encipher.result (same_bits (omega arith) (omega arith) (c.encipher.ensures ∙ sym c.fast_encipher.ensures))
