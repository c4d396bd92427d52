-- `des::selection::select` meets its contract: the row and the column are the numbers that the bits represent, and each entry of the table is below 16.
use mathlib.Core.Path.{subst⁻¹}
use Prim.Native.Nat.{ℕ}
use native.Mathlib.Omega.{arith}
use Rattle.des.specs.Bits.{bits}
use Rattle.des.specs.Des as Des
use Rattle.des.specs.Tables.{sboxes}
use Rattle.des.specs.Words.{Holds}
use Rattle.des.proofs.TableLaws.{row_number, column-number, selected}
use Rattle.des.proofs.selection.select.Goals as goal

pub overflow_mul-at-2 : goal.overflow_mul-at-2
overflow_mul-at-2 c = omega (arith, row_number c.args.group c.requires.1)

pub overflow_add-at : goal.overflow_add-at
overflow_add-at c = omega (arith, row_number c.args.group c.requires.1)

pub overflow_add-at-2 : goal.overflow_add-at-2
overflow_add-at-2 c = omega (arith, row_number c.args.group c.requires.1, column-number c.args.group)

pub bounds-at : goal.bounds-at
bounds-at c =
    omega (arith, row_number c.args.group c.requires.1, column-number c.args.group)

pub returns : goal.returns
unfolding sboxes
returns c =
    let a = c.args in
    subst⁻¹ (λ (n : ℕ). Holds 4 n (Des.select a.k (bits 6 a.group))) c.from.ensures
    (selected a.k a.group c.requires.0 c.requires.1)
