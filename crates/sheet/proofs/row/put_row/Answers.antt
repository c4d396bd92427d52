-- `sheet::row::put_row` meets its contract.
use native.Mathlib.Omega.{arith}
use mathlib.Core.Path.{refl}
use Prim.Native.Nat.{◌≤◌}
use lib.ListN.{length}
use Rattle.sheet.specs.Row.{fields, numbers_of}
use Rattle.sheet.proofs.RowLaws.{fields-few, row_written}
use Rattle.sheet.proofs.row.put_row.Goals as goal

pub put_fields-end-requires : goal.put_fields-end-requires
put_fields-end-requires c =
    let a = c.args in
    let few : length (fields (numbers_of a.c)) ≤ 66 = fields-few (numbers_of a.c) in
    omega (arith, few, c.requires, c.copy.auto.s)

pub bounds-out-end : goal.bounds-out-end
bounds-out-end c =
    let a = c.args in
    let few : length (fields (numbers_of a.c)) ≤ 66 = fields-few (numbers_of a.c) in
    omega (arith, few, c.requires, c.copy.auto.s, c.put_fields-end.auto.out, c.put_fields-end.ensures.1)

pub overflow_add-result : goal.overflow_add-result
overflow_add-result c =
    let a = c.args in
    let few : length (fields (numbers_of a.c)) ≤ 66 = fields-few (numbers_of a.c) in
    omega (arith, few, c.requires, c.put_fields-end.ensures.1, c.well_formed)

pub returns : goal.returns
returns c =
    let a = c.args in
    row_written a.out.now c.copy.new.s c.put_fields-end.new.out _ a.name.now (numbers_of a.c) a.c (length a.name.now) c.put_fields-end.result refl refl c.requires c.copy.ensures c.put_fields-end.ensures.0 c.put_fields-end.ensures.1 refl
