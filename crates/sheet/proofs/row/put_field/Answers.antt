-- `sheet::row::put_field` meets its contract.
use native.Mathlib.Omega.{arith}
use Prim.Native.Nat.{ℕ, ◌<◌, ◌^◌}
use Rattle.std.proofs.Common.{Fits, w32}
use lib.ListN.{take, length-set}
use Rattle.sheet.proofs.RowLaws.{places_are, length-field, field-written}
use Rattle.sheet.proofs.row.put_field.Goals as goal

-- a number of four bytes has ten digits at most
small : (n : ℕ) → Fits w32 n → n < 10 ^ 10
small n h = omega (arith, h.fits)

pub bounds-out-at : goal.bounds-out-at
bounds-out-at c =
    omega (arith, c.requires, length-field c.args.n)

pub copy-requires : goal.copy-requires
copy-requires c = (
  simp length-set (omega (arith, c.requires, length-field c.args.n, places_are 9 c.args.n c.decimal-k.result (small c.args.n c.ranges.n) c.decimal-k.ensures.len)),
  omega (arith, c.decimal-k.ensures.in_bounds.1),
)

pub returns : goal.returns
returns c =
    let a = c.args in
    field-written a.out.now c.copy.new.s (take c.decimal-k.result c.decimal-k.new.out) a.at a.n c.decimal-k.result (small a.n c.ranges.n) c.decimal-k.ensures.len c.decimal-k.ensures.digits c.requires c.copy.ensures
