use mathlib.Core.Path.{◌≡◌, refl, subst}
use Prim.Native.Nat.{ℕ, ◌*◌, ◌-◌, ◌/◌, ◌^◌}
use native.Mathlib.Omega.{arith}
use lib.Bits.{mask_lt}
use lib.Dec.{lit<}
use Rattle.des.specs.Bits.{bits}
use Rattle.des.specs.Des.{selects}
use Rattle.des.specs.Words.{Holds}
use Rattle.des.proofs.TableLaws.{selects-step}
use Rattle.des.proofs.selection.substitute.Goals as goal

pub loop-k-init : goal.loop-k-init
unfolding bits selects
loop-k-init c = record { fits = lit< tt; same = refl }

pub select-requires : goal.select-requires
select-requires c =
    (c.loop-k-test.true, mask_lt (c.args.x / 2 ^ (42 - 6 * c.loop-k.k)) 6)

pub loop-k-preserved : goal.loop-k-preserved
loop-k-preserved c = selects-step c.loop-k.k c.args.x c.loop-k-test.true c.loop-k.invariant c.select.ensures

pub returns : goal.returns
returns c =
    let e : c.loop-k.k ≡ 8 = omega arith in
    subst (λ (n : ℕ). Holds (4 * n) c.loop-k.r (selects n (bits 48 c.args.x))) e c.loop-k.invariant
