-- `fast_des::permutation::choices` meets its contract.
use mathlib.Core.Path.{◌≡◌}
use native.Mathlib.Omega.{arith}
use Rattle.fast_des.proofs.ChoiceLaws.{chosen-none, chosen-step, chosen-end}
use Rattle.fast_des.proofs.permutation.choices.Goals as goal

pub loop-i-init : goal.loop-i-init
loop-i-init c = chosen-none c.args.x

pub loop-i-preserved : goal.loop-i-preserved
loop-i-preserved c =
    let x = c.args.x in
    let i = c.loop-i.i in
    let h = c.loop-i-test.true in
    let v = c.loop-i.invariant in (
      chosen-step 0 i x h v.0 c.choose-none.ensures,
      chosen-step 4 i x h v.1 c.choose-four.ensures,
      chosen-step 8 i x h v.2 c.choose-eight.ensures,
      chosen-step 12 i x h v.3 c.choose-twelve.ensures,
    )

pub returns : goal.returns
returns c =
    let x = c.args.x in
    let e : c.loop-i.i ≡ 7 = omega arith in
    let v = c.loop-i.invariant in
    (chosen-end 0 x e v.0, chosen-end 4 x e v.1, chosen-end 8 x e v.2, chosen-end 12 x e v.3)
