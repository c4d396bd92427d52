use mathlib.Core.Path.{◌≡◌, refl, sym, ap, ◌∙◌}
use Prim.Native.Nat.{suc, ◌<◌}
use native.Mathlib.Omega.{arith}
use native.Mathlib.Numerals.{add-one}
use lib.ListN.{length, length-set}
use borrow.Author.Count.{below_none}
use Rattle.des.specs.Bits.{bits}
use Rattle.des.specs.Tables.{pc2, shifts}
use Rattle.des.specs.Des.{permute, shifted, subkey}
use Rattle.des.proofs.KeyLaws.{keys_step, shifted_step, shifts_fit}
use Rattle.des.proofs.schedule.Goals as goal

pub loop-n-init : goal.loop-n-init
unfolding shifted
loop-n-init c = record { sixteen = refl; halves = c.choice1-cd.ensures.same; made = below_none _ }

pub shift_both-cd-requires : goal.shift_both-cd-requires
unfolding shifts
shift_both-cd-requires c = omega (arith, shifts_fit c.loop-n.n c.loop-n-test.true)

pub loop-n-preserved : goal.loop-n-preserved
unfolding shifts subkey
loop-n-preserved c =
    let n = c.loop-n.n in
    let key = c.args.key in
    let l : n < length c.loop-n.keys = omega arith in
    let next : bits 56 c.shift_both-cd.result ≡ shifted (bits 64 key) (suc n) =
    shifted_step (bits 64 key) n c.loop-n.cd c.shift_both-cd.result c.from.ensures c.loop-n.invariant.halves c.shift_both-cd.ensures.same in
    record {
      sixteen = simp length-set c.loop-n.invariant.sixteen;
      halves = next ∙ ap (shifted (bits 64 key)) (sym (add-one n));
      made = keys_step (bits 64 key) c.loop-n.keys n c.choice2.result l c.loop-n.invariant.made (c.choice2.ensures.same ∙ ap (permute pc2) next);
    }

pub returns : goal.returns
returns c =
    record { each = λ n l. c.loop-n.invariant.made n (omega arith) }
