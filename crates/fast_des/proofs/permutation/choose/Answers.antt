-- `fast_des::permutation::choose` meets its contract.
use mathlib.Core.Path.{ap, ◌∙◌, subst⁻¹}
use mathlib.Core.List.{List}
use Prim.Native.Nat.{ℕ, ◌+◌, ◌*◌}
use native.Mathlib.Omega.{arith}
use lib.Bits.{bit_xor}
use lib.ListN.{length, get_or}
use Rattle.des.specs.Tables.{pc2}
use Rattle.des.specs.Des.{permute, shift_both}
use Rattle.des.specs.Words.{Holds}
use Rattle.fast_des.proofs.JoinedLaws.{length-pc2_groups}
use Rattle.fast_des.proofs.ChoiceLaws.{after, two_groups, two-chosen}
use Rattle.fast_des.proofs.permutation.choose.Goals as goal

pub bounds-groups-left : goal.bounds-groups-left
bounds-groups-left c = omega (arith, ap length c.groups_table-groups.ensures ∙ length-pc2_groups)

pub bounds-groups-right : goal.bounds-groups-right
bounds-groups-right c = omega (arith, ap length c.groups_table-groups.ensures ∙ length-pc2_groups)

pub returns : goal.returns
returns c =
    let a = c.args in
    let p = c.requires in
    let left = 16 * after a.i a.k + a.c in
    let right = 16 * (7 + after a.i a.k) + a.d in
    subst⁻¹ (λ (g : List ℕ). Holds 48 (bit_xor (get_or g left 0) (get_or g right 0)) (permute pc2 (shift_both (4 * a.k) (two_groups a.i a.c a.d)))) c.groups_table-groups.ensures
    (two-chosen a.i a.k a.c a.d p.0.0 p.0.1 p.1.0 p.1.1)
