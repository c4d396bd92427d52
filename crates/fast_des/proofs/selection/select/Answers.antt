-- `fast_des::selection::select` meets its contract.
use mathlib.Core.Path.{ap, ◌∙◌, subst⁻¹}
use mathlib.Core.List.{List}
use Prim.Native.Nat.{ℕ, ◌+◌, ◌-◌, ◌*◌, ◌/◌, ◌^◌}
use native.Mathlib.Omega.{arith}
use lib.Bits.{bit_and, mask_lt}
use lib.ListN.{length, get_or}
use Rattle.des.specs.Tables.{e}
use Rattle.des.specs.Des.{permute}
use Rattle.des.specs.Words.{Holds}
use Rattle.fast_des.specs.Joined.{moved}
use Rattle.fast_des.proofs.JoinedLaws.{length-joined, joined_at}
use Rattle.fast_des.proofs.selection.select.Goals as goal

pub overflow_add-at : goal.overflow_add-at
overflow_add-at c = omega (arith, (mask_lt (c.args.x / 2 ^ (42 - 6 * c.args.k)) 6))

pub offset_bounds-table-at : goal.offset_bounds-table-at
offset_bounds-table-at c = omega (arith, (mask_lt (c.args.x / 2 ^ (42 - 6 * c.args.k)) 6))

pub bounds-table-at : goal.bounds-table-at
bounds-table-at c = omega (arith, (mask_lt (c.args.x / 2 ^ (42 - 6 * c.args.k)) 6), (ap length c.joined_table-table.ensures ∙ length-joined))

pub returns : goal.returns
returns c =
    let k = c.args.k in
    let g = bit_and (c.args.x / 2 ^ (42 - 6 * k)) 63 in
    subst⁻¹ (λ (n : ℕ). Holds 48 n (permute e (moved k g))) (ap (λ (l : List ℕ). get_or l (64 * k + g) 0) c.joined_table-table.ensures) (joined_at k g c.requires (mask_lt (c.args.x / 2 ^ (42 - 6 * k)) 6))
