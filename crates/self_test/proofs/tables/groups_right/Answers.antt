-- `self_test::tables::groups_right` meets its contract.
use mathlib.Core.Path.{◌≡◌, ap, ◌∙◌}
use lib.ListN.{length}
use native.Mathlib.Omega.{arith}
use Rattle.fast_des.proofs.JoinedLaws.{length-pc2_groups}
use Rattle.self_test.proofs.EntryLaws.{group_same}
use Rattle.self_test.proofs.tables.groups_right.Goals as goal

pub group_entry-requires : goal.group_entry-requires
group_entry-requires c =
    let long : length c.groups_table-groups.result.now ≡ 224 = ap length c.groups_table-groups.ensures ∙ length-pc2_groups in (omega arith, omega arith)

pub returns-then-entry-group_entry : goal.returns-then-entry-group_entry
returns-then-entry-group_entry c =
    let long : length c.groups_table-groups.result.now ≡ 224 = ap length c.groups_table-groups.ensures ∙ length-pc2_groups in
    absurd (c.if-entry-group_entry.true (group_same c.groups_table-groups.result.now c.loop-i.i c.groups_table-groups.ensures (omega arith) c.group_entry.ensures))
