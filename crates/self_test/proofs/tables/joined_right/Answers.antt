-- `self_test::tables::joined_right` meets its contract.
use mathlib.Core.Path.{◌≡◌, ap, ◌∙◌}
use lib.ListN.{length}
use native.Mathlib.Omega.{arith}
use Rattle.fast_des.proofs.JoinedLaws.{length-joined}
use Rattle.self_test.proofs.EntryLaws.{joined_same}
use Rattle.self_test.proofs.tables.joined_right.Goals as goal

pub joined_entry-requires : goal.joined_entry-requires
joined_entry-requires c =
    let long : length c.joined_table-table.result.now ≡ 512 = ap length c.joined_table-table.ensures ∙ length-joined in (omega arith, omega arith)

pub returns-then-entry-joined_entry : goal.returns-then-entry-joined_entry
returns-then-entry-joined_entry c =
    let long : length c.joined_table-table.result.now ≡ 512 = ap length c.joined_table-table.ensures ∙ length-joined in
    absurd (c.if-entry-joined_entry.true (joined_same c.joined_table-table.result.now c.loop-i.i c.joined_table-table.ensures (omega arith) c.joined_entry.ensures))
