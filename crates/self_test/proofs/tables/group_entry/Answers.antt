-- `self_test::tables::group_entry` meets its contract.
use Rattle.self_test.proofs.EntryLaws.{group-worked}
use Rattle.self_test.proofs.tables.group_entry.Goals as goal

pub returns : goal.returns
returns c =
    group-worked c.args.i c.args.v c.requires.0 c.requires.1 c.choice2.ensures
