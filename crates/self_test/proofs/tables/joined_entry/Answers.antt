-- `self_test::tables::joined_entry` meets its contract.
use Rattle.self_test.proofs.EntryLaws.{joined-worked}
use Rattle.self_test.proofs.tables.joined_entry.Goals as goal

pub returns : goal.returns
returns c =
    joined-worked c.args.k c.args.g c.requires.0 c.requires.1 c.select.ensures c.permute_p.ensures c.expand.ensures
