-- `store::write_empty` meets its contract.
use Rattle.store.proofs.EmptyLaws.{empty-written}
use Rattle.store.proofs.write_empty.Goals as goal

pub returns : goal.returns
returns c =
    let a = c.args in
    empty-written a.lim a.s.now c.clear.new.s c.put_number.new.s c.put_number-2.new.s
    c.put_number-3.new.s c.put_number-4.new.s
    c.requires.s_len c.clear.ensures c.put_number.ensures c.put_number-2.ensures c.put_number-3.ensures c.put_number-4.ensures
