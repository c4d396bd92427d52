-- `console::stores::clear` meets its contract.
use Rattle.std.proofs.Common.{take, arith}
use Rattle.console.proofs.BenchLaws.{front_length, emptied-held}
use Rattle.console.proofs.stores.clear.Goals as goal

pub returns : goal.returns
returns c =
    let n = c.size-n.result in
    emptied-held c.args.large n (take n c.args.store.now) c.empty.new.s _ c.size-n.ensures
    (front_length c.args.large n c.args.store.now c.size-n.ensures (omega arith)) c.empty.ensures.1 c.empty.auto.s
