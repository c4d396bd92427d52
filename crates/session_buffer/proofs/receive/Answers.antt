-- `session_buffer::receive` meets its contract.
use Rattle.session_buffer.proofs.TellLaws.{answer-short}
use Rattle.session_buffer.proofs.receive.Goals as goal

pub told-requires : goal.told-requires
told-requires c =
    let a = c.args in
    answer-short c.load.result a.message.now a.store.now a.out.now c.receive-turn.ensures
