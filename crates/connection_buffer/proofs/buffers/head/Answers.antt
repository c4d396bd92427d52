-- `connection_buffer::buffers::head` meets its contract.
use Rattle.connection_buffer.proofs.BufferLaws.{head-written}
use Rattle.connection_buffer.proofs.buffers.head.Goals as goal

pub returns : goal.returns
returns c =
    let a = c.args in
    head-written a.state a.role a.own a.peer c.put32.ensures c.put32-2.ensures
