-- `connection_buffer::buffers::joined` meets its contract.
use Rattle.connection_buffer.proofs.BufferLaws.{filled}
use borrow.Author.Rules.{rules}
use Rattle.connection_buffer.proofs.buffers.joined.Goals as goal

pub returns : goal.returns
returns c =
    let a = c.args in
    filled a.front.now a.ra.now a.rb.now a.key.now c.copy.new.s c.copy-2.new.s c.copy-3.new.s c.copy-4.new.s (search rules) (search rules) (search rules) (search rules)
    c.copy.ensures c.copy-2.ensures c.copy-3.ensures c.copy-4.ensures
