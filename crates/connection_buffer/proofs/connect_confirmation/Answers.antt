-- `connection_buffer::connect_confirmation` meets its contract.
use lib.Dec.{lit≤}
use Rattle.table.specs.Steps.{connect_confirmation}
use Rattle.connection_buffer.proofs.TellLaws.{told-short, tells}
use Rattle.connection_buffer.proofs.connect_confirmation.Goals as goal

pub tell-requires : goal.tell-requires
tell-requires c =
    let a = c.args in
    told-short (connect_confirmation a.unit.now) a.connection.now a.out.now c.load.result c.load.ensures c.confirmed-taken.ensures (lit≤ tt)

pub returns : goal.returns
returns c =
    let a = c.args in
    tells (connect_confirmation a.unit.now) a.connection.now a.out.now c.load.result c.load.ensures c.confirmed-taken.ensures
    c.tell.result c.tell.new.connection a.events.now c.tell.new.events (record { sfits = c.tell.type_inv }) c.tell.ensures.value c.tell.ensures.connection_after c.tell.ensures.events_after
