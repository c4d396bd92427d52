-- `connection_buffer::unit_indication` meets its contract.
use lib.Dec.{lit≤}
use Rattle.table.specs.Steps.{unit_indication}
use Rattle.table.specs.Steps.{kind_numbered}
use Rattle.connection_buffer.proofs.TellLaws.{named, told-short, tells}
use Rattle.connection_buffer.proofs.unit_indication.Goals as goal

pub tell-requires : goal.tell-requires
tell-requires c =
    let a = c.args in
    told-short (unit_indication (kind_numbered a.kind) a.unit.now) a.connection.now a.out.now c.load.result c.load.ensures (named a.kind a.unit.now a.out.now c.load.result c.kind_numbered.ensures c.unit-taken.ensures) (lit≤ tt)

pub returns : goal.returns
returns c =
    let a = c.args in
    tells (unit_indication (kind_numbered a.kind) a.unit.now) a.connection.now a.out.now c.load.result c.load.ensures (named a.kind a.unit.now a.out.now c.load.result c.kind_numbered.ensures c.unit-taken.ensures)
    c.tell.result c.tell.new.connection a.events.now c.tell.new.events (record { sfits = c.tell.type_inv }) c.tell.ensures.value c.tell.ensures.connection_after c.tell.ensures.events_after
