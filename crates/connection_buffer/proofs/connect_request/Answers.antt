-- `connection_buffer::connect_request` meets its contract.
use Prim.Native.Nat.{◌≤◌}
use native.Mathlib.Omega.{arith}
use lib.ListN.{length}
use Rattle.octets.specs.Bytes.{nonzero}
use Rattle.table.specs.Steps.{connect_request}
use Rattle.connection_buffer.proofs.TellLaws.{told-short, tells}
use Rattle.connection_buffer.proofs.connect_request.Goals as goal

pub tell-requires : goal.tell-requires
tell-requires c =
    let a = c.args in
    let most : length a.rb ≤ 8 = omega arith in
    told-short (connect_request (nonzero a.acceptable) a.own a.peer a.t a.rb a.store.now) a.connection.now a.out.now c.load-before.result c.load-before.ensures c.request-taken.ensures most

pub returns : goal.returns
returns c =
    let a = c.args in
    tells (connect_request (nonzero a.acceptable) a.own a.peer a.t a.rb a.store.now) a.connection.now a.out.now c.load-before.result c.load-before.ensures c.request-taken.ensures
    c.tell.result c.tell.new.connection a.events.now c.tell.new.events (record { sfits = c.tell.type_inv }) c.tell.ensures.value c.tell.ensures.connection_after c.tell.ensures.events_after
