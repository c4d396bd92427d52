-- The two connections of the bench, and what a line asks of one of them.
-- Assumes nothing.
use Rattle.std.specs.Prelude.{ℕ, true, List, []}
use Rattle.des.specs.Bits.{bits, bytes_of_bits}
use Rattle.table.specs.Steps.{Input, connect_request, connect_response, data_request, disconnect_request, connect_indication, connect_confirmation, disconnect_indication, unit_indication, time_out, idle, step, kind_numbered}
use Rattle.lines.specs.declared.connections.Name.{Name}
use Rattle.lines.specs.declared.connections.Name.TheVariants as TheName
use Rattle.lines.specs.declared.connections.Event.{Event}
use Rattle.lines.specs.declared.connections.Event.TheVariants as TheEvent
use Rattle.lines.specs.declared.connections.Asked.{Asked}
use Rattle.lines.specs.declared.connections.Asked.TheVariants as AskedAs
use Rattle.console.specs.declared.connections.Side.{Side}
use Rattle.console.specs.declared.connections.Sides.{Sides}
use Rattle.console.specs.Lent.{output, bytes_in}

-- the idle connection
abbrev pub at_rest : ℕ → Side
at_rest own = record { own = own; connection = idle }

-- the word that has the bytes of an event, a unit or user data; where it has none, word 5, which no line has
abbrev pub bytes_at : Event → ℕ
bytes_at (TheEvent.Call peer t rb) = 5
bytes_at (TheEvent.Indicate t ra) = 4
bytes_at TheEvent.Confirm = 2
bytes_at (TheEvent.Bring kind) = 3
bytes_at TheEvent.Respond = 5
bytes_at TheEvent.Say = 2
bytes_at (TheEvent.Release reason sub) = 5
bytes_at (TheEvent.Lost reason) = 5
bytes_at TheEvent.End = 2
bytes_at TheEvent.Late = 5

abbrev pub random : ℕ → List ℕ
random x = bytes_of_bits 8 (bits 64 x)

-- an event of set-up: of a side with this own identity, with these bytes, over this store; the application type is acceptable
abbrev pub input_of : Event → ℕ → List ℕ → List ℕ → Input
input_of (TheEvent.Call peer t rb) own bytes store = connect_request true own peer t (random rb) store
input_of (TheEvent.Indicate t ra) own bytes store = connect_indication true own t (random ra) bytes store
input_of TheEvent.Confirm own bytes store = connect_confirmation bytes
input_of (TheEvent.Bring kind) own bytes store = unit_indication (kind_numbered kind) bytes
input_of TheEvent.Respond own bytes store = connect_response
input_of TheEvent.Say own bytes store = data_request bytes
input_of (TheEvent.Release reason sub) own bytes store = disconnect_request reason sub
input_of (TheEvent.Lost reason) own bytes store = disconnect_indication reason []
input_of TheEvent.End own bytes store = disconnect_indication 0 bytes
input_of TheEvent.Late own bytes store = time_out

abbrev pub stepped : Input → Side → Side
stepped i s = record { own = s.own; connection = (step i s.connection output).connection }

abbrev pub brought : Event → List ℕ → List ℕ → Side → Side
brought e text store s = stepped (input_of e s.own (bytes_in text (bytes_at e)) store) s

abbrev pub asked : Asked → List ℕ → List ℕ → Side → Side
asked (AskedAs.Idle own) text store s = at_rest own
asked (AskedAs.Event e) text store s = brought e text store s

-- of the connection of this name; the other is as it was
abbrev pub sides_by : Name → Asked → List ℕ → List ℕ → Sides → Sides
sides_by TheName.A what text store s = record { a = asked what text store s.a; b = s.b }
sides_by TheName.B what text store s = record { a = s.a; b = asked what text store s.b }
