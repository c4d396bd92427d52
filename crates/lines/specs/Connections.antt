-- What a line asks of a connection: its name, and the fields behind it.
-- Assumes nothing.
use Rattle.std.specs.Prelude.{List, Result, Ok, Err, ℕ, codes, if◌then◌else◌}
use Rattle.std.specs.Str.{bytes_eq}
use Rattle.lines.specs.Words.{word}
use Rattle.lines.specs.Fields.{◌>>=◌, hex_field, decimal_field, bytes_field}
use Rattle.lines.specs.declared.fields.Fault.{Fault}
use Rattle.lines.specs.declared.fields.Fault.TheVariants as TheFault
use Rattle.lines.specs.declared.connections.Name.{Name}
use Rattle.lines.specs.declared.connections.Name.TheVariants as TheName
use Rattle.lines.specs.declared.connections.Verb.{Verb}
use Rattle.lines.specs.declared.connections.Verb.TheVariants as TheVerb
use Rattle.lines.specs.declared.connections.Event.{Event}
use Rattle.lines.specs.declared.connections.Event.TheVariants as TheEvent
use Rattle.lines.specs.declared.connections.Asked.{Asked}
use Rattle.lines.specs.declared.connections.Asked.TheVariants as AskedAs

unfoldable pub name_field : List ℕ → Result Name Fault
name_field w = if bytes_eq w (codes "a") then Ok TheName.A else (if bytes_eq w (codes "b") then Ok TheName.B else Err TheFault.NoName)

abbrev pub verb_text : Verb → List ℕ
verb_text TheVerb.Connection = codes "connection"
verb_text TheVerb.Call = codes "call"
verb_text TheVerb.Indicate = codes "indicate"
verb_text TheVerb.Confirm = codes "confirm"
verb_text TheVerb.Bring = codes "bring"
verb_text TheVerb.Respond = codes "respond"
verb_text TheVerb.Say = codes "say"
verb_text TheVerb.Release = codes "release"
verb_text TheVerb.Lost = codes "lost"
verb_text TheVerb.End = codes "end"
verb_text TheVerb.Late = codes "late"

-- how many words follow each
abbrev pub verb_fields : Verb → ℕ
verb_fields TheVerb.Connection = 2
verb_fields TheVerb.Call = 4
verb_fields TheVerb.Indicate = 4
verb_fields TheVerb.Confirm = 2
verb_fields TheVerb.Bring = 3
verb_fields TheVerb.Respond = 1
verb_fields TheVerb.Say = 2
verb_fields TheVerb.Release = 3
verb_fields TheVerb.Lost = 2
verb_fields TheVerb.End = 2
verb_fields TheVerb.Late = 1

abbrev pub asks : Event → Result Asked Fault
asks e = Ok (AskedAs.Event e)

-- an event with bytes, two hex digits for each, in word k
abbrev pub bytes_asked : List ℕ → ℕ → Event → Result Asked Fault
bytes_asked s k e = do
  n ← bytes_field (word s k)
  asks e

-- behind the name: an identity; the peer, T and RB; T, RA and a unit; the kind of a unit, and the unit; the reason and the sub-reason
abbrev pub asked_of : Verb → List ℕ → Result Asked Fault
asked_of TheVerb.Connection s = do
  own ← hex_field (word s 2) 8
  Ok (AskedAs.Idle own)
asked_of TheVerb.Call s = do
  peer ← hex_field (word s 2) 8
  t ← hex_field (word s 3) 8
  rb ← hex_field (word s 4) 16
  asks (TheEvent.Call peer t rb)
asked_of TheVerb.Indicate s = do
  t ← hex_field (word s 2) 8
  ra ← hex_field (word s 3) 16
  bytes_asked s 4 (TheEvent.Indicate t ra)
asked_of TheVerb.Confirm s = bytes_asked s 2 TheEvent.Confirm
asked_of TheVerb.Bring s = do
  kind ← decimal_field (word s 2) 1 3
  bytes_asked s 3 (TheEvent.Bring kind)
asked_of TheVerb.Respond s = asks TheEvent.Respond
asked_of TheVerb.Say s = bytes_asked s 2 TheEvent.Say
asked_of TheVerb.Release s = do
  reason ← decimal_field (word s 2) 0 255
  sub ← decimal_field (word s 3) 0 255
  asks (TheEvent.Release reason sub)
asked_of TheVerb.Lost s = do
  reason ← decimal_field (word s 2) 0 255
  asks (TheEvent.Lost reason)
asked_of TheVerb.End s = bytes_asked s 2 TheEvent.End
asked_of TheVerb.Late s = asks TheEvent.Late
