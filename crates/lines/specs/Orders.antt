-- What a line asks: its command, the fields that follow, and what is wrong where it is not read.
-- Assumes nothing.
use Rattle.std.specs.Prelude.{Bool, not, List, [], ◌∷◌, Option, Some, None, Result, Ok, Err, ℕ, ◌+◌, ◌==◌, nat_lt, length, get_or, codes, if◌then◌else◌}
use Rattle.std.specs.List.{find}
use Rattle.std.specs.Str.{bytes_eq}
use Rattle.lines.specs.Words.{word}
use Rattle.lines.specs.Fields.{◌>>=◌, hex_field, decimal_field, bytes_field}
use Rattle.lines.specs.Connections.{name_field, verb_fields, verb_text, asked_of}
use Rattle.lines.specs.declared.orders.Command.{Command}
use Rattle.lines.specs.declared.orders.Command.TheVariants as TheCommand
use Rattle.lines.specs.declared.fields.Fault.{Fault}
use Rattle.lines.specs.declared.fields.Fault.TheVariants as TheFault
use Rattle.lines.specs.declared.connections.Verb.{Verb}
use Rattle.lines.specs.declared.connections.Verb.TheVariants as TheVerb
use Rattle.lines.specs.declared.orders.Route.{Route}
use Rattle.lines.specs.declared.orders.Order.{Order}
use Rattle.lines.specs.declared.orders.Order.TheVariants as TheOrder

-- ---- lines with fields

abbrev pub begin_order : List ℕ → Result Order Fault
begin_order s = do
  own ← hex_field (word s 1) 8
  peer ← hex_field (word s 2) 8
  n ← decimal_field (word s 3) 0 65535
  Ok (TheOrder.Begin own peer n)

abbrev pub search_order : List ℕ → Result Order Fault
search_order s = do
  peer ← hex_field (word s 1) 8
  t ← hex_field (word s 2) 8
  Ok (TheOrder.Search peer t)

abbrev pub keys_order : List ℕ → Result Order Fault
keys_order s = do
  place ← decimal_field (word s 1) 0 65535
  ra ← hex_field (word s 2) 16
  rb ← hex_field (word s 3) 16
  Ok (TheOrder.Keys place ra rb)

-- 1 or 2
abbrev pub edition_order : List ℕ → Result Order Fault
edition_order s = do
  n ← decimal_field (word s 1) 1 2
  Ok (TheOrder.Edition (n == 2))

-- the destination and the direction of a unit; behind them its bytes or its user data
abbrev pub unit_field : List ℕ → Result Route Fault
unit_field s = do
  destination ← hex_field (word s 1) 6
  direction ← decimal_field (word s 2) 0 1
  n ← bytes_field (word s 3)
  Ok (record { destination = destination; direction = not (direction == 0) })

abbrev pub unit_order : (Route → Order) → List ℕ → Result Order Fault
unit_order o s = do
  route ← unit_field s
  Ok (o route)

-- what is asked of the connection that word 1 names
abbrev pub connection_order : Verb → List ℕ → Result Order Fault
connection_order v s = do
  name ← name_field (word s 1)
  asked ← asked_of v s
  Ok (TheOrder.Connection name asked)

-- bytes alone
abbrev pub bytes_order : Order → List ℕ → Result Order Fault
bytes_order o s = do
  n ← bytes_field (word s 1)
  Ok o

abbrev pub fields_order : Command → List ℕ → Result Order Fault
fields_order TheCommand.Begin s = begin_order s
fields_order TheCommand.Message s = bytes_order TheOrder.Message s
fields_order TheCommand.Search s = search_order s
fields_order TheCommand.Keys s = keys_order s
fields_order TheCommand.Build s = unit_order TheOrder.Build s
fields_order TheCommand.Check s = unit_order TheOrder.Check s
fields_order (TheCommand.Connection v) s = connection_order v s
fields_order TheCommand.Store s = bytes_order TheOrder.Store s
fields_order TheCommand.Edition s = edition_order s
fields_order TheCommand.Convert s = Ok TheOrder.Convert
fields_order TheCommand.Show s = Ok TheOrder.Show
fields_order TheCommand.Empty s = Ok TheOrder.Empty
fields_order TheCommand.Help s = Ok TheOrder.Help

-- ---- commands

abbrev pub text_of : Command → List ℕ
text_of TheCommand.Begin = codes "begin"
text_of TheCommand.Message = codes "message"
text_of TheCommand.Search = codes "search"
text_of TheCommand.Keys = codes "keys"
text_of TheCommand.Build = codes "build"
text_of TheCommand.Check = codes "check"
text_of (TheCommand.Connection v) = verb_text v
text_of TheCommand.Store = codes "store"
text_of TheCommand.Edition = codes "edition"
text_of TheCommand.Convert = codes "convert"
text_of TheCommand.Show = codes "show"
text_of TheCommand.Empty = codes "empty"
text_of TheCommand.Help = codes "help"

-- all, in the order in which help lists them
abbrev pub commands : List Command
commands =
    TheCommand.Begin ∷ TheCommand.Message ∷ TheCommand.Search ∷ TheCommand.Keys ∷ TheCommand.Build ∷ TheCommand.Check
    ∷ TheCommand.Connection TheVerb.Connection ∷ TheCommand.Connection TheVerb.Call ∷ TheCommand.Connection TheVerb.Indicate
    ∷ TheCommand.Connection TheVerb.Confirm ∷ TheCommand.Connection TheVerb.Bring ∷ TheCommand.Connection TheVerb.Respond
    ∷ TheCommand.Connection TheVerb.Say ∷ TheCommand.Connection TheVerb.Release ∷ TheCommand.Connection TheVerb.Lost
    ∷ TheCommand.Connection TheVerb.End ∷ TheCommand.Connection TheVerb.Late
    ∷ TheCommand.Store ∷ TheCommand.Edition ∷ TheCommand.Convert ∷ TheCommand.Show ∷ TheCommand.Empty ∷ TheCommand.Help ∷ []

-- the command whose text is the word
unfoldable pub command_of : List ℕ → Option Command
command_of w = find (λ c. bytes_eq (text_of c) w) commands

-- how many words follow a command
abbrev pub field_count : Command → ℕ
field_count TheCommand.Begin = 3
field_count TheCommand.Message = 1
field_count TheCommand.Search = 2
field_count TheCommand.Keys = 3
field_count TheCommand.Build = 3
field_count TheCommand.Check = 3
field_count (TheCommand.Connection v) = verb_fields v
field_count TheCommand.Store = 1
field_count TheCommand.Edition = 1
field_count TheCommand.Convert = 0
field_count TheCommand.Show = 0
field_count TheCommand.Empty = 0
field_count TheCommand.Help = 0

-- a line has a word k
abbrev pub has_word : List ℕ → ℕ → Bool
has_word s k = nat_lt 0 (length (word s k))

-- a command with as many words as it wants
unfoldable pub counted_order : Command → List ℕ → Result Order Fault
counted_order c s =
    if has_word s (field_count c) then (if has_word s (field_count c + 1) then Err TheFault.TooManyWords else fields_order c s)
    else Err TheFault.TooFewWords

-- what a command asks; where its fields are not read, why
abbrev pub or_bad : Command → Result Order Fault → Order
or_bad c (Ok o) = o
or_bad c (Err f) = TheOrder.Bad f c

abbrev pub command_order : Command → List ℕ → Order
command_order c s = or_bad c (counted_order c s)

abbrev pub named_order : Option Command → List ℕ → Order
named_order (Some c) s = command_order c s
named_order None s = TheOrder.Unknown

-- what a line asks: a line that starts with # is a note, and one with no word asks nothing
unfoldable pub order_of : List ℕ → Order
order_of s =
    if get_or s 0 0 == 35 then TheOrder.Note
    else (if has_word s 0 then named_order (command_of (word s 0)) s else TheOrder.Nothing)
