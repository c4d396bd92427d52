-- The header of a message (000, 5.3.3), and the message types that document 01 tells apart.
-- Assumes nothing.
use Rattle.std.specs.Prelude.{cond, List, ℕ, eqb, get_or}
use Rattle.octets.specs.Bytes.{get16, get32}
use Rattle.message.specs.declared.Command.TheVariants.{Adds, Deletes, Validities, Entities}
use Rattle.message.specs.declared.Task.TheVariants.{Requests, DeleteAll, EndOfUpdate}
use Rattle.message.specs.declared.Kind.{Kind}
use Rattle.message.specs.declared.Kind.TheVariants.{Asks, SessionInit, Other}

-- ---- the fields

abbrev pub header_length : ℕ
header_length = 20

-- Message Length, Interface Version, Receiver ID, Sender ID, Transaction Number, Sequence Number, Message type
abbrev pub message_length : List ℕ → ℕ
message_length m = get32 m 0

abbrev pub version : List ℕ → ℕ
version m = get_or m 4 0

abbrev pub receiver : List ℕ → ℕ
receiver m = get32 m 5

abbrev pub sender : List ℕ → ℕ
sender m = get32 m 9

abbrev pub transaction : List ℕ → ℕ
transaction m = get32 m 13

abbrev pub sequence : List ℕ → ℕ
sequence m = get16 m 17

abbrev pub type_number : List ℕ → ℕ
type_number m = get_or m 19 0

-- ---- the message types (5.3.3)

unfoldable pub kind_of : ℕ → Kind
kind_of t =
    cond (eqb t 0) (Asks (Requests Adds))
    (cond (eqb t 1) (Asks (Requests Deletes))
    (cond (eqb t 2) (Asks DeleteAll)
    (cond (eqb t 3) (Asks (Requests Validities))
    (cond (eqb t 4) (Asks (Requests Entities))
    (cond (eqb t 9) SessionInit
    (cond (eqb t 10) (Asks EndOfUpdate) Other))))))

abbrev pub kind : List ℕ → Kind
kind m = kind_of (type_number m)
