-- What a line leaves at the bench: the session, the store, the connections, and the line that is read.
-- Assumes nothing.
use Rattle.std.specs.Prelude.{◌≡◌, ℕ, ◌+◌, ◌%◌, Bool, true, false, not, if◌then◌else◌, Option, Some, None, List, [], length, take, replicate, ◌==◌, nat_le, nat_lt}
use Rattle.session.specs.declared.Session.{Session}
use Rattle.session.specs.Sessions.{begin}
use Rattle.session.specs.Rules.{Outcome, receive}
use Rattle.runs.specs.Calls.{session_of}
use Rattle.octets.specs.Bytes.{splice}
use Rattle.store.specs.declared.Limits.{Limits}
use Rattle.store.specs.Layout.{total, edition1, edition2, edition_of}
use Rattle.store.specs.Store.{encode}
use Rattle.refusal.specs.House.{Answer, house, gives, unless_refused}
use Rattle.convert.specs.Convert.{answered, converted}
use Rattle.lines.specs.Orders.{order_of}
use Rattle.lines.specs.declared.orders.Order.{Order}
use Rattle.lines.specs.declared.orders.Order.TheVariants as TheOrder
use Rattle.console.specs.declared.bench.Bench.{Bench}
use Rattle.console.specs.declared.connections.Sides.{Sides}
use Rattle.console.specs.Units.{sound_kmac, keys_by}
use Rattle.console.specs.Lent.{output, bytes_in}
use Rattle.console.specs.Connections.{at_rest, sides_by}

-- before the first line: a closed session, edition 1, no session keys, and both connections idle
abbrev pub at_start : Bench
at_start =
    record {
      session = record { state = 0; own = 0; peer = 0; next = 0; expected = 0; remembered = false; transaction = 0 };
      large = false;
      keys = None;
      sides = record { a = at_rest 0; b = at_rest 0 };
      line = 1;
      filled = 0;
    }

-- ---- the store that is held

-- the edition, and the length of its stores
abbrev pub limits_of : Bool → Limits
limits_of false = edition1
limits_of true = edition2

abbrev pub size_of : Bool → ℕ
size_of large = total (limits_of large)

-- the store at the front of the bench's buffer
abbrev pub store_of : Bool → List ℕ → List ℕ
store_of large s = take (size_of large) s

abbrev pub empty_of : Bool → List ℕ
empty_of large = encode (limits_of large) []

-- the store that a line brings, where an edition has its length
abbrev pub taken_in : Option Limits → List ℕ → List ℕ → List ℕ
taken_in (Some L) new old = new
taken_in None new old = old

abbrev pub store_in : List ℕ → List ℕ → List ℕ
store_in text old = taken_in (edition_of (length (bytes_in text 1))) (bytes_in text 1) old

-- and whether edition 2 is held then
abbrev pub large_by : Option Limits → ℕ → Bool → Bool
large_by (Some L) n large = n == total edition2
large_by None n large = large

abbrev pub large_in : List ℕ → Bool → Bool
large_in text large = large_by (edition_of (length (bytes_in text 1))) (length (bytes_in text 1)) large

-- the store that is held made one of the other edition: what is answered with a target of its length, of which only that is looked at
abbrev pub target_of : Bool → List ℕ
target_of large = replicate (size_of (not large)) 0

abbrev pub conversion : Bool → List ℕ → Answer
conversion large s = answered (limits_of large) (limits_of (not large)) s (target_of large)

-- whether edition 2 is held then, and the store; a refusal leaves both
abbrev pub large_then : Answer → Bool → Bool
large_then (gives n) large = not large
large_then (house n) large = large

abbrev pub store_then : Bool → List ℕ → List ℕ
store_then large s = unless_refused (conversion large s) (converted (limits_of large) (limits_of (not large)) s (target_of large)) s

-- what the message in a line does to the store that is held
abbrev pub received : Session → List ℕ → Bool → List ℕ → Outcome
received session text large s = receive session (bytes_in text 1) (store_of large s) output

-- ---- the line that is read

-- more bytes where they fit; else the line is too long, which its length says
abbrev pub filled_by : ℕ → ℕ → ℕ → ℕ
filled_by room n k = if nat_le (n + k) room then n + k else (if nat_lt room n then n else room + 1)

abbrev pub line_by : List ℕ → ℕ → List ℕ → List ℕ
line_by line n more = if nat_le (n + length more) (length line) then splice line n more else line

abbrev pub with_filled : Bench → ℕ → Bench
with_filled b n = record b { filled = n }

-- the next line, from its start
abbrev pub next_line : Bench → Bench
next_line b = record b { line = (b.line + 1) % 18446744073709551616; filled = 0 }

-- ---- what a line does

-- what is held at the bench: the session, the edition and its store, the session keys, and the connections
pub record Held : Type 0 where
  pub session : Session
  pub large : Bool
  pub store : List ℕ
  pub keys : Option (List ℕ)
  pub sides : Sides

abbrev pub held_at : Bench → List ℕ → Held
held_at b s = record { session = b.session; large = b.large; store = store_of b.large s; keys = b.keys; sides = b.sides }

abbrev pub with_session : Session → Held → Held
with_session e h = record h { session = e }

abbrev pub with_store : Bool → List ℕ → Held → Held
with_store large s h = record h { large = large; store = s }

abbrev pub with_keys : Option (List ℕ) → Held → Held
with_keys k h = record h { keys = k }

abbrev pub with_sides : Sides → Held → Held
with_sides s h = record h { sides = s }

abbrev pub after_message : Outcome → Held → Held
after_message o h = with_store h.large o.store (with_session o.session h)

-- what is held once a line was obeyed; begin, message, keys, what is asked of a connection, store, edition, convert and empty change it, and no other order does
abbrev pub obeyed : Order → List ℕ → Held → Held
obeyed TheOrder.Nothing text h = h
obeyed TheOrder.Note text h = h
obeyed (TheOrder.Begin own peer number) text h = with_session (session_of (begin own peer number output) h.session) h
obeyed TheOrder.Message text h = after_message (receive h.session (bytes_in text 1) h.store output) h
obeyed (TheOrder.Search peer t) text h = h
obeyed (TheOrder.Keys place ra rb) text h = with_keys (keys_by (sound_kmac h.store place) ra rb h.keys) h
obeyed (TheOrder.Build route) text h = h
obeyed (TheOrder.Check route) text h = h
obeyed (TheOrder.Connection name what) text h = with_sides (sides_by name what text h.store h.sides) h
obeyed TheOrder.Store text h = with_store (large_in text h.large) (store_in text h.store) h
obeyed (TheOrder.Edition large) text h = with_store large (empty_of large) h
obeyed TheOrder.Convert text h = with_store (large_then (conversion h.large h.store) h.large) (store_then h.large h.store) h
obeyed TheOrder.Show text h = h
obeyed TheOrder.Empty text h = with_store h.large (empty_of h.large) h
obeyed TheOrder.Help text h = h
obeyed TheOrder.Unknown text h = h
obeyed (TheOrder.Bad fault command) text h = h

-- a line that has come to its end, of n bytes: obeyed where it has room for them, else not read
abbrev pub line_done : List ℕ → ℕ → Held → Held
line_done text n h = if nat_lt (length text) n then h else obeyed (order_of (take n text)) (take n text) h

-- the bench r and its buffer t are what is held, the line being read that of b
pub record Leaves (h : Held) (b r : Bench) (t : List ℕ) : Type 0 where
  pub bench_is : r ≡ record b { session = h.session; large = h.large; keys = h.keys; sides = h.sides }
  pub store_is : store_of h.large t ≡ h.store
