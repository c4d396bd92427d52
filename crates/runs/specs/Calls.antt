-- A run: a list of calls that begin a session, bring a message or search a key (document 01, "Demand 3's runs").
-- Assumes nothing.
use Rattle.std.specs.Prelude.{List, [], ◌∷◌, ℕ, length, take}
use Rattle.store.specs.Search.{Finding, find, key}
use Rattle.session.specs.declared.Session.{Session}
use Rattle.session.specs.Sessions.{Beginning, begins, refuses, begin, begin_output}
use Rattle.session.specs.Rules.{Answered, reply, opened, ended, refused, receive}

-- each begin or message lends an output buffer of any length
pub data Call : Type 0 where
  starts : (own peer start : ℕ) → (output : List ℕ) → Call
  brings : (message output : List ℕ) → Call
  searches : (peer moment : ℕ) → Call

-- what the calls hand on: the session and the store
pub record World : Type 0 where
  pub session : Session
  pub store : List ℕ

-- ---- what is seen of a call

-- the answer (of a search, the place and the end) and the output buffer afterwards; of a message the reply bytes too; of the part that a
-- search hands back, the length
pub data Seen : Type 0 where
  begun : (answer : Beginning) → (output : List ℕ) → Seen
  received : (answer : Answered) → (reply output : List ℕ) → Seen
  searched : (answer : Finding) → (size : ℕ) → Seen

abbrev pub reply_of : Answered → List ℕ → List ℕ
reply_of (reply n) out = take n out
reply_of opened out = []
reply_of ended out = []
reply_of (refused n) out = []

unfoldable pub seen : Call → World → Seen
seen (starts own peer start out) w = begun (begin own peer start out) (begin_output (begin own peer start out) own peer start out)
seen (brings m out) w =
    let o = receive w.session m w.store out in
    received o.answer (reply_of o.answer o.output) o.output
seen (searches peer t) w = searched (find w.store peer t) (length (key w.store peer t))

-- ---- what is handed on

-- a begin's session replaces the one before; a refused begin leaves it
abbrev pub session_of : Beginning → Session → Session
session_of (begins e n) before = e
session_of (refuses n) before = before

unfoldable pub next : Call → World → World
next (starts own peer start out) w = record { session = session_of (begin own peer start out) w.session; store = w.store }
next (brings m out) w =
    let o = receive w.session m w.store out in
    record { session = o.session; store = o.store }
next (searches peer t) w = w

-- ---- a list of calls

unfoldable pub all_seen : List Call → World → List Seen
all_seen [] w = []
all_seen (c ∷ cs) w = seen c w ∷ all_seen cs (next c w)

unfoldable pub final : List Call → World → World
final [] w = w
final (c ∷ cs) w = final cs (next c w)
