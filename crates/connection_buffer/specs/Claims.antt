-- What is claimed of the lent connection and events beside the contracts. proofs/Theorems.antt has a proof of each claim.
-- Assumes nothing.
use Rattle.std.specs.Prelude.{◌≡◌, List, ℕ, ◌<◌, ℤ, length, get_or, replicate}
use Rattle.octets.specs.Bytes.{Bytes, get16}
use Rattle.table.specs.declared.Connection.{Connection}
use Rattle.table.specs.declared.Kind.{Kind}
use Rattle.table.specs.declared.ToUser.TheVariants.{DataIndication}
use Rattle.table.specs.declared.Actions.{Actions}
use Rattle.table.specs.Steps.{idle, Input, connect_request, connect_response, data_request, disconnect_request, connect_indication, connect_confirmation, disconnect_indication, unit_indication, time_out, done, refused, step, kind_numbered}
use Rattle.connection_buffer.specs.ConnectionBuffer.{connection_bytes, connection_of, kind_number, Tells}

-- ---- a connection as bytes

-- the fields fit their bytes
pub record Fitting (c : Connection) : Type 0 where
  pub state_fits : c.state < 256
  pub own_fits : c.own < 4294967296
  pub peer_fits : c.peer < 4294967296
  pub ra_long : length c.ra ≡ 8
  pub rb_long : length c.rb ≡ 8
  pub key_long : length c.key ≡ 24

-- a connection whose fields fit is read as it was written
pub record ReadAsWritten : Type 0 where
  pub same : (c : Connection) → Fitting c → connection_of (connection_bytes c) ≡ c

-- 64 zeros are the idle connection, and it is written so: no key byte stays
pub record ZerosAreIdle : Type 0 where
  pub read : connection_of (replicate 64 0) ≡ idle
  pub written : connection_bytes idle ≡ replicate 64 0

-- ---- calls in a row

-- what an event brings are bytes and numbers as C lends them
abbrev pub Lent : Input → Type 0
Lent (connect_request acceptable own peer t rb store) = (own < 4294967296) × (peer < 4294967296) × (length rb ≡ 8)
Lent connect_response = Unit
Lent (data_request sent) = Unit
Lent (disconnect_request reason sub) = Unit
Lent (connect_indication acceptable own t ra unit store) = (own < 4294967296) × (length ra ≡ 8) × Bytes unit
Lent (connect_confirmation unit) = Unit
Lent (disconnect_indication reason unit) = Unit
Lent (unit_indication kind unit) = Unit
Lent time_out = Unit

-- calls chain in C: the connection that is read from the buffer afterwards is the one that the step hands back, whatever it answers.
-- So what is claimed of runs in `connections` holds of runs of C calls that lend one buffer
pub record ConnectionsChain : Type 0 where
  pub of_step : (i : Input) → Lent i → (b out : List ℕ) → Bytes b → length b ≡ 64 → (told : ℤ) (after events eventsThen output : List ℕ)
      → Tells (step i (connection_of b) out) told b after events eventsThen output → connection_of after ≡ (step i (connection_of b) out).connection

-- demand 1: a refusal writes nowhere
pub record RefusalWritesNowhere : Type 0 where
  pub as_they_were : (i : Input) (c : Connection) (out : List ℕ) (n : ℕ) → (step i c out).answer ≡ refused n → (told : ℤ) (before after events eventsThen output : List ℕ)
      → Tells (step i c out) told before after events eventsThen output → (after ≡ before) × (eventsThen ≡ events) × (output ≡ out)

-- ---- events

-- the state that is told is the one that is written, and the length of user data that is told is the one that goes up
pub record EventsAgree : Type 0 where
  pub state : (i : Input) (c : Connection) (out : List ℕ) (a : Actions) → (step i c out).answer ≡ done a → (told : ℤ) (before after events eventsThen output : List ℕ)
      → Tells (step i c out) told before after events eventsThen output → get_or eventsThen 3 0 ≡ get_or after 0 0
  pub data_length : (i : Input) (c : Connection) (out : List ℕ) (a : Actions) (n : ℕ) → (step i c out).answer ≡ done a → a.user ≡ DataIndication n
      → (told : ℤ) (before after events eventsThen output : List ℕ) → Tells (step i c out) told before after events eventsThen output → get16 eventsThen 6 ≡ n

-- the number that a unit's kind is answered with names that kind
pub record KindsAreNumbered : Type 0 where
  pub back : (k : Kind) → kind_numbered (kind_number k) ≡ k
