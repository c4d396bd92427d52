-- The KMAC that session keys are derived from, what is held then, and the bytes of a destination.
-- Assumes nothing.
use Rattle.std.specs.Prelude.{ℕ, ◌-◌, ◌/◌, ◌%◌, Option, Some, List, [], ◌∷◌, if◌then◌else◌}
use Rattle.refusal.specs.House.{Answer, house, gives}
use Rattle.store.specs.Store.{key_count, kmac_at}
use Rattle.octets.specs.Bytes.{between}
use Rattle.des.specs.Bits.{bits, bytes_of_bits}
use Rattle.authentication.specs.Keys.{session_keys, derived}
use Rattle.runs.specs.Alike.{is_sound}

-- the KMAC at a place, the first being 1; empty where there is no record
abbrev pub held_kmac : List ℕ → ℕ → List ℕ
held_kmac s place = if between 1 (key_count s) place then kmac_at s (place - 1) else []

-- the same of a store that need not be sound: empty where it is not
abbrev pub sound_kmac : List ℕ → ℕ → List ℕ
sound_kmac s place = if is_sound s then held_kmac s place else []

-- the session keys that are held once those of a KMAC were asked for; those before where it is refused
abbrev pub unless_kept : Answer → List ℕ → Option (List ℕ) → Option (List ℕ)
unless_kept (gives n) made held = Some made
unless_kept (house n) made held = held

abbrev pub keys_by : List ℕ → ℕ → ℕ → Option (List ℕ) → Option (List ℕ)
keys_by kmac ra rb held = unless_kept (derived kmac) (session_keys kmac (bytes_of_bits 8 (bits 64 ra)) (bytes_of_bits 8 (bits 64 rb))) held

-- the lowest three bytes of a number
abbrev pub three_bytes : ℕ → List ℕ
three_bytes x = x / 65536 % 256 ∷ x / 256 % 256 ∷ x % 256 ∷ []
