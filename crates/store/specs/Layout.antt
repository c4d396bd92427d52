-- The editions of the key store (document 01, "The key store"): an edition's number and its two limits decide where its parts stand and
-- how long it is, and a buffer's length picks the edition.
-- Assumes nothing.
use Rattle.std.specs.Prelude.{cond, List, [], ◌∷◌, ℕ, ◌+◌, ◌*◌, ◌<◌, eqb, Option, Some, None}
use Rattle.store.specs.declared.Limits.{Limits}

-- the header has 12 bytes, a key record 44, a peer 4
abbrev pub record_at : ℕ → ℕ
record_at i = 12 + 44 * i

abbrev pub peers_at : Limits → ℕ
peers_at L = 12 + 44 * L.keys

abbrev pub total : Limits → ℕ
total L = 12 + 44 * L.keys + 4 * L.peers

-- an edition whose numbers fit the two bytes that the header has for each
pub record Bounded (L : Limits) : Type 0 where
  pub edition_fits : L.edition < 65536
  pub total_fits : 12 + 44 * L.keys + 4 * L.peers < 65536

-- at most 64 keys, at most 256 peers altogether
abbrev pub edition1 : Limits
edition1 = record { edition = 1; keys = 64; peers = 256 }

-- at most 500 keys, at most 4,000 peers altogether (document 02, change request 5)
abbrev pub edition2 : Limits
edition2 = record { edition = 2; keys = 500; peers = 4000 }

abbrev pub editions : List Limits
editions = edition1 ∷ edition2 ∷ []

-- the first edition of a list that has this length
unfoldable pub edition_in : List Limits → ℕ → Option Limits
edition_in [] n = None
edition_in (L ∷ Ls) n = cond (eqb n (total L)) (Some L) (edition_in Ls n)

unfoldable pub edition_of : ℕ → Option Limits
edition_of n = edition_in editions n
