-- What is claimed of the records that are shown: they are the same, whatever the KMACs are.
-- Assumes nothing.
use Rattle.std.specs.Prelude.{true, List, ◌≡◌, ℕ}
use Rattle.store.specs.Store.{key_count, peer_count}
use Rattle.runs.specs.Alike.{in_store_key, DifferAt, is_sound}
use Rattle.records.specs.Records.{record_of, peer_of}

-- the counts, every record and every peer
pub record ShownAlike (s s' : List ℕ) : Type 0 where
  pub same_keys : key_count s ≡ key_count s'
  pub same_peers : peer_count s ≡ peer_count s'
  pub same_record : (i : ℕ) → record_of s i ≡ record_of s' i
  pub same_peer : (j : ℕ) → peer_of s j ≡ peer_of s' j

-- a sound store of either edition, and one that differs from it at most inside KMAC fields
abbrev pub ShowsNoKey : Type 0
ShowsNoKey = (s s' : List ℕ) → is_sound s ≡ true → DifferAt (in_store_key s) s s' → ShownAlike s s'
