-- The records of a store as numbers, without their KMACs.
-- Assumes nothing.
use Rattle.std.specs.Prelude.{List, ℕ, ◌+◌, ◌*◌}
use Rattle.octets.specs.Bytes.{get16, get32}
use Rattle.store.specs.Layout.{record_at}
use Rattle.records.specs.declared.Record.{Record}

-- the record of index i
abbrev pub record_of : List ℕ → ℕ → Record
record_of s i =
    record {
      issuer = get32 s (record_at i);
      serial = get32 s (record_at i + 4);
      start = get32 s (record_at i + 32);
      end = get32 s (record_at i + 36);
      first = get16 s (record_at i + 40);
      count = get16 s (record_at i + 42);
    }

-- the peer of index j, behind the offset of peers that the header has
abbrev pub peer_of : List ℕ → ℕ → ℕ
peer_of s j = get32 s (get16 s 8 + 4 * j)
