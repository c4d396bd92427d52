-- The slots of the test that no two records share issuer and serial: a slot's mark is 0 where no record has come to it, the fingerprint of all that
-- have where it is the same, and else 255.
-- Assumes nothing.
use Rattle.std.specs.Prelude.{Bool, ◌||◌, cond, List, ℕ, ◌+◌, ◌*◌, ◌/◌, ◌%◌, eqb}
use Rattle.octets.specs.Bytes.{get32}
use Rattle.store.specs.Layout.{record_at}

-- of issuer and serial of record i. Any factors would do: no law asks for their values.
unfoldable pub hash_of : List ℕ → ℕ → ℕ
hash_of s i = get32 s (record_at i) * 1779033703 + get32 s (record_at i + 4) * 1540483477

abbrev pub slot_of : ℕ → ℕ
slot_of hash = hash / 4194304 % 1024

-- 1 to 254
abbrev pub fingerprint_of : ℕ → ℕ
fingerprint_of hash = hash % 254 + 1

-- a slot with this mark may have a record with this fingerprint
abbrev pub suspect : ℕ → ℕ → Bool
suspect mark fingerprint = eqb mark fingerprint || eqb mark 255

-- the mark with one more record
abbrev pub marked_by : ℕ → ℕ → ℕ
marked_by mark fingerprint = cond (eqb mark 0) fingerprint (cond (eqb mark fingerprint) fingerprint 255)
