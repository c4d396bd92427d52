-- The two tables of the joined rounds, each by its rule.
-- Assumes nothing.
use Rattle.std.specs.Prelude.{List, ◌++◌, map, ℕ, ◌+◌, ◌-◌, ◌*◌, ◌/◌, ◌%◌, replicate}
use Rattle.des.specs.Bits.{bits, value}
use Rattle.des.specs.Tables.{e, p, pc2}
use Rattle.des.specs.Des.{permute, select}
use Rattle.des.specs.Words.{up_from}

-- n zeros
unfoldable pub zeros : ℕ → List ℕ
zeros n = replicate n 0

-- w bits of which the group k of four is s, and all others are zero
unfoldable pub placed : ℕ → ℕ → List ℕ → List ℕ
placed w k s = zeros (4 * k) ++ (s ++ zeros (w - (4 * k + 4)))

-- the four bits that box k selects for the six bits of g, moved by P
unfoldable pub moved : ℕ → ℕ → List ℕ
moved k g = permute p (placed 32 k (select k (bits 6 g)))

-- the boxes joined with P: entry 64 k + g is `moved k g`, with E behind it
unfoldable pub joined_entry : ℕ → ℕ
joined_entry i = value (permute e (moved (i / 64) (i % 64)))

unfoldable pub joined : List ℕ
joined = map joined_entry (up_from 0 512)

-- permuted choice 2 by groups: entry 16 i + v is of 56 bits whose group i is v
unfoldable pub pc2_entry : ℕ → ℕ
pc2_entry i = value (permute pc2 (placed 56 (i / 16) (bits 4 (i % 16))))

unfoldable pub pc2_groups : List ℕ
pc2_groups = map pc2_entry (up_from 0 224)
