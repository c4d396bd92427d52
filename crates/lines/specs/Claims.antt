-- What is claimed beside the contracts: bytes that are written in hex are read as the same bytes.
-- Assumes nothing.
use Rattle.std.specs.Prelude.{List, ◌≡◌, ℕ}
use Rattle.octets.specs.Bytes.{Bytes}
use Rattle.lines.specs.Digits.{bytes_of, to_hex}

abbrev pub ReadsBack : Type 0
ReadsBack = (s : List ℕ) → Bytes s → bytes_of (to_hex s) ≡ s
