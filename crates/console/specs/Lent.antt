-- What the bench lends to each call: an output buffer, and the bytes of a line.
-- Assumes nothing.
use Rattle.std.specs.Prelude.{ℕ, List, take, replicate}
use Rattle.lines.specs.Digits.{bytes_of}
use Rattle.lines.specs.Words.{word}

-- the output buffer of each call
abbrev pub output : List ℕ
output = replicate 1032 0

-- the bytes in hex of word k, of which there is room for 38,050
abbrev pub bytes_in : List ℕ → ℕ → List ℕ
bytes_in text k = take 38050 (bytes_of (word text k))
