-- The MAC and the session keys, of keys and blocks as words.
-- Assumes nothing.
use Rattle.std.specs.Prelude.{◌≡◌, List, ◌++◌, map, ℕ, length}
use Rattle.octets.specs.Bytes.{bytes}
use Rattle.des.specs.Bits.{bits}
use Rattle.authentication.specs.Mac.{block, cbc_mac, mac}
use Rattle.authentication.specs.Keys.{left, right, odd, session_keys}

-- the blocks 0, 1 and 2 of a list are three words
pub record Blocks (s : List ℕ) (x y z : ℕ) : Type 0 where
  pub first : block s 0 ≡ bits 64 x
  pub second : block s 1 ≡ bits 64 y
  pub third : block s 2 ≡ bits 64 z

-- r is the CBC-MAC of any 24 bytes that are the words x, y and z, under any triple key that is k1, k2 and k3
pub record Chains (k1 k2 k3 x y z r : ℕ) : Type 0 where
  pub by : (key s : List ℕ) → length s ≡ 24 → Blocks key k1 k2 k3 → Blocks s x y z → bytes 8 r ≡ cbc_mac key s

-- r is the MAC of a message
pub record Macs (k1 k2 k3 : ℕ) (destination m : List ℕ) (r : ℕ) : Type 0 where
  pub by : (key : List ℕ) → Blocks key k1 k2 k3 → bytes 8 r ≡ mac key destination m

-- with odd parity, r is the session keys of any KMAC that is k1, k2 and k3, and of any random numbers whose left halves are x and whose right halves are y
pub record Formulas (k1 k2 k3 x y : ℕ) (r : List ℕ) : Type 0 where
  pub long : length r ≡ 24
  pub by : (kmac ra rb : List ℕ) → Blocks kmac k1 k2 k3 → left ra ++ left rb ≡ bits 64 x → right ra ++ right rb ≡ bits 64 y → session_keys kmac ra rb ≡ map odd r
