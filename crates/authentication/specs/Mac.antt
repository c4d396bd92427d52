-- The MAC (SUBSET-037-2, 6.2.2 and 6.2.3.2.1). Keys, strings and messages are lists of bytes; a block is its 64 bits.
-- Assumes nothing.
use Rattle.std.specs.Prelude.{List, ◌++◌, ℕ, zero, suc, ◌-◌, ◌*◌, ◌/◌, ◌%◌, length, replicate}
use Rattle.octets.specs.Bytes.{part, be16}
use Rattle.des.specs.Bits.{bits, bits_of_bytes, bytes_of_bits, xor_bits}
use Rattle.des.specs.Des.{encipher_bits, decipher_bits}

-- the 64-bit block n of s, counted from 0 (6.2.2.5); of a triple key, the DES key K1, K2 or K3
unfoldable pub block : List ℕ → ℕ → List ℕ
block s n = bits_of_bytes (part s (8 * n) 8)

-- H after n blocks, each enciphered under K1, from 64 zero bits (6.2.2.6, 6.2.2.7)
unfoldable pub chain : List ℕ → List ℕ → ℕ → List ℕ
chain k1 s zero = bits 64 0
chain k1 s (suc n) = encipher_bits k1 (xor_bits (chain k1 s n) (block s n))

-- the last of them deciphered under K2 and enciphered under K3 (6.2.2.7)
unfoldable pub finish : List ℕ → List ℕ → List ℕ
finish key h = encipher_bits (block key 2) (decipher_bits (block key 1) h)

-- CBC-MAC (K, X), for X a whole number of blocks (6.2.2.4 to 6.2.2.8)
unfoldable pub cbc_mac : List ℕ → List ℕ → List ℕ
cbc_mac key s = bytes_of_bits 8 (finish key (chain (block key 0) s (length s / 8)))

-- l | DA | m: the length of DA | m in two bytes before it (6.2.3.2.1.5, .6)
unfoldable pub unpadded : List ℕ → List ℕ → List ℕ
unpadded destination m = be16 (length (destination ++ m)) ++ (destination ++ m)

-- as few zero bytes behind as needed, possibly none (6.2.2.3)
unfoldable pub padded : List ℕ → List ℕ
padded s = s ++ replicate ((8 - length s % 8) % 8) 0

-- l | DA | m | p
unfoldable pub mac_string : List ℕ → List ℕ → List ℕ
mac_string destination m = padded (unpadded destination m)

-- the MAC of the message m to a destination (6.2.3.2.1.7)
unfoldable pub mac : List ℕ → List ℕ → List ℕ → List ℕ
mac key destination m = cbc_mac key (mac_string destination m)
