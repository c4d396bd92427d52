-- SUBSET-037-2 Annex B, computed from the definition of the MAC that the contracts cite; and a string, byte for byte.
-- Assumes nothing.
use mathlib.Core.Path.{◌≡◌, refl}
use mathlib.Core.List.{List, [], ◌∷◌}
use Prim.Native.Nat.{ℕ}
use Rattle.octets.specs.Bytes.{part}
use Rattle.des.specs.Bits.{bits, value_from, value, bits_of_bytes, bytes_of_bits, xor_bits}
use Rattle.des.specs.Tables.{ip, ip_inverse, e, p, pc1, pc2, shifts, sboxes}
use Rattle.des.specs.Des.{permute, row, column, select, selects, cipher_function, swap, shift_both, shifted, subkey, round, rounds, cipher, encipher_bits, decipher_bits}
use Rattle.authentication.specs.Mac.{block, chain, finish, cbc_mac, unpadded, padded, mac_string}

-- K1, K2 and K3
abbrev pub key : List ℕ
key =
    0x01 ∷ 0x02 ∷ 0x04 ∷ 0x07 ∷ 0x08 ∷ 0x0b ∷ 0x0d ∷ 0x0e
    ∷ 0x10 ∷ 0x13 ∷ 0x15 ∷ 0x16 ∷ 0x19 ∷ 0x1a ∷ 0x1c ∷ 0x1f
    ∷ 0x20 ∷ 0x23 ∷ 0x25 ∷ 0x26 ∷ 0x29 ∷ 0x2a ∷ 0x2c ∷ 0x2f ∷ []

-- the 21 bytes before padding
abbrev pub string : List ℕ
string = 0 ∷ 1 ∷ 2 ∷ 3 ∷ 4 ∷ 5 ∷ 6 ∷ 7 ∷ 8 ∷ 9 ∷ 10 ∷ 11 ∷ 12 ∷ 13 ∷ 14 ∷ 15 ∷ 16 ∷ 17 ∷ 18 ∷ 19 ∷ 20 ∷ []

pub annex_b : cbc_mac key (padded string) ≡ 0x36 ∷ 0x1d ∷ 0x43 ∷ 0x1e ∷ 0xd3 ∷ 0x96 ∷ 0xc1 ∷ 0x75 ∷ []
unfolding bits value_from value bits_of_bytes bytes_of_bits xor_bits permute row column select selects cipher_function swap shift_both shifted subkey round rounds cipher encipher_bits decipher_bits ip ip_inverse e p pc1 pc2 shifts sboxes part block chain finish cbc_mac padded
annex_b = refl

-- l, DA, m and one byte of padding
pub string_bytes : mac_string (0x12 ∷ 0x34 ∷ 0x56 ∷ []) (0x0a ∷ 0x41 ∷ []) ≡ 0 ∷ 5 ∷ 0x12 ∷ 0x34 ∷ 0x56 ∷ 0x0a ∷ 0x41 ∷ 0 ∷ []
unfolding unpadded padded mac_string
string_bytes = refl

-- why l is there: DA | m alone, padded, is the same for this unit and for the same unit with a zero byte behind it
pub length_needed : padded (0x12 ∷ 0x34 ∷ 0x56 ∷ 0x0a ∷ 0x41 ∷ []) ≡ padded (0x12 ∷ 0x34 ∷ 0x56 ∷ 0x0a ∷ 0x41 ∷ 0 ∷ [])
unfolding padded
length_needed = refl
