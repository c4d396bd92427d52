-- A worked example, computed from the definitions: a key, two of its sixteen keys, and a block.
-- Assumes nothing.
use mathlib.Core.Path.{◌≡◌, refl}
use mathlib.Core.List.{List, [], ◌∷◌}
use Prim.Native.Nat.{ℕ}
use Rattle.des.specs.Bits.{bits, value_from, value, bits_of_bytes, bytes_of_bits, xor_bits}
use Rattle.des.specs.Tables.{ip, ip_inverse, e, p, pc1, pc2, shifts, sboxes}
use Rattle.des.specs.Des.{permute, row, column, select, selects, cipher_function, swap, shift_both, shifted, subkey, round, rounds, cipher, encipher_bits, des_encipher}

abbrev pub key : List ℕ
key = 0x13 ∷ 0x34 ∷ 0x57 ∷ 0x79 ∷ 0x9b ∷ 0xbc ∷ 0xdf ∷ 0xf1 ∷ []

one_key : value (subkey (bits_of_bytes key) 0) ≡ 0x1b02effc7072
unfolding bits value_from value bits_of_bytes permute swap shift_both shifted subkey pc1 pc2 shifts
one_key = refl

last-key : value (subkey (bits_of_bytes key) 15) ≡ 0xcb3d8b0e17f5
unfolding bits value_from value bits_of_bytes permute swap shift_both shifted subkey pc1 pc2 shifts
last-key = refl

abbrev pub block : List ℕ
block = 0x01 ∷ 0x23 ∷ 0x45 ∷ 0x67 ∷ 0x89 ∷ 0xab ∷ 0xcd ∷ 0xef ∷ []

pub enciphered : des_encipher key block ≡ 0x85 ∷ 0xe8 ∷ 0x13 ∷ 0x54 ∷ 0x0f ∷ 0x0a ∷ 0xb4 ∷ 0x05 ∷ []
unfolding bits value_from value bits_of_bytes bytes_of_bits xor_bits permute row column select selects cipher_function swap shift_both shifted subkey round rounds cipher encipher_bits des_encipher ip ip_inverse e p pc1 pc2 shifts sboxes
enciphered = refl
