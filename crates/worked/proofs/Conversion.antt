-- Conversion between the editions (change request 6): the definitions, computed on examples. They stand here, where no edit computes them again.
-- Assumes nothing.
use Rattle.std.proofs.Common.{◌≡◌, ℕ, zero, suc, ◌*◌, Bool, true, false, List, [], ◌∷◌, ◌++◌, replicate, refl}
use lib.Count.{ones, ones_in}
use Rattle.refusal.specs.House.{Answer, house, gives}
use Rattle.octets.specs.Bytes.{part, all_below, all_zero}
use Rattle.octets.specs.Words.{numbers, words}
use Rattle.store.specs.Layout.{edition1, edition2}
use Rattle.store.specs.Store.{Entry, peers_of, header, key_record, key_records, encode, entries, entries_from, sound, all_hold, header_ok, counts_ok, sum_before, sums_ok, new_key, unique_ok, all_odd, parity_ok, unused_ok}
use Rattle.convert.specs.Convert.{has_room, answered, converted}

-- two keys with two peers and one, byte for byte: issuer, serial, KMAC, start, end, first peer index, peer count
abbrev records : List ℕ
records =
    0x11 ∷ 0x12 ∷ 0x13 ∷ 0x14 ∷ 0 ∷ 0 ∷ 0 ∷ 7 ∷ replicate 24 1 ++ (0 ∷ 0 ∷ 0 ∷ 5 ∷ 0 ∷ 0 ∷ 0 ∷ 9 ∷ 0 ∷ 0 ∷ 0 ∷ 2
    ∷ 0x11 ∷ 0x12 ∷ 0x13 ∷ 0x14 ∷ 0 ∷ 0 ∷ 0 ∷ 8 ∷ replicate 24 7 ++ (0 ∷ 0 ∷ 0 ∷ 5 ∷ 0 ∷ 0 ∷ 0 ∷ 9 ∷ 0 ∷ 2 ∷ 0 ∷ 1 ∷ []))

abbrev peers : List ℕ
peers = 1 ∷ 2 ∷ 3 ∷ 4 ∷ 0xff ∷ 0xff ∷ 0xff ∷ 0xff ∷ 0 ∷ 0 ∷ 0 ∷ 3 ∷ []

-- the same store in both editions: the header says the edition, the offset of the peers and the length, and the peers stand behind 64 or 500 records
abbrev small : List ℕ
small = 0 ∷ 1 ∷ 0 ∷ 2 ∷ 0 ∷ 12 ∷ 0 ∷ 3 ∷ 0x0b ∷ 0x0c ∷ 0x0f ∷ 0x0c ∷ records ++ (replicate (44 * 62) 0 ++ (peers ++ replicate (4 * 253) 0))

abbrev large : List ℕ
large = 0 ∷ 2 ∷ 0 ∷ 2 ∷ 0 ∷ 12 ∷ 0 ∷ 3 ∷ 0x55 ∷ 0xfc ∷ 0x94 ∷ 0x7c ∷ records ++ (replicate (44 * 498) 0 ++ (peers ++ replicate (4 * 3997) 0))

-- one becomes the other, whatever stood in the target
there : converted edition1 edition2 small (replicate 38012 0xff) ≡ large
unfolding converted answered has_room encode header key_record key_records peers_of words numbers entries entries_from sound all_hold header_ok counts_ok sum_before sums_ok new_key unique_ok all_odd parity_ok unused_ok all_below all_zero part ones ones_in
there = refl

back : converted edition2 edition1 large (replicate 3852 0xff) ≡ small
unfolding converted answered has_room encode header key_record key_records peers_of words numbers entries entries_from sound all_hold header_ok counts_ok sum_before sums_ok new_key unique_ok all_odd parity_ok unused_ok all_below all_zero part ones ones_in
back = refl

-- n keys without peers, and one key with n peers
keys : ℕ → List Entry
keys zero = []
keys (suc n) = record { issuer = 1; serial = n; kmac = replicate 24 1; start = 5; end = 9; peers = [] } ∷ keys n

abbrev entries_with_peers : ℕ → List Entry
entries_with_peers n = record { issuer = 1; serial = 7; kmac = replicate 24 1; start = 5; end = 9; peers = replicate n 3 } ∷ []

-- 64 keys have room in edition 1, and 65 do not
abbrev room : List Bool
room = has_room edition1 (keys 64) ∷ has_room edition1 (keys 65) ∷ has_room edition2 (keys 65) ∷ []

room-is : room ≡ true ∷ false ∷ true ∷ []
unfolding has_room keys peers_of
room-is = refl

-- 256 peers go back and 257 do not; a store that says it holds 257 peers and no key; the lengths exchanged, two of edition 1, and the header of edition 2 in
-- a store of edition 1's length
abbrev answers : List Answer
answers =
    answered edition2 edition1 (encode edition2 (entries_with_peers 256)) small
    ∷ answered edition2 edition1 (encode edition2 (entries_with_peers 257)) small
    ∷ answered edition2 edition1 (0 ∷ 2 ∷ 0 ∷ 0 ∷ 0 ∷ 12 ∷ 1 ∷ 1 ∷ 0x55 ∷ 0xfc ∷ 0x94 ∷ 0x7c ∷ replicate 38000 0) small
    ∷ answered edition1 edition2 large small
    ∷ answered edition1 edition2 small small
    ∷ answered edition1 edition2 (0 ∷ 2 ∷ 0 ∷ 2 ∷ 0 ∷ 12 ∷ 0 ∷ 3 ∷ 0x55 ∷ 0xfc ∷ 0x94 ∷ 0x7c ∷ records ++ (replicate (44 * 62) 0 ++ (peers ++ replicate (4 * 253) 0))) large
    ∷ []

answers_are : answers ≡ gives 0 ∷ house 14 ∷ house 12 ∷ house 1 ∷ house 1 ∷ house 12 ∷ []
unfolding answered has_room encode header key_record key_records peers_of words numbers entries entries_from sound all_hold header_ok counts_ok sum_before sums_ok new_key unique_ok all_odd parity_ok unused_ok all_below all_zero part ones ones_in
answers_are = refl
