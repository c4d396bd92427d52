-- The definitions, computed on worked examples of document 01.
-- Assumes nothing.
use mathlib.Core.Path.{◌≡◌, refl}
use mathlib.Core.Bool.{true, false}
use mathlib.Core.List.{List, [], ◌∷◌, ◌++◌}
use Prim.Native.Nat.{ℕ, zero, suc}
use lib.ListN.{replicate}
use lib.Count.{ones, ones_in}
use Rattle.octets.specs.Bytes.{part, all_below, all_zero}
use Rattle.octets.specs.Words.{numbers, words}
use Rattle.store.specs.declared.Limits.{Limits}
use Rattle.store.specs.Layout.{edition1, edition2}
use Rattle.store.specs.Store.{Entry, peers_of, header, key_record, key_records, encode, entries, entries_from, sound, all_hold, header_ok, counts_ok, sum_before, sums_ok, new_key, unique_ok, all_odd, parity_ok, unused_ok}
use Rattle.store.specs.Search.{place_where}
use Rattle.store.specs.Request.{Request, add, delete, entities, work, result, first_reason, after, done, update_at}

-- a key with this serial, byte and peers, valid from 5 to 9
abbrev entry : ℕ → ℕ → List ℕ → Entry
entry s b ps = record { issuer = 66051; serial = s; kmac = replicate 24 b; start = 5; end = 9; peers = ps }

one : Entry
one = entry 7 1 (17 ∷ 4294967295 ∷ [])

-- the empty store
empty-bytes : encode edition1 [] ≡ 0 ∷ 1 ∷ 0 ∷ 0 ∷ 0 ∷ 12 ∷ 0 ∷ 0 ∷ 11 ∷ 12 ∷ 15 ∷ 12 ∷ replicate 3840 0
unfolding encode header key_records peers_of words
empty-bytes = refl

-- a record byte for byte: issuer, serial, KMAC, start, end, first peer index, peer count
record_bytes :
    key_record 0x0102
    (record { issuer = 0x11121314; serial = 0x21222324; kmac = replicate 24 7; start = 0x31323334; end = 0x41424344; peers = 17 ∷ 19 ∷ [] })
    ≡ 0x11 ∷ 0x12 ∷ 0x13 ∷ 0x14 ∷ 0x21 ∷ 0x22 ∷ 0x23 ∷ 0x24 ∷ replicate 24 7 ++ (0x31 ∷ 0x32 ∷ 0x33 ∷ 0x34 ∷ 0x41 ∷ 0x42 ∷ 0x43 ∷ 0x44 ∷ 0x01 ∷ 0x02 ∷ 0 ∷ 2 ∷ [])
unfolding key_record
record_bytes = refl

header-bytes : header edition1 2 3 ≡ 0 ∷ 1 ∷ 0 ∷ 2 ∷ 0 ∷ 12 ∷ 0 ∷ 3 ∷ 11 ∷ 12 ∷ 15 ∷ 12 ∷ []
unfolding header
header-bytes = refl

abbrev two : Limits → List ℕ
two L = encode L (one ∷ entry 8 7 (19 ∷ []) ∷ [])

sound-two : (sound edition1 (two edition1) ≡ true) × (sound edition2 (two edition2) ≡ true)
unfolding one encode header key_record key_records peers_of words sound all_hold header_ok counts_ok sum_before sums_ok new_key unique_ok all_odd parity_ok unused_ok all_below all_zero part ones ones_in
sound-two = (refl, refl)

back : (entries edition1 (two edition1) ≡ one ∷ entry 8 7 (19 ∷ []) ∷ []) × (entries edition2 (two edition2) ≡ one ∷ entry 8 7 (19 ∷ []) ∷ [])
unfolding one encode header key_record key_records peers_of words entries entries_from numbers part
back = (refl, refl)

unsound-twice : sound edition1 (encode edition1 (one ∷ one ∷ [])) ≡ false
unfolding one encode header key_record key_records peers_of words sound all_hold header_ok counts_ok sum_before sums_ok new_key unique_ok all_odd parity_ok unused_ok all_below all_zero part ones ones_in
unsound-twice = refl

-- what a list of requests answers to the own identity 3
abbrev answers : Limits → List Entry → List Request → List ℕ
answers L es rs = (work L 3 rs es).results

abbrev answered : List (List ℕ)
answered =
    answers edition1 [] (delete 66051 7 ∷ [])
    ∷ answers edition1 [] (add 3 one ∷ add 3 one ∷ [])
    ∷ answers edition1 (entry 7 1 (replicate 253 5) ∷ []) (add 3 (entry 8 1 (replicate 4 6)) ∷ add 3 (entry 8 1 (replicate 3 6)) ∷ [])
    ∷ answers edition1 (entry 7 1 (replicate 246 5) ∷ entry 8 1 (replicate 10 6) ∷ []) (entities 66051 8 (replicate 10 7) ∷ entities 66051 8 (replicate 11 7) ∷ [])
    ∷ answers edition1 [] (add 3 (entry 7 0 (1 ∷ [])) ∷ add 4 (entry 7 0 (1 ∷ [])) ∷ [])
    ∷ []

-- empty store, delete: 1; one key twice: 0 then 3; 253 peers used and 4 or 3 more: 255, 0; 256 used and 10 replaced by 10 or 11: 0, 255;
-- a KMAC byte 00: 4; a wrong recipient and byte 00: 5
requests-answered : answered ≡ (1 ∷ []) ∷ (0 ∷ 3 ∷ []) ∷ (255 ∷ 0 ∷ []) ∷ (0 ∷ 255 ∷ []) ∷ (4 ∷ 5 ∷ []) ∷ []
unfolding one work result first_reason after done update_at place_where peers_of all_odd all_below ones ones_in
requests-answered = refl

-- ---- edition 2

empty_bytes_2 : encode edition2 [] ≡ 0 ∷ 2 ∷ 0 ∷ 0 ∷ 0 ∷ 12 ∷ 0 ∷ 0 ∷ 85 ∷ 252 ∷ 148 ∷ 124 ∷ replicate 38000 0
unfolding encode header key_records peers_of words
empty_bytes_2 = refl

-- n keys with the serials n down to 1 and no peers
abbrev keys : ℕ → List Entry
keys zero = []
keys (suc n) = entry (suc n) 1 [] ∷ keys n

-- 64 keys held in edition 1, 500 in edition 2, and one more added: 2; one fewer held: 0
keys-full :
    answers edition1 (keys 64) (add 3 (entry 65 1 (1 ∷ [])) ∷ [])
    ∷ answers edition1 (keys 63) (add 3 (entry 65 1 (1 ∷ [])) ∷ [])
    ∷ answers edition2 (keys 500) (add 3 (entry 501 1 (1 ∷ [])) ∷ [])
    ∷ answers edition2 (keys 499) (add 3 (entry 501 1 (1 ∷ [])) ∷ [])
    ∷ []
    ≡ (2 ∷ []) ∷ (0 ∷ []) ∷ (2 ∷ []) ∷ (0 ∷ []) ∷ []
unfolding work result first_reason after done update_at place_where peers_of all_odd all_below ones ones_in
keys-full = refl
