-- A set-up between two sides with its numbers, and a unit of user data each way: keys and MACs are computed from the definitions.
-- Assumes nothing.
use mathlib.Core.Path.{◌≡◌, refl, ap, ◌∙◌}
use mathlib.Core.Bool.{true, false, not}
use mathlib.Core.List.{List, [], ◌∷◌}
use Prim.Native.Nat.{ℕ}
use native.Mathlib.Omega.{arith}
use lib.Count.{ones}
use lib.ListN.{replicate, length-replicate}
use Rattle.octets.specs.Bytes.{part, all_below, all_zero}
use Rattle.octets.specs.Words.{words, numbers, elem}
use Rattle.store.specs.Layout.{edition1, edition_of, edition_in}
use Rattle.store.specs.Store.{encode, header, key_record, key_records, peers_of, entries, entries_from, sound, all_hold, header_ok, counts_ok, sums_ok, sum_before, unique_ok, new_key, parity_ok, all_odd, unused_ok}
use Rattle.store.specs.Search.{latest, find_in, find, key}
use Rattle.des.specs.Bits.{bits, value_from, value, bits_of_bytes, bytes_of_bits, xor_bits}
use Rattle.des.specs.Tables.{ip, ip_inverse, e, p, pc1, pc2, shifts, sboxes}
use Rattle.des.specs.Des.{permute, row, column, select, selects, cipher_function, swap, shift_both, shifted, subkey, round, rounds, cipher, encipher_bits, decipher_bits}
use Rattle.authentication.specs.Mac.{block, chain, finish, cbc_mac, unpadded, padded, mac_string, mac}
use Rattle.authentication.specs.Keys.{left, right, triple, ks1, ks2, ks3, odd, session_keys}
use Rattle.authentication.specs.Unit.{message, unit_of}
use Rattle.units.specs.Units.{etcs_id, au1_unit, au2_text, au2_mac, au2_unit, au3_mac, au3_unit, ar_mac, ar_unit}
use Rattle.table.specs.declared.Connection.{Connection}
use Rattle.table.specs.Steps.{found, data_request, step}
use Rattle.connections.specs.Runs.{Sides, unit_sent, step1, step2, step3, step5, step6}
use Rattle.connections.specs.Claims.{Ready, shared_key}
use Rattle.connections.proofs.SideLaws.{first, second, third, fifth, completes, unit-there}

abbrev kmac : List ℕ
kmac = 0x01 ∷ 0x02 ∷ 0x04 ∷ 0x07 ∷ 0x08 ∷ 0x0b ∷ 0x0d ∷ 0x0e ∷ 0x10 ∷ 0x13 ∷ 0x15 ∷ 0x16 ∷ 0x19 ∷ 0x1a ∷ 0x1c ∷ 0x1f ∷ 0x20 ∷ 0x23 ∷ 0x25 ∷ 0x26 ∷ 0x29 ∷ 0x2a ∷ 0x2c ∷ 0x2f ∷ []

-- a store with this KMAC for one peer
abbrev holding : ℕ → List ℕ
holding peer = encode edition1 (record { issuer = 3; serial = 1; kmac = kmac; start = 0; end = 100; peers = peer ∷ [] } ∷ [])

-- an engine calls an RBC
abbrev engine : ℕ
engine = 0x02e6a54b

abbrev rbc : ℕ
rbc = 0x01123456

abbrev ra : List ℕ
ra = 0xa0 ∷ 0xa1 ∷ 0xa2 ∷ 0xa3 ∷ 0xa4 ∷ 0xa5 ∷ 0xa6 ∷ 0xa7 ∷ []

abbrev rb : List ℕ
rb = 0xb0 ∷ 0xb1 ∷ 0xb2 ∷ 0xb3 ∷ 0xb4 ∷ 0xb5 ∷ 0xb6 ∷ 0xb7 ∷ []

abbrev sides : Sides
sides =
    record {
      a = rbc;
      b = engine;
      ra = ra;
      rb = rb;
      ta = 7;
      tb = 7;
      store_a = holding engine;
      store_b = holding rbc;
      out_a = replicate 1032 0;
      out_b = replicate 1032 0;
    }

-- both stores give the key
kmac-held : key (holding engine) engine 7 ≡ kmac
unfolding find find_in latest key edition_of edition_in encode header key_record key_records peers_of words numbers elem entries entries_from sound all_hold header_ok counts_ok sums_ok sum_before unique_ok new_key parity_ok all_odd unused_ok all_below all_zero ones part
kmac-held = refl

ready : Ready sides
unfolding found find find_in latest key edition_of edition_in encode header key_record key_records peers_of words numbers elem entries entries_from sound all_hold header_ok counts_ok sums_ok sum_before unique_ok new_key parity_ok all_odd unused_ok all_below all_zero ones part
ready =
    record {
      place_a = 1;
      place_b = 1;
      found_a = refl;
      found_b = refl;
      shared = refl;
      eight_a = refl;
      eight_b = refl;
      room_a = omega (arith, length-replicate {A = ℕ} 1032 0);
      room_b = omega (arith, length-replicate {A = ℕ} 1032 0);
    }

-- ---- keys and MACs

abbrev ks : List ℕ
ks = 0xa8 ∷ 0xf1 ∷ 0xfd ∷ 0x5b ∷ 0x5e ∷ 0x68 ∷ 0xb9 ∷ 0x52 ∷ 0x07 ∷ 0xc8 ∷ 0x76 ∷ 0xdc ∷ 0x1c ∷ 0xa1 ∷ 0x8a ∷ 0x67 ∷ 0x20 ∷ 0x4c ∷ 0x70 ∷ 0x34 ∷ 0xd6 ∷ 0x34 ∷ 0x83 ∷ 0x1a ∷ []

abbrev au2 : List ℕ
au2 = 0x25 ∷ 0x12 ∷ 0x34 ∷ 0x56 ∷ 0x01 ∷ 0xa0 ∷ 0xa1 ∷ 0xa2 ∷ 0xa3 ∷ 0xa4 ∷ 0xa5 ∷ 0xa6 ∷ 0xa7 ∷ 0xba ∷ 0x1b ∷ 0xdd ∷ 0xdc ∷ 0x16 ∷ 0x25 ∷ 0xa2 ∷ 0x62 ∷ []

abbrev au3 : List ℕ
au3 = 0x06 ∷ 0xaa ∷ 0xce ∷ 0xef ∷ 0xbc ∷ 0xea ∷ 0x51 ∷ 0x17 ∷ 0xb5 ∷ []

abbrev ar : List ℕ
ar = 0x13 ∷ 0x77 ∷ 0x59 ∷ 0x70 ∷ 0x7b ∷ 0x00 ∷ 0x8e ∷ 0xde ∷ 0xf8 ∷ []

-- "hi", from the engine and from the RBC
abbrev hi : List ℕ
hi = 0x68 ∷ 0x69 ∷ []

abbrev hi_up : List ℕ
hi_up = 0x0a ∷ 0x68 ∷ 0x69 ∷ 0xe2 ∷ 0xc8 ∷ 0xac ∷ 0xba ∷ 0x3b ∷ 0x97 ∷ 0x7c ∷ 0x28 ∷ []

abbrev hi_down : List ℕ
hi_down = 0x0b ∷ 0x68 ∷ 0x69 ∷ 0x27 ∷ 0xf5 ∷ 0x73 ∷ 0xfe ∷ 0x14 ∷ 0x55 ∷ 0xd1 ∷ 0x10 ∷ []

record Computed : Type 0 where
  pub keys : session_keys kmac ra rb ≡ ks
  pub of_au2 : au2_unit ks rbc engine ra rb ≡ au2
  pub of_au3 : au3_unit ks rbc ra rb ≡ au3
  pub of_ar : ar_unit ks engine ≡ ar
  pub up : unit_of ks (etcs_id rbc) false hi ≡ hi_up
  pub down : unit_of ks (etcs_id engine) true hi ≡ hi_down

computed : Computed
unfolding au2_text au2_mac au2_unit au3_mac au3_unit ar_mac ar_unit message unit_of bits value_from value bits_of_bytes bytes_of_bits xor_bits permute row column select selects cipher_function swap shift_both shifted subkey round rounds cipher encipher_bits decipher_bits ip ip_inverse e p pc1 pc2 shifts sboxes part block left right triple ks1 ks2 ks3 odd ones session_keys chain finish cbc_mac unpadded padded mac_string mac
computed = record { keys = refl; of_au2 = refl; of_au3 = refl; of_ar = refl; up = refl; down = refl }

-- ---- the units that go out

pub shared-key : shared_key sides ≡ ks
shared-key = ap (λ (k : List ℕ). session_keys k ra rb) kmac-held ∙ computed.keys

pub first-unit : unit_sent (step1 sides) ≡ 0x42 ∷ 0xe6 ∷ 0xa5 ∷ 0x4b ∷ 0x01 ∷ 0xb0 ∷ 0xb1 ∷ 0xb2 ∷ 0xb3 ∷ 0xb4 ∷ 0xb5 ∷ 0xb6 ∷ 0xb7 ∷ []
unfolding au1_unit
first-unit = (first sides ready).unit_is

pub second-unit : unit_sent (step2 sides) ≡ au2
second-unit = (second sides ready).unit_is ∙ ap (λ (k : List ℕ). au2_unit k rbc engine ra rb) shared-key ∙ computed.of_au2

pub third-unit : unit_sent (step3 sides) ≡ au3
third-unit = (third sides ready).unit_is ∙ ap (λ (k : List ℕ). au3_unit k rbc ra rb) shared-key ∙ computed.of_au3

pub answer-unit : unit_sent (step5 sides) ≡ ar
answer-unit = (fifth sides ready).unit_is ∙ ap (λ (k : List ℕ). ar_unit k engine) shared-key ∙ computed.of_ar

-- the engine says "hi", and the RBC answers
pub unit-up : unit_sent (step (data_request hi) (step6 sides).connection (replicate 1032 0)) ≡ hi_up
unit-up =
    let s = completes.completes sides ready in
    unit-there (step6 sides).connection (step5 sides).connection hi (replicate 1032 0) s.to_called (omega arith) (omega arith) ready.room_b
    ∙ ap (λ (c : Connection). unit_of c.key (etcs_id c.own) (not c.responder) hi) s.called_is
    ∙ ap (λ (k : List ℕ). unit_of k (etcs_id rbc) false hi) shared-key ∙ computed.up

pub unit-down : unit_sent (step (data_request hi) (step5 sides).connection (replicate 1032 0)) ≡ hi_down
unit-down =
    let s = completes.completes sides ready in
    unit-there (step5 sides).connection (step6 sides).connection hi (replicate 1032 0) s.to_caller (omega arith) (omega arith) ready.room_a
    ∙ ap (λ (c : Connection). unit_of c.key (etcs_id c.own) (not c.responder) hi) s.caller_is
    ∙ ap (λ (k : List ℕ). unit_of k (etcs_id engine) true hi) shared-key ∙ computed.down
