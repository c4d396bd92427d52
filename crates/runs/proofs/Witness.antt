-- The hypotheses of demand 3 can be met with keys that differ: two stores, and two messages, whose keys are unlike.
-- Assumes nothing.
use mathlib.Core.Path.{◌≡◌, refl, sym, ap, ◌∙◌, subst}
use mathlib.Core.Bool.{Bool, true, false, ◌&&◌, ◌||◌}
use mathlib.Core.List.{List, [], ◌∷◌, ◌++◌}
use Prim.Native.Nat.{ℕ, zero, suc, ◌+◌, ◌%◌, ◌<◌}
use native.Mathlib.Nat.{add-zero, zero-add, add-suc, suc-add}
use native.Mathlib.Omega.{arith}
use lib.ListN.{length, get_or, replicate}
use lib.Dec.{ltb, eqb}
use lib.Count.{ones}
use borrow.Author.Tests.{eqb-true, ltb-true}
use Rattle.std.specs.Prelude.{Ok}
use Rattle.octets.specs.Bytes.{be16, be32, part, splice, all_zero, same, all_below}
use Rattle.octets.specs.Words.{numbers, words}
use Rattle.octets.proofs.BoolLaws.{clash, and_left, and_right}
use Rattle.store.specs.declared.Limits.{Limits}
use Rattle.store.specs.Layout.{edition1, edition2, edition_in, edition_of}
use Rattle.store.specs.Store.{peers_of, header, key_record, key_records, encode, entries_from, entries, all_hold, header_ok, counts_ok, sum_before, sums_ok, new_key, unique_ok, all_odd, parity_ok, unused_ok, sound}
use Rattle.store.specs.Search.{place_where}
use Rattle.store.specs.Request.{first_reason, result, done, after, work}
use Rattle.message.specs.Header.{kind_of}
use Rattle.message.specs.Body.{size_at, fields_ok, request_at, fields_from, requests_from, requests, body_ok, well_formed_add}
use Rattle.session.specs.declared.Received.TheVariants.{Reply}
use Rattle.session.specs.Rules.{reply, Outcome, respond, first_failed, all_pass, verdict, heard, obey, in_state, receive_in, receive}
use Rattle.runs.specs.Calls.{Call, brings, World, seen, next, all_seen, final}
use Rattle.runs.specs.Alike.{in_keys_from, in_message_key, in_record_key, in_store_key, DifferAt, AlikeMessages, no_calls, alike-message, is_sound, AlikeStores}
use Rattle.runs.specs.Tally.{tags, without, tagged, all_tagged, tally_from}
use Rattle.runs.specs.Secrecy.{none_unlike, tally_of, Alike}
use Rattle.runs.specs.CodeRuns.{Handed, by-message, CodeRun, code-ends, code-message, AlikeCode}
use Rattle.runs.specs.Starred.{expecting, from2to1, numbered, k_struct}
use Rattle.runs.proofs.Theorem.{secrecy}
use Rattle.runs.proofs.CodeRunLaws.{secrecy_of_calls}

-- ---- alike, as a test

-- two bytes of the same parity, the same but where b says so
byte_test : Bool → ℕ → ℕ → Bool
byte_test b x y = (b || eqb x y) && (eqb (ones x % 2) (ones y % 2) && (ltb x 256 && ltb y 256))

alike_test : (ℕ → Bool) → ℕ → List ℕ → List ℕ → Bool
alike_test p at [] [] = true
alike_test p at [] (y ∷ ys) = false
alike_test p at (x ∷ xs) [] = false
alike_test p at (x ∷ xs) (y ∷ ys) = byte_test (p at) x y && alike_test p (suc at) xs ys

record AlikeByte (b : Bool) (x y : ℕ) : Type 0 where
  byte : x < 256
  byte' : y < 256
  equal : b ≡ false → x ≡ y
  parity : ones x % 2 ≡ ones y % 2

or_false : (b : Bool) (x y : ℕ) → (b || eqb x y) ≡ true → b ≡ false → x ≡ y
or_false true x y h q = clash true refl q
or_false false x y h q = eqb-true x y h

byte-says : (b : Bool) (x y : ℕ) → byte_test b x y ≡ true → AlikeByte b x y
unfolding byte_test
byte-says b x y h =
    let c1 : Bool = b || eqb x y in
    let c2 : Bool = eqb (ones x % 2) (ones y % 2) in
    let c3 : Bool = ltb x 256 in
    let c4 : Bool = ltb y 256 in
    let r : (c2 && (c3 && c4)) ≡ true = and_right c1 (c2 && (c3 && c4)) h in
    let t : (c3 && c4) ≡ true = and_right c2 (c3 && c4) r in
    record {
      byte = ltb-true x 256 (and_left c3 c4 t);
      byte' = ltb-true y 256 (and_right c3 c4 t);
      equal = or_false b x y (and_left c1 (c2 && (c3 && c4)) h);
      parity = eqb-true (ones x % 2) (ones y % 2) (and_left c2 (c3 && c4) r);
    }

module _ (p : ℕ → Bool) where
  test-length : (at : ℕ) (a b : List ℕ) → alike_test p at a b ≡ true → length a ≡ length b
  unfolding alike_test
  test-length at [] [] h = refl
  test-length at [] (y ∷ b) h = clash false h refl
  test-length at (x ∷ a) [] h = clash false h refl
  test-length at (x ∷ a) (y ∷ b) h = ap suc (test-length (suc at) a b (and_right (byte_test (p at) x y) (alike_test p (suc at) a b) h))

  test_at : (at : ℕ) (a b : List ℕ) → alike_test p at a b ≡ true → (i : ℕ) → AlikeByte (p (at + i)) (get_or a i 0) (get_or b i 0)
  unfolding alike_test
  test_at at [] [] h i = record { byte = omega arith; byte' = omega arith; equal = λ q. refl; parity = refl }
  test_at at [] (y ∷ b) h i = clash false h refl
  test_at at (x ∷ a) [] h i = clash false h refl
  test_at at (x ∷ a) (y ∷ b) h zero =
      subst (λ (n : ℕ). AlikeByte (p n) x y) (sym (add-zero at)) (byte-says (p at) x y (and_left (byte_test (p at) x y) (alike_test p (suc at) a b) h))
  test_at at (x ∷ a) (y ∷ b) h (suc i) =
      subst (λ (n : ℕ). AlikeByte (p n) (get_or a i 0) (get_or b i 0)) (suc-add at i ∙ sym (add-suc at i))
      (test_at (suc at) a b (and_right (byte_test (p at) x y) (alike_test p (suc at) a b) h) i)

  test-differ : (a b : List ℕ) → alike_test p 0 a b ≡ true → DifferAt p a b
  test-differ a b h = record { same_length = test-length 0 a b h; same_byte = λ i q. (test_at 0 a b h i).equal (ap p (zero-add i) ∙ q) }

test_messages : (m m' : List ℕ) → alike_test (in_message_key m) 0 m m' ≡ true → AlikeMessages m m'
test_messages m m' h =
    record {
      bytes = λ i. (test_at (in_message_key m) 0 m m' h i).byte;
      bytes' = λ i. (test_at (in_message_key m) 0 m m' h i).byte';
      differ = test-differ (in_message_key m) m m' h;
      parity = λ i. (test_at (in_message_key m) 0 m m' h i).parity;
    }

test_stores : (s s' : List ℕ) → alike_test (in_store_key s) 0 s s' ≡ true → is_sound s ≡ true → is_sound s' ≡ true → AlikeStores s s'
test_stores s s' h w w' =
    record {
      bytes = λ i. (test_at (in_store_key s) 0 s s' h i).byte;
      bytes' = λ i. (test_at (in_store_key s) 0 s s' h i).byte';
      sound = w;
      sound' = w';
      differ = test-differ (in_store_key s) s s' h;
    }

-- ---- two runs: a KMAC of the bytes k is held, one more is added, and both are deleted

abbrev holds : Limits → ℕ → List ℕ
holds L k = encode L (record { issuer = 3; serial = 4; kmac = replicate 24 k; start = 10; end = 20; peers = 8 ∷ [] } ∷ [])

abbrev world : Limits → ℕ → World
world L k = record { session = expecting 5; store = holds L k }

abbrev adding : ℕ → List ℕ
adding k = from2to1 5 0 (be16 1 ++ k_struct 3 5 1 (replicate 24 k) (8 ∷ []))

abbrev deleting : List ℕ
deleting = numbered 10 6 1 (be16 2 ++ (be32 3 ++ (be32 4 ++ (be32 3 ++ be32 5))))

abbrev out : List ℕ
out = replicate 1032 0

abbrev added : ℕ → List Call
added k = brings (adding k) out ∷ []

abbrev deleted : ℕ → List Call
deleted k = brings (adding k) out ∷ brings deleting out ∷ []

alike-holds : AlikeStores (holds edition1 1) (holds edition1 7)
unfolding alike_test byte_test in_store_key in_record_key edition_of edition_in peers_of encode header key_record key_records words sound all_hold header_ok counts_ok sums_ok sum_before unique_ok new_key parity_ok all_odd unused_ok all_below all_zero part ones
alike-holds = test_stores (holds edition1 1) (holds edition1 7) refl refl refl

alike-adding : AlikeMessages (adding 1) (adding 7)
unfolding alike_test byte_test in_message_key in_keys_from well_formed_add fields_from fields_ok size_at words ones
alike-adding = test_messages (adding 1) (adding 7) refl

alike-deleting : AlikeMessages deleting deleting
unfolding alike_test byte_test in_message_key well_formed_add ones
alike-deleting = test_messages deleting deleting refl

-- the stores and the messages really differ
stores_differ : holds edition1 1 ≡ holds edition1 7 → ⊥
unfolding encode header key_record key_records
stores_differ q = let z : ◌≡◌ {A = ℕ} 1 7 = ap (λ (s : List ℕ). get_or s 20 0) q in omega arith

messages_differ : adding 1 ≡ adding 7 → ⊥
unfolding words
messages_differ q = let z : ◌≡◌ {A = ℕ} 1 7 = ap (λ (s : List ℕ). get_or s 35 0) q in omega arith

alike-added : Alike (added 1) (added 7) (world edition1 1) (world edition1 7)
alike-added = secrecy.runs (added 1) (added 7) (world edition1 1) (world edition1 7) refl alike-holds (alike-message (adding 1) (adding 7) out alike-adding no_calls)

-- and runs of the code that meet the contracts: the one message, answered with one RESULT
abbrev outcome : ℕ → Outcome
outcome k = receive (expecting 5) (adding k) (holds edition1 k) out

answers : ((outcome 1).answer ≡ reply 24) × ((outcome 7).answer ≡ reply 24)
unfolding receive receive_in edition_of edition_in in_state verdict first_failed heard all_pass obey respond kind_of body_ok fields_from fields_ok size_at requests requests_from request_at work peers_of encode header key_record key_records words sound all_hold header_ok counts_ok sums_ok sum_before unique_ok new_key parity_ok all_odd unused_ok all_below all_zero part ones
answers = (refl, refl)

abbrev handed : ℕ → List Handed
handed k = by-message (Ok (Reply 24)) (outcome k).output ∷ []

abbrev left : ℕ → World
left k = record { session = (outcome k).session; store = (outcome k).store }

code-added : (k : ℕ) → (outcome k).answer ≡ reply 24 → CodeRun (added k) (world edition1 k) (handed k) (left k)
code-added k q = code-message (record { answer_is = sym q; session_is = refl; store_is = refl; output_is = refl }) code-ends

alike-code : AlikeCode (added 1) (added 7) (world edition1 1) (world edition1 7) (handed 1) (handed 7) (left 1) (left 7)
alike-code =
    secrecy_of_calls.runs (added 1) (added 7) (world edition1 1) (world edition1 7) (left 1) (left 7) (handed 1) (handed 7) refl alike-holds
    (alike-message (adding 1) (adding 7) out alike-adding no_calls) (code-added 1 answers.0) (code-added 7 answers.1)

-- both keys are unlike once the one is added, and none is left at the end
abbrev Tallied : Limits → Type 0
Tallied L =
    (tally_of (added 1) (added 7) (world L 1) (world L 7) ≡ record { issuer = 3; serial = 4; unlike = true } ∷ record { issuer = 3; serial = 5; unlike = true } ∷ [])
    × (tally_of (deleted 1) (deleted 7) (world L 1) (world L 7) ≡ [])

tallies : Tallied edition1
unfolding tags tally_from all_seen seen next all_tagged tagged without same receive receive_in edition_of edition_in in_state verdict first_failed heard all_pass obey respond kind_of body_ok fields_from fields_ok size_at requests requests_from request_at work after result first_reason done place_where peers_of encode header key_record key_records words numbers entries entries_from sound all_hold header_ok counts_ok sums_ok sum_before unique_ok new_key parity_ok all_odd unused_ok all_below all_zero part splice ones
tallies = (refl, refl)

-- with both deleted, the stores are equal byte for byte
abbrev Untraced : Limits → Type 0
Untraced L = (final (deleted 1) (world L 1)).store ≡ (final (deleted 7) (world L 7)).store

untraced : (L : Limits) → AlikeStores (holds L 1) (holds L 7) → Tallied L → Untraced L
untraced L a t =
    (secrecy.runs (deleted 1) (deleted 7) (world L 1) (world L 7) refl a
    (alike-message (adding 1) (adding 7) out alike-adding (alike-message deleting deleting out alike-deleting no_calls))).no_trace (ap none_unlike t.1)

no_trace_left : Untraced edition1
no_trace_left = untraced edition1 alike-holds tallies

-- ---- the same in edition 2

alike_holds_2 : AlikeStores (holds edition2 1) (holds edition2 7)
unfolding alike_test byte_test in_store_key in_record_key edition_of edition_in peers_of encode header key_record key_records words sound all_hold header_ok counts_ok sums_ok sum_before unique_ok new_key parity_ok all_odd unused_ok all_below all_zero part ones
alike_holds_2 = test_stores (holds edition2 1) (holds edition2 7) refl refl refl

tallies_2 : Tallied edition2
unfolding tags tally_from all_seen seen next all_tagged tagged without same receive receive_in edition_of edition_in in_state verdict first_failed heard all_pass obey respond kind_of body_ok fields_from fields_ok size_at requests requests_from request_at work after result first_reason done place_where peers_of encode header key_record key_records words numbers entries entries_from sound all_hold header_ok counts_ok sums_ok sum_before unique_ok new_key parity_ok all_odd unused_ok all_below all_zero part splice ones
tallies_2 = (refl, refl)

no_trace_left_2 : Untraced edition2
no_trace_left_2 = untraced edition2 alike_holds_2 tallies_2
