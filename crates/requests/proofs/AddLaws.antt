-- The bytes after a record is put behind the others.
-- Assumes nothing.
use mathlib.Core.Path.{◌≡◌, refl, sym, ap, ◌∙◌}
use mathlib.Core.Bool.{true}
use mathlib.Core.List.{List, [], ◌∷◌, ◌++◌, append_assoc, append-nil}
use Prim.Native.Nat.{ℕ, ◌+◌, ◌*◌, ◌-◌, ◌/◌, ◌≤◌, ◌<◌}
use native.Mathlib.Nat.{zero-add}
use native.Mathlib.Omega.{arith}
use lib.ListN.{length, replicate, length-append, length-replicate}
use Rattle.octets.specs.Bytes.{Bytes, splice}
use Rattle.octets.specs.Words.{words}
use Rattle.octets.proofs.SpliceLaws.{splice_mid}
use Rattle.octets.proofs.WordLaws.{length-numbers, length-words, words_append}
use Rattle.store.specs.Store.{Entry, header, key_record, key_records, peers_of, encode, entries, key_count, peer_count, sound}
use Rattle.store.specs.declared.Limits.{Limits}
use Rattle.store.proofs.EncodingLaws.{LongKeys, front_length, key_record-length, peers_of-append, key_records-append, encode_as}
use Rattle.store.proofs.SoundLaws.{Sound, sound_says}
use Rattle.store.proofs.DecodeLaws.{entries_from-long, entries-length, peers-length, encode-entries}
use Rattle.requests.specs.declared.entry.Addition.{Addition}
use Rattle.requests.specs.Edit.{with_counts}
use Rattle.requests.specs.Worked.{peer_numbers, new_entry}
use Rattle.requests.proofs.RecordLaws.{header-counts}
use Rattle.requests.proofs.AroundLaws.{zeros-join}

-- ---- the lists, regrouped before the record and before its peers

group_free : (h r o z f y : List ℕ) → h ++ (r ++ ((o ++ z) ++ (f ++ y))) ≡ (h ++ r) ++ (o ++ (z ++ (f ++ y)))
group_free h r o z f y = simp append_assoc

group-peers : (h r e z f q y : List ℕ) → (h ++ r) ++ (e ++ (z ++ (f ++ (q ++ y)))) ≡ (((h ++ r) ++ e) ++ (z ++ f)) ++ (q ++ y)
group-peers h r e z f q y = simp append_assoc

group-entries : (h r e z f q y : List ℕ) → (((h ++ r) ++ e) ++ (z ++ f)) ++ (q ++ y) ≡ h ++ ((r ++ (e ++ [])) ++ (z ++ ((f ++ q) ++ y)))
group-entries h r e z f q y = simp (append_assoc, append-nil)

-- ---- sums and differences

one_less : (K n : ℕ) → n < K → 44 + 44 * (K - (n + 1)) ≡ 44 * (K - n)
one_less K n h = omega arith

some-less : (P m k : ℕ) → m + k ≤ P → 4 * k + 4 * (P - (m + k)) ≡ 4 * (P - m)
some-less P m k h = omega arith

before-peers : (a b c d K n m : ℕ) → a ≡ 12 + 44 * n → b ≡ 44 → c ≡ 44 * (K - (n + 1)) → d ≡ 4 * m → n < K → a + b + (c + d) ≡ 12 + 44 * K + 4 * m
before-peers a b c d K n m p q r t h = omega arith

module _ (L : Limits) (es : List Entry) (e : Entry) (n m k : ℕ) (long : LongKeys es) (long-e : length e.kmac ≡ 24)
    (en : n ≡ length es) (em : m ≡ length (peers_of es)) (ek : k ≡ length e.peers) (hn : n < L.keys) (hm : m + k ≤ L.peers) where
  abbrev K : ℕ
  K = L.keys

  abbrev P : ℕ
  P = L.peers

  abbrev H : List ℕ
  H = header L n m

  abbrev R : List ℕ
  R = key_records 0 es

  abbrev E : List ℕ
  E = key_record m e

  abbrev Z : List ℕ
  Z = replicate (44 * (K - (n + 1))) 0

  abbrev F : List ℕ
  F = words (peers_of es)

  abbrev Q : List ℕ
  Q = words e.peers

  abbrev Y : List ℕ
  Y = replicate (4 * (P - (m + k))) 0

  at_record : length (H ++ R) ≡ 12 + 44 * n
  at_record = front_length L es n m n long (sym en)

  at-peers : length (((H ++ R) ++ E) ++ (Z ++ F)) ≡ 12 + 44 * K + 4 * m
  at-peers =
      length-append ((H ++ R) ++ E) (Z ++ F)
      ∙ ap (λ (x : ℕ). x + length (Z ++ F)) (length-append (H ++ R) E)
      ∙ ap (λ (x : ℕ). length (H ++ R) + length E + x) (length-append Z F)
      ∙ before-peers (length (H ++ R)) (length E) (length Z) (length F) K n m at_record (key_record-length m e long-e) (length-replicate {A = ℕ} (44 * (K - (n + 1))) 0)
      (length-words (peers_of es) ∙ ap (λ (x : ℕ). 4 * x) (sym em)) hn

  -- the free room, with that of one record and its peers apart
  room_apart : encode L es ≡ (H ++ R) ++ (replicate 44 0 ++ (Z ++ (F ++ (replicate (4 * k) 0 ++ Y))))
  room_apart =
      encode_as L es (peers_of es) n m (sym en) refl (sym em)
      ∙ ap (λ (x : List ℕ). H ++ (R ++ (x ++ (F ++ replicate (4 * (P - m)) 0)))) (sym (zeros-join 44 (44 * (K - (n + 1))) (44 * (K - n)) (one_less K n hn)))
      ∙ ap (λ (x : List ℕ). H ++ (R ++ ((replicate 44 0 ++ Z) ++ (F ++ x)))) (sym (zeros-join (4 * k) (4 * (P - (m + k))) (4 * (P - m)) (some-less P m k hm)))
      ∙ group_free H R (replicate 44 0) Z F (replicate (4 * k) 0 ++ Y)

  encode_more : encode L (es ++ (e ∷ [])) ≡ header L (n + 1) (m + k) ++ ((R ++ (E ++ [])) ++ (Z ++ ((F ++ Q) ++ Y)))
  unfolding key_records peers_of
  encode_more =
      encode_as L (es ++ (e ∷ [])) (peers_of es ++ e.peers) (n + 1) (m + k) (length-append es (e ∷ []) ∙ ap (λ (x : ℕ). x + 1) (sym en))
      (peers_of-append es (e ∷ []) ∙ ap (λ (x : List ℕ). peers_of es ++ x) (append-nil e.peers))
      (length-append (peers_of es) e.peers ∙ omega arith)
      ∙ ap (λ (x : List ℕ). header L (n + 1) (m + k) ++ (x ++ (Z ++ (words (peers_of es ++ e.peers) ++ Y))))
      (key_records-append 0 es (e ∷ []) ∙ ap (λ (x : ℕ). R ++ (key_record x e ++ [])) (zero-add (length (peers_of es)) ∙ sym em))
      ∙ ap (λ (x : List ℕ). header L (n + 1) (m + k) ++ ((R ++ (E ++ [])) ++ (Z ++ (x ++ Y)))) (words_append (peers_of es) e.peers)

  put-behind : with_counts (splice (splice (encode L es) (12 + 44 * n) E) (12 + 44 * K + 4 * m) Q) (n + 1) (m + k) ≡ encode L (es ++ (e ∷ []))
  put-behind =
      let O : List ℕ = replicate (4 * k) 0 in
      ap (λ (x : List ℕ). with_counts (splice (splice x (12 + 44 * n) E) (12 + 44 * K + 4 * m) Q) (n + 1) (m + k)) room_apart
      ∙ ap (λ (x : List ℕ). with_counts (splice x (12 + 44 * K + 4 * m) Q) (n + 1) (m + k))
      (splice_mid (H ++ R) (replicate 44 0) (Z ++ (F ++ (O ++ Y))) E (12 + 44 * n) at_record (length-replicate {A = ℕ} 44 0 ∙ sym (key_record-length m e long-e))
      ∙ group-peers H R E Z F O Y)
      ∙ ap (λ (x : List ℕ). with_counts x (n + 1) (m + k))
      (splice_mid (((H ++ R) ++ E) ++ (Z ++ F)) O Y Q (12 + 44 * K + 4 * m) at-peers
      (length-replicate {A = ℕ} (4 * k) 0 ∙ ap (λ (x : ℕ). 4 * x) ek ∙ sym (length-words e.peers))
      ∙ group-entries H R E Z F Q Y)
      ∙ header-counts L n m (n + 1) (m + k) ((R ++ (E ++ [])) ++ (Z ++ ((F ++ Q) ++ Y)))
      ∙ sym encode_more

-- what the calls of an addition leave
pub added-written : (L : Limits) (s : List ℕ) (new : Addition) (n m : ℕ) (t u v : List ℕ) → Bytes s → sound L s ≡ true
    → key_count s < L.keys → peer_count s + length new.peers.bytes.now / 4 ≤ L.peers → n ≡ key_count s → m ≡ peer_count s
    → t ≡ splice s (12 + 44 * n) (key_record m (new_entry new))
    → u ≡ splice t (12 + 44 * L.keys + 4 * m) (words (peer_numbers new.peers))
    → v ≡ with_counts u (n + 1) (m + length new.peers.bytes.now / 4)
    → v ≡ encode L (entries L s ++ (new_entry new ∷ []))
unfolding entries
added-written L s new n m t u v b h hn hm en em et eu ev =
    let w : Sound L s = sound_says L s h in
    let size : length s ≡ 12 + 44 * L.keys + 4 * L.peers = w.size in
    let e : Entry = new_entry new in
    let c : ℕ = length new.peers.bytes.now / 4 in
    let K : ℕ = L.keys in
    ev ∙ ap (λ (x : List ℕ). with_counts x (n + 1) (m + c))
    (eu ∙ ap (λ (x : List ℕ). splice x (12 + 44 * K + 4 * m) (words e.peers)) (et ∙ ap (λ (x : List ℕ). splice x (12 + 44 * n) (key_record m e)) (encode-entries L s b h)))
    ∙ put-behind L (entries L s) e n m c (entries_from-long L s (key_count s) 0 (omega arith)) new.kmac_long
    (en ∙ sym (entries-length L s)) (em ∙ sym (peers-length L s w)) (sym (length-numbers new.peers.bytes.now 0 c)) (omega arith) (omega arith)
