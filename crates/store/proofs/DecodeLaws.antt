-- A sound store is the encoding of its entries.
-- Assumes nothing.
use mathlib.Core.Path.{◌≡◌, refl, sym, ap, ◌∙◌}
use mathlib.Core.Bool.{true}
use mathlib.Core.List.{List, ◌∷◌, ◌++◌}
use Prim.Native.Nat.{ℕ, zero, suc, ◌+◌, ◌*◌, ◌-◌, ◌≤◌, ◌<◌}
use native.Mathlib.Nat.{add-suc, suc-add, add-zero, zero-add, add_assoc}
use native.Mathlib.Omega.{arith}
use lib.ListN.{length, replicate, length-append}
use Rattle.octets.specs.Bytes.{Bytes, be16, part}
use Rattle.octets.specs.Words.{numbers, words}
use Rattle.octets.proofs.NumberLaws.{part-be16, part-be32}
use Rattle.octets.proofs.PartLaws.{part_none, part_length, part-whole, all_zero-part}
use Rattle.octets.proofs.WordLaws.{join, part_cut, part-words, length-numbers, words_append}
use Rattle.store.specs.Layout.{record_at, peers_at, total}
use Rattle.store.specs.Store.{Entry, header, key_record, key_records, peers_of, encode, entries, entries_from, entry_at, first, count, key_count, peer_count, sum_before, sound}
use Rattle.store.specs.declared.Limits.{Limits}
use Rattle.store.proofs.EncodingLaws.{LongKeys}
use Rattle.store.proofs.SoundLaws.{Sound, sound_says}

pub entries_from-length : (L : Limits) (s : List ℕ) (i n : ℕ) → length (entries_from L s i n) ≡ n
unfolding entries_from
entries_from-length L s i zero = refl
entries_from-length L s i (suc n) = ap suc (entries_from-length L s (suc i) n)

pub entries-length : (L : Limits) (s : List ℕ) → length (entries L s) ≡ key_count s
unfolding entries
entries-length L s = entries_from-length L s 0 (key_count s)

pub entries_from-split : (L : Limits) (s : List ℕ) (n m i : ℕ) → entries_from L s i (n + suc m) ≡ entries_from L s i n ++ (entry_at L s (i + n) ∷ entries_from L s (suc (i + n)) m)
unfolding entries_from
entries_from-split L s zero m i =
    ap (λ (x : ℕ). entries_from L s i x) (zero-add (suc m)) ∙ ap (λ (x : ℕ). entry_at L s x ∷ entries_from L s (suc x) m) (sym (add-zero i))
entries_from-split L s (suc n) m i =
    ap (λ (x : ℕ). entries_from L s i x) (suc-add n (suc m))
    ∙ ap (λ (x : List Entry). entry_at L s i ∷ x)
    (entries_from-split L s n m (suc i)
    ∙ ap (λ (x : ℕ). entries_from L s (suc i) n ++ (entry_at L s x ∷ entries_from L s (suc x) m)) (suc-add i n ∙ sym (add-suc i n)))

pub entries_from-long : (L : Limits) (s : List ℕ) (n i : ℕ) → record_at i + 44 * n ≤ length s → LongKeys (entries_from L s i n)
unfolding entries_from LongKeys
entries_from-long L s zero i h = tt
entries_from-long L s (suc n) i h = (part_length s (record_at i + 8) 24 (omega arith), entries_from-long L s n (suc i) (omega arith))

-- the peer counts of n records from record i
unfoldable pub sum_from : List ℕ → ℕ → ℕ → ℕ
sum_from s i zero = 0
sum_from s i (suc n) = count s i + sum_from s (suc i) n

pub sum_before-add : (s : List ℕ) (n i : ℕ) → sum_before s (i + n) ≡ sum_before s i + sum_from s i n
unfolding sum_from sum_before
sum_before-add s zero i = ap (λ (k : ℕ). sum_before s k) (add-zero i) ∙ sym (add-zero (sum_before s i))
sum_before-add s (suc n) i =
    ap (λ (k : ℕ). sum_before s k) (add-suc i n ∙ sym (suc-add i n)) ∙ sum_before-add s n (suc i) ∙ add_assoc (sum_before s i) (count s i) (sum_from s (suc i) n)

sum_from-start : (s : List ℕ) (n : ℕ) → sum_from s 0 n ≡ sum_before s n
unfolding sum_before
sum_from-start s n = sym (zero-add (sum_from s 0 n)) ∙ sym (sum_before-add s n 0) ∙ ap (λ (k : ℕ). sum_before s k) (zero-add n)

peers-from : (L : Limits) (s : List ℕ) (n i : ℕ) → length (peers_of (entries_from L s i n)) ≡ sum_from s i n
unfolding peers_of entries_from sum_from
peers-from L s zero i = refl
peers-from L s (suc n) i =
    length-append (numbers s (peers_at L + 4 * first s i) (count s i)) (peers_of (entries_from L s (suc i) n))
    ∙ ap (λ (x : ℕ). x + length (peers_of (entries_from L s (suc i) n))) (length-numbers s (peers_at L + 4 * first s i) (count s i))
    ∙ ap (λ (x : ℕ). count s i + x) (peers-from L s n (suc i))

pub peers-before : (L : Limits) (s : List ℕ) (n : ℕ) → length (peers_of (entries_from L s 0 n)) ≡ sum_before s n
peers-before L s n = peers-from L s n 0 ∙ sum_from-start s n

pub peers-length : (L : Limits) (s : List ℕ) → Sound L s → length (peers_of (entries L s)) ≡ peer_count s
unfolding entries
peers-length L s w = peers-before L s (key_count s) ∙ w.sum

-- ---- each part of a store is that part of the encoding

module _ (L : Limits) (s : List ℕ) (b : Bytes s) where
  record_part : (i : ℕ) → record_at i + 44 ≤ length s → part s (record_at i) 44 ≡ key_record (first s i) (entry_at L s i)
  unfolding key_record
  record_part i h =
      let a : ℕ = record_at i in
      part_cut s a 4 40 (a + 4) 44 refl refl
      ∙ join (part-be32 s a b (omega arith))
      (part_cut s (a + 4) 4 36 (a + 8) 40 (omega arith) refl
      ∙ join (part-be32 s (a + 4) b (omega arith))
      (part_cut s (a + 8) 24 12 (a + 32) 36 (omega arith) refl
      ∙ ap (λ (r : List ℕ). part s (a + 8) 24 ++ r)
      (part_cut s (a + 32) 4 8 (a + 36) 12 (omega arith) refl
      ∙ join (part-be32 s (a + 32) b (omega arith))
      (part_cut s (a + 36) 4 4 (a + 40) 8 (omega arith) refl
      ∙ join (part-be32 s (a + 36) b (omega arith))
      (part_cut s (a + 40) 2 2 (a + 42) 4 (omega arith) refl
      ∙ join (part-be16 s (a + 40) b (omega arith))
      (part-be16 s (a + 42) b (omega arith) ∙ ap be16 (sym (length-numbers s (peers_at L + 4 * first s i) (count s i)))))))))

  records-part : (n i : ℕ) → record_at i + 44 * n ≤ length s → ((j : ℕ) → j < i + n → first s j ≡ sum_before s j)
      → part s (record_at i) (44 * n) ≡ key_records (sum_before s i) (entries_from L s i n)
  unfolding key_records entries_from sum_before
  records-part zero i h f = part_none s (record_at i)
  records-part (suc n) i h f =
      part_cut s (record_at i) 44 (44 * n) (record_at (suc i)) (44 * suc n) (omega arith) (omega arith)
      ∙ join (record_part i (omega arith) ∙ ap (λ (p : ℕ). key_record p (entry_at L s i)) (f i (omega arith)))
      (records-part n (suc i) (omega arith) (λ j l. f j (omega arith))
      ∙ ap (λ (p : ℕ). key_records (sum_before s i + p) (entries_from L s (suc i) n)) (sym (length-numbers s (peers_at L + 4 * first s i) (count s i))))

  peers-part : (n i : ℕ) → peers_at L + 4 * (sum_before s i + sum_from s i n) ≤ length s → ((j : ℕ) → j < i + n → first s j ≡ sum_before s j)
      → part s (peers_at L + 4 * sum_before s i) (4 * sum_from s i n) ≡ words (peers_of (entries_from L s i n))
  unfolding peers_of entries_from sum_from sum_before words
  peers-part zero i h f = part_none s (peers_at L + 4 * sum_before s i)
  peers-part (suc n) i h f =
      let at : ℕ = peers_at L + 4 * sum_before s i in
      let e : peers_at L + 4 * first s i ≡ at = ap (λ (x : ℕ). peers_at L + 4 * x) (f i (omega arith)) in
      part_cut s at (4 * count s i) (4 * sum_from s (suc i) n) (peers_at L + 4 * sum_before s (suc i)) (4 * (count s i + sum_from s (suc i) n)) (omega arith) (omega arith)
      ∙ join (part-words s b (count s i) at (omega arith) ∙ ap (λ (x : ℕ). words (numbers s x (count s i))) (sym e))
      (peers-part n (suc i) (omega arith) (λ j l. f j (omega arith)))
      ∙ sym (words_append (numbers s (peers_at L + 4 * first s i) (count s i)) (peers_of (entries_from L s (suc i) n)))

module _ (L : Limits) (s : List ℕ) (b : Bytes s) (w : Sound L s) where
  header-part : part s 0 12 ≡ header L (key_count s) (peer_count s)
  unfolding header
  header-part =
      let size : length s ≡ total L = w.size in
      part_cut s 0 2 10 2 12 refl refl
      ∙ join (part-be16 s 0 b (omega arith) ∙ ap be16 w.edition_is)
      (part_cut s 2 2 8 4 10 refl refl
      ∙ join (part-be16 s 2 b (omega arith))
      (part_cut s 4 2 6 6 8 refl refl
      ∙ join (part-be16 s 4 b (omega arith) ∙ ap be16 w.keys_at)
      (part_cut s 6 2 4 8 6 refl refl
      ∙ join (part-be16 s 6 b (omega arith))
      (part_cut s 8 2 2 10 4 refl refl
      ∙ join (part-be16 s 8 b (omega arith) ∙ ap be16 w.peers_at_lem) (part-be16 s 10 b (omega arith) ∙ ap be16 w.total_is)))))

  sound-encode : s ≡ encode L (entries L s)
  unfolding encode entries sum_before
  sound-encode =
      let n : ℕ = key_count s in
      let m : ℕ = peer_count s in
      let K : ℕ = L.keys in
      let P : ℕ = L.peers in
      let size : length s ≡ 12 + 44 * K + 4 * P = w.size in
      let n_k : n ≤ K = w.keys_fit in
      let m_p : m ≤ P = w.peers_fit in
      let es : List Entry = entries_from L s 0 n in
      let le : length es ≡ n = entries_from-length L s 0 n in
      let sa : sum_from s 0 n ≡ m = sum_from-start s n ∙ w.sum in
      let lp : length (peers_of es) ≡ m = peers-from L s n 0 ∙ sa in
      let fs : (j : ℕ) → j < 0 + n → first s j ≡ sum_before s j = λ j l. w.sums j (omega arith) in
      sym (part-whole s (12 + 44 * K + 4 * P) size)
      ∙ part_cut s 0 12 (44 * K + 4 * P) 12 (12 + 44 * K + 4 * P) refl (omega arith)
      ∙ join (header-part ∙ ap (λ (x : ℕ). header L x m) (sym le) ∙ ap (λ (x : ℕ). header L (length es) x) (sym lp))
      (part_cut s 12 (44 * n) (44 * (K - n) + 4 * P) (12 + 44 * n) (44 * K + 4 * P) refl (omega arith)
      ∙ join (records-part L s b n 0 (omega arith) fs)
      (part_cut s (12 + 44 * n) (44 * (K - n)) (4 * P) (12 + 44 * K) (44 * (K - n) + 4 * P) (omega arith) refl
      ∙ join (all_zero-part s (12 + 44 * n) (44 * (K - n)) (omega arith) w.keys_free ∙ ap (λ (x : ℕ). replicate (44 * (K - x)) 0) (sym le))
      (part_cut s (12 + 44 * K) (4 * m) (4 * (P - m)) (12 + 44 * K + 4 * m) (4 * P) refl (omega arith)
      ∙ join (ap (λ (x : ℕ). part s (12 + 44 * K) (4 * x)) (sym sa) ∙ ap (λ (x : ℕ). part s x (4 * sum_from s 0 n)) (sym (add-zero (12 + 44 * K))) ∙ peers-part L s b n 0 (omega arith) fs)
      (all_zero-part s (12 + 44 * K + 4 * m) (4 * (P - m)) (omega arith) w.peers_free
      ∙ ap (λ (x : ℕ). replicate (4 * (P - x)) 0) (sym lp)))))

-- a sound store is the encoding of its entries
pub encode-entries : (L : Limits) (s : List ℕ) → Bytes s → sound L s ≡ true → s ≡ encode L (entries L s)
encode-entries L s b h = sound-encode L s b (sound_says L s h)
