-- The bytes after a record is taken out: its peers are gone, and the gap in the records is closed.
-- Assumes nothing.
use mathlib.Core.Path.{◌≡◌, refl, sym, ap, ◌∙◌}
use mathlib.Core.List.{List, [], ◌∷◌, ◌++◌, append_assoc}
use Prim.Native.Nat.{ℕ, ◌+◌, ◌*◌, ◌-◌, ◌≤◌}
use native.Mathlib.Omega.{arith}
use lib.ListN.{length, replicate, length-append}
use Rattle.octets.specs.Bytes.{be16, splice, closed}
use Rattle.octets.specs.Words.{numbers, words}
use Rattle.octets.proofs.SpliceLaws.{closed_mid}
use Rattle.octets.proofs.WordLaws.{join, words_append}
use Rattle.store.specs.Store.{Entry, header, key_record, key_records, peers_of, encode, entries}
use Rattle.store.specs.Request.{remove_at, update_at, with_peers}
use Rattle.store.specs.declared.Limits.{Limits}
use Rattle.store.proofs.EncodingLaws.{front_length, key_record-length, key_records-length, peers_of-append, key_records-append, encode_as}
use Rattle.requests.proofs.RecordLaws.{header-keys}
use Rattle.requests.proofs.AroundLaws.{Parts, Around, zeros-join, encode-parts, remove_at-middle, update_at-middle}
use Rattle.requests.proofs.ValidityLaws.{group-middle}
use Rattle.requests.proofs.PeersLaws.{new-parts}

group-closed : (h r q o z t : List ℕ) → (h ++ r) ++ (q ++ (o ++ (z ++ t))) ≡ h ++ ((r ++ q) ++ ((o ++ z) ++ t))
group-closed h r q o z t = simp append_assoc

-- ---- sums and differences

less_one : (n i p : ℕ) → n ≡ i + 1 + p → (n - i - 1 ≡ p) × (i + p ≡ n - 1)
less_one n i p e = (omega arith, omega arith)

keys_free : (K n i p : ℕ) → n ≤ K → n ≡ i + 1 + p → 44 + 44 * (K - n) ≡ 44 * (K - (n - 1))
keys_free K n i p h e = omega arith

-- ---- a record with no peers, taken out

module _ (L : Limits) (pre : List Entry) (e : Entry) (post : List Entry) (i n m f : ℕ) (a : Parts L pre (with_peers [] e) post i n m f 0) where
  abbrev H : List ℕ
  H = header L n m

  abbrev R : List ℕ
  R = key_records 0 pre

  abbrev E : List ℕ
  E = key_record f (with_peers [] e)

  abbrev Q : List ℕ
  Q = key_records (f + 0) post

  abbrev O : List ℕ
  O = replicate 44 0

  abbrev Z : List ℕ
  Z = replicate (44 * (L.keys - n)) 0

  -- the peers, and what is free behind them
  abbrev T : List ℕ
  T = (words (peers_of pre) ++ words (peers_of post)) ++ replicate (4 * (L.peers - m)) 0

  behind_record : length Q ≡ 44 * (n - i - 1)
  behind_record = key_records-length (f + 0) post a.long_post ∙ ap (λ (x : ℕ). 44 * x) (sym (less_one n i (length post) a.keys).0)

  with_record : encode L (pre ++ (with_peers [] e ∷ post)) ≡ (H ++ R) ++ (E ++ (Q ++ (Z ++ T)))
  unfolding words
  with_record = encode-parts L pre (with_peers [] e) post i n m f 0 a ∙ group-middle H R E Q (Z ++ T)

  without_record : encode L (pre ++ post) ≡ header L (n - 1) m ++ ((R ++ Q) ++ ((O ++ Z) ++ T))
  without_record =
      let n' : ℕ = n - 1 in
      let keys : length (pre ++ post) ≡ n' = length-append pre post ∙ ap (λ (x : ℕ). x + length post) a.place ∙ (less_one n i (length post) a.keys).1 in
      let peers : length (peers_of pre ++ peers_of post) ≡ m = length-append (peers_of pre) (peers_of post) ∙ omega (arith, a.peers, a.first_is) in
      let first : 0 + length (peers_of pre) ≡ f + 0 = omega (arith, a.first_is) in
      encode_as L (pre ++ post) (peers_of pre ++ peers_of post) n' m keys (peers_of-append pre post) peers
      ∙ ap (λ (x : List ℕ). header L n' m ++ x)
      (join (key_records-append 0 pre post ∙ ap (λ (x : ℕ). R ++ key_records x post) first)
      (join (sym (zeros-join 44 (44 * (L.keys - n)) (44 * (L.keys - n')) (keys_free L.keys n i (length post) a.keys_fit a.keys)))
      (join (words_append (peers_of pre) (peers_of post)) refl)))

  taken_out : splice (closed (encode L (pre ++ (with_peers [] e ∷ post))) (12 + 44 * i) 44 (44 * (n - i - 1))) 2 (be16 (n - 1)) ≡ encode L (pre ++ post)
  taken_out =
      ap (λ (x : List ℕ). splice x 2 (be16 (n - 1)))
      (ap (λ (x : List ℕ). closed x (12 + 44 * i) 44 (44 * (n - i - 1))) with_record
      ∙ closed_mid (H ++ R) E Q (Z ++ T) (12 + 44 * i) 44 (44 * (n - i - 1)) (front_length L pre n m i a.long_pre a.place) (key_record-length f (with_peers [] e) a.long) behind_record
      ∙ group-closed H R Q O Z T)
      ∙ header-keys L n m (n - 1) ((R ++ Q) ++ ((O ++ Z) ++ T))
      ∙ sym without_record

-- what the calls of a removal leave
pub removed_written : (L : Limits) (s : List ℕ) (i n m f k : ℕ) (t u v : List ℕ) → Around L s i n m f k
    → t ≡ encode L (update_at i (with_peers (numbers [] 0 0)) (entries L s))
    → u ≡ closed t (12 + 44 * i) 44 (44 * (n - i - 1))
    → v ≡ splice u 2 (be16 (n - 1))
    → v ≡ encode L (remove_at i (entries L s))
unfolding numbers
removed_written L s i n m f k t u v o et eu ev =
    let p : Parts L o.pre o.e o.post i n m f k = o.parts in
    let fits : m ≤ L.peers = p.peers_fit in
    ev ∙ ap (λ (x : List ℕ). splice x 2 (be16 (n - 1)))
    (eu ∙ ap (λ (x : List ℕ). closed x (12 + 44 * i) 44 (44 * (n - i - 1)))
    (et ∙ ap (encode L) (ap (update_at i (with_peers [])) o.cut ∙ update_at-middle o.pre o.e o.post (with_peers []) i p.place)))
    ∙ taken_out L o.pre o.e o.post i n (m - k + 0) f (new-parts L o.pre o.e o.post i n m f k p [] 0 refl (omega arith))
    ∙ ap (encode L) (sym (ap (remove_at i) o.cut ∙ remove_at-middle o.pre o.e o.post i p.place))
