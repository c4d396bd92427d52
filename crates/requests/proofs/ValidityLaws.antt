-- The bytes after start and end of a record are replaced.
-- Assumes nothing.
use mathlib.Core.Path.{◌≡◌, refl, sym, ap, ◌∙◌}
use mathlib.Core.Bool.{true}
use mathlib.Core.List.{List, ◌∷◌, ◌++◌, append_assoc}
use Prim.Native.Nat.{ℕ, ◌+◌, ◌*◌, ◌-◌, ◌<◌}
use lib.ListN.{replicate}
use Rattle.octets.specs.Bytes.{Bytes, be32, splice}
use Rattle.octets.specs.Words.{words}
use Rattle.store.specs.Store.{Entry, header, key_record, key_records, peers_of, encode, entries, first, count, key_count, peer_count, sound}
use Rattle.store.specs.Request.{update_at, valid_for}
use Rattle.store.specs.declared.Limits.{Limits}
use Rattle.store.proofs.EncodingLaws.{front_length}
use Rattle.requests.proofs.RecordLaws.{period_written}
use Rattle.requests.proofs.AroundLaws.{Parts, parts-with, Around, around, encode-parts, update_at-middle}

pub group-middle : (h r e q t : List ℕ) → h ++ ((r ++ (e ++ q)) ++ t) ≡ (h ++ r) ++ (e ++ (q ++ t))
group-middle h r e q t = simp append_assoc

module _ (L : Limits) (pre : List Entry) (e : Entry) (post : List Entry) (i n m f k : ℕ) (p : Parts L pre e post i n m f k) where
  -- the same parts, with another period
  valid_parts : (a b : ℕ) → Parts L pre (valid_for a b e) post i n m f k
  valid_parts a b = parts-with L pre e post i n m f k p (valid_for a b e) m k p.long p.count_is p.peers p.peers_fit

  period_replaced : (a b : ℕ) → splice (encode L (pre ++ (e ∷ post))) (12 + 44 * i + 32) (be32 a ++ be32 b) ≡ encode L (pre ++ (valid_for a b e ∷ post))
  period_replaced a b =
      let H : List ℕ = header L n m in
      let R : List ℕ = key_records 0 pre in
      let Q : List ℕ = key_records (f + k) post in
      let T : List ℕ =
      replicate (44 * (L.keys - n)) 0 ++ ((words (peers_of pre) ++ (words e.peers ++ words (peers_of post))) ++ replicate (4 * (L.peers - m)) 0) in
      ap (λ (x : List ℕ). splice x (12 + 44 * i + 32) (be32 a ++ be32 b)) (encode-parts L pre e post i n m f k p ∙ group-middle H R (key_record f e) Q T)
      ∙ period_written (H ++ R) (Q ++ T) e (12 + 44 * i) f (front_length L pre n m i p.long_pre p.place) p.long a b
      ∙ sym (encode-parts L pre (valid_for a b e) post i n m f k (valid_parts a b) ∙ group-middle H R (key_record f (valid_for a b e)) Q T)

pub validity-written : (L : Limits) (s : List ℕ) (i a b : ℕ) (t : List ℕ) → Bytes s → sound L s ≡ true → i < key_count s
    → t ≡ splice s (12 + 44 * i + 32) (be32 a ++ be32 b) → t ≡ encode L (update_at i (valid_for a b) (entries L s))
validity-written L s i a b t y h l e =
    let o : Around L s i (key_count s) (peer_count s) (first s i) (count s i) = around L s i (key_count s) (peer_count s) (first s i) (count s i) y h l refl refl refl refl in
    e
    ∙ ap (λ (x : List ℕ). splice x (12 + 44 * i + 32) (be32 a ++ be32 b)) o.whole
    ∙ period_replaced L o.pre o.e o.post i (key_count s) (peer_count s) (first s i) (count s i) o.parts a b
    ∙ ap (encode L) (sym (ap (update_at i (valid_for a b)) o.cut ∙ update_at-middle o.pre o.e o.post (valid_for a b) i o.parts.place))
