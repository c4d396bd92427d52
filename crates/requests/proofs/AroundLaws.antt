-- A sound store around its record i.
-- Assumes nothing.
use Rattle.octets.specs.Bytes.{Bytes}
use mathlib.Core.Path.{◌≡◌, refl, sym, ap, ◌∙◌, subst}
use mathlib.Core.Bool.{true}
use mathlib.Core.List.{List, [], ◌∷◌, ◌++◌}
use Prim.Native.Nat.{ℕ, suc, ◌+◌, ◌*◌, ◌-◌, ◌≤◌, ◌<◌}
use native.Mathlib.Nat.{zero-add}
use native.Mathlib.Omega.{arith}
use lib.ListN.{length, replicate, length-append, replicate-append-replicate}
use Rattle.octets.specs.Words.{words}
use Rattle.octets.proofs.PartLaws.{part_length}
use Rattle.octets.proofs.WordLaws.{length-numbers, words_append}
use Rattle.store.specs.Layout.{record_at, peers_at}
use Rattle.store.specs.Store.{Entry, header, key_record, key_records, peers_of, encode, entries, entries_from, entry_at, first, count, key_count, peer_count, sound}
use Rattle.store.specs.Request.{remove_at, update_at}
use Rattle.store.specs.declared.Limits.{Limits}
use Rattle.store.proofs.EncodingLaws.{LongKeys, peers_of-append, key_records-append, encode_as}
use Rattle.store.proofs.SoundLaws.{Sound, sound_says, sound_bounded}
use Rattle.store.proofs.SearchLaws.{Room, room}
use Rattle.store.proofs.DecodeLaws.{entries_from-length, entries_from-split, entries_from-long, peers-before, peers-length, encode-entries}

-- where the counts are read
pub record_inside : (L : Limits) (s : List ℕ) (i : ℕ) → Bytes s → sound L s ≡ true → i < key_count s → (i < 65536) × (record_at i + 44 ≤ length s)
record_inside L s i b t h = let r : Room L s i = room L s i b t h in (omega arith, omega arith)

-- an entry between others, within the limits: i entries before it, n in all, m peers in all, f before its own k
pub record Parts (L : Limits) (pre : List Entry) (e : Entry) (post : List Entry) (i n m f k : ℕ) : Type 0 where
  pub long_pre : LongKeys pre
  pub long : length e.kmac ≡ 24
  pub long_post : LongKeys post
  pub place : length pre ≡ i
  pub keys : n ≡ i + 1 + length post
  pub peers : m ≡ f + (k + length (peers_of post))
  pub first_is : f ≡ length (peers_of pre)
  pub count_is : k ≡ length e.peers
  pub keys_fit : n ≤ L.keys
  pub peers_fit : m ≤ L.peers
  pub small : L.peers < 65536

-- the same parts, with another entry in the middle, of k' peers, and m' in all
pub parts-with : (L : Limits) (pre : List Entry) (e : Entry) (post : List Entry) (i n m f k : ℕ) → Parts L pre e post i n m f k
    → (e' : Entry) (m' k' : ℕ) → length e'.kmac ≡ 24 → k' ≡ length e'.peers → m' ≡ f + (k' + length (peers_of post)) → m' ≤ L.peers → Parts L pre e' post i n m' f k'
parts-with L pre e post i n m f k p e' m' k' long count peers fits =
    record {
      long_pre = p.long_pre;
      long = long;
      long_post = p.long_post;
      place = p.place;
      keys = p.keys;
      peers = peers;
      first_is = p.first_is;
      count_is = count;
      keys_fit = p.keys_fit;
      peers_fit = fits;
      small = p.small;
    }

pub record Around (L : Limits) (s : List ℕ) (i n m f k : ℕ) : Type 0 where
  pub pre : List Entry
  pub e : Entry
  pub post : List Entry
  pub cut : entries L s ≡ pre ++ (e ∷ post)
  pub whole : s ≡ encode L (pre ++ (e ∷ post))
  pub parts : Parts L pre e post i n m f k

pub around : (L : Limits) (s : List ℕ) (i n m f k : ℕ) → Bytes s → sound L s ≡ true → i < key_count s
    → n ≡ key_count s → m ≡ peer_count s → f ≡ first s i → k ≡ count s i → Around L s i n m f k
unfolding entries peers_of
around L s i n m f k b t h en em ef ek =
    let w : Sound L s = sound_says L s t in
    let r : ℕ = key_count s - suc i in
    let pre : List Entry = entries_from L s 0 i in
    let e : Entry = entry_at L s i in
    let post : List Entry = entries_from L s (suc i) r in
    let size : length s ≡ 12 + 44 * L.keys + 4 * L.peers = w.size in
    let n_k : key_count s ≤ L.keys = w.keys_fit in
    let m_p : peer_count s ≤ L.peers = w.peers_fit in
    let total : 12 + 44 * L.keys + 4 * L.peers < 65536 = (sound_bounded L s t b).total_fits in
    let ni : key_count s ≡ i + suc r = omega arith in
    let cut : entries L s ≡ pre ++ (e ∷ post) =
    ap (λ (x : ℕ). entries_from L s 0 x) ni ∙ entries_from-split L s i r 0 ∙ ap (λ (x : ℕ). pre ++ (entry_at L s x ∷ entries_from L s (suc x) r)) (zero-add i) in
    let lf : f ≡ length (peers_of pre) = ef ∙ w.sums i h ∙ sym (peers-before L s i) in
    let lk : k ≡ length e.peers = ek ∙ sym (length-numbers s (peers_at L + 4 * first s i) (count s i)) in
    let all : peer_count s ≡ length (peers_of pre) + (length e.peers + length (peers_of post)) =
    sym (peers-length L s w) ∙ ap (λ (x : List Entry). length (peers_of x)) cut ∙ ap length (peers_of-append pre (e ∷ post))
    ∙ length-append (peers_of pre) (e.peers ++ peers_of post) ∙ ap (λ (x : ℕ). length (peers_of pre) + x) (length-append e.peers (peers_of post)) in
    record {
      pre = pre;
      e = e;
      post = post;
      cut = cut;
      whole = encode-entries L s b t ∙ ap (encode L) cut;
      parts = record {
        long_pre = entries_from-long L s i 0 (omega arith);
        long = part_length s (record_at i + 8) 24 (omega arith);
        long_post = entries_from-long L s r (suc i) (omega arith);
        place = entries_from-length L s 0 i;
        keys = omega (arith, entries_from-length L s (suc i) r);
        peers = omega arith;
        first_is = lf;
        count_is = lk;
        keys_fit = omega arith;
        peers_fit = omega arith;
        small = omega arith;
      };
    }

pub zeros-join : (a b c : ℕ) → a + b ≡ c → replicate {A = ℕ} a 0 ++ replicate b 0 ≡ replicate c 0
zeros-join a b c e = replicate-append-replicate {A = ℕ} a b 0 ∙ ap (λ (x : ℕ). replicate x 0) e

-- the encoding, by its parts
pub encode-parts : (L : Limits) (pre : List Entry) (e : Entry) (post : List Entry) (i n m f k : ℕ) → Parts L pre e post i n m f k
    → encode L (pre ++ (e ∷ post))
    ≡ header L n m
    ++ ((key_records 0 pre ++ (key_record f e ++ key_records (f + k) post))
    ++ (replicate (44 * (L.keys - n)) 0 ++ ((words (peers_of pre) ++ (words e.peers ++ words (peers_of post))) ++ replicate (4 * (L.peers - m)) 0)))
unfolding key_records peers_of
encode-parts L pre e post i n m f k a =
    let ps : List ℕ = peers_of pre in
    let qs : List ℕ = peers_of post in
    let Z : List ℕ = replicate (44 * (L.keys - n)) 0 in
    let Y : List ℕ = replicate (4 * (L.peers - m)) 0 in
    let place : length pre ≡ i = a.place in
    let keys : n ≡ i + 1 + length post = a.keys in
    let peers : m ≡ f + (k + length qs) = a.peers in
    let lf : f ≡ length ps = a.first_is in
    let lk : k ≡ length e.peers = a.count_is in
    encode_as L (pre ++ (e ∷ post)) (ps ++ (e.peers ++ qs)) n m (length-append pre (e ∷ post) ∙ omega arith) (peers_of-append pre (e ∷ post))
    (length-append ps (e.peers ++ qs) ∙ ap (λ (x : ℕ). length ps + x) (length-append e.peers qs) ∙ omega arith)
    ∙ ap (λ (x : List ℕ). header L n m ++ (x ++ (Z ++ (words (ps ++ (e.peers ++ qs)) ++ Y))))
    (key_records-append 0 pre (e ∷ post)
    ∙ ap (λ (x : ℕ). key_records 0 pre ++ (key_record x e ++ key_records (x + length e.peers) post)) (zero-add (length ps) ∙ sym lf)
    ∙ ap (λ (x : ℕ). key_records 0 pre ++ (key_record f e ++ key_records (f + x) post)) (sym lk))
    ∙ ap (λ (x : List ℕ). header L n m ++ ((key_records 0 pre ++ (key_record f e ++ key_records (f + k) post)) ++ (Z ++ (x ++ Y))))
    (words_append ps (e.peers ++ qs) ∙ ap (λ (x : List ℕ). words ps ++ x) (words_append e.peers qs))

-- ---- the list of entries, with its middle taken out or changed

pub remove_at-middle : (pre : List Entry) (e : Entry) (post : List Entry) (i : ℕ) → length pre ≡ i → remove_at i (pre ++ (e ∷ post)) ≡ pre ++ post
remove_at-middle pre e post i p = subst (λ (k : ℕ). remove_at k (pre ++ (e ∷ post)) ≡ pre ++ post) p (go pre)
  where
    go : (xs : List Entry) → remove_at (length xs) (xs ++ (e ∷ post)) ≡ xs ++ post
    go [] = refl
    go (x ∷ xs) = ap (λ (r : List Entry). x ∷ r) (go xs)

at-end : (pre : List Entry) (e : Entry) (post : List Entry) (g : Entry → Entry) → update_at (length pre) g (pre ++ (e ∷ post)) ≡ pre ++ (g e ∷ post)
unfolding update_at
at-end [] e post g = refl
at-end (x ∷ pre) e post g = ap (λ (r : List Entry). x ∷ r) (at-end pre e post g)

pub update_at-middle : (pre : List Entry) (e : Entry) (post : List Entry) (g : Entry → Entry) (i : ℕ) → length pre ≡ i → update_at i g (pre ++ (e ∷ post)) ≡ pre ++ (g e ∷ post)
update_at-middle pre e post g i p = subst (λ (k : ℕ). update_at k g (pre ++ (e ∷ post)) ≡ pre ++ (g e ∷ post)) p (at-end pre e post g)
