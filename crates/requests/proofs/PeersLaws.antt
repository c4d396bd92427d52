-- The bytes after a record's peers are replaced.
-- Assumes nothing.
use mathlib.Core.Path.{◌≡◌, sym, ap, ◌∙◌}
use mathlib.Core.List.{List, ◌∷◌, ◌++◌, append_assoc, append-nil}
use Prim.Native.Nat.{ℕ, ◌+◌, ◌*◌, ◌-◌, ◌/◌, ◌%◌, ◌≤◌, ◌<◌}
use native.Mathlib.Omega.{arith}
use lib.ListN.{length, take, drop, replicate, length-append, length-replicate, take-append-drop}
use lib.Seq.{drop_at, drop-drop, length-take-le}
use Rattle.octets.specs.Bytes.{be16, be32, part, splice, closed, opened}
use Rattle.octets.specs.Words.{numbers, words}
use Rattle.octets.proofs.PartLaws.{part_mid}
use Rattle.octets.proofs.SpliceLaws.{splice_mid, splice-head}
use Rattle.octets.proofs.WordLaws.{length-numbers, length-words}
use Rattle.store.specs.Store.{Entry, header, key_record, key_records, peers_of, encode, entries}
use Rattle.store.specs.Request.{update_at, with_peers}
use Rattle.store.specs.declared.Limits.{Limits}
use Rattle.store.proofs.EncodingLaws.{front_length, key_record-length, key_records-length}
use Rattle.requests.specs.Edit.{with_counts, renumbered, replaced}
use Rattle.requests.proofs.EntryLaws.{peers-whole}
use Rattle.requests.proofs.RecordLaws.{share_written, renumbered-records, header-counts}
use Rattle.requests.proofs.AroundLaws.{Parts, parts-with, Around, zeros-join, encode-parts, update_at-middle}
use Rattle.requests.proofs.ValidityLaws.{group-middle}

-- ---- a part in the middle, replaced

-- fewer bytes than before, and more
pub shrunk : (d v : List ℕ) (i old new tail : ℕ) (s t : List ℕ) → new ≤ old → i + old ≤ length d → length v ≡ new → s ≡ closed d (i + new) (old - new) tail → t ≡ splice s i v
    → t ≡ replaced d i old new tail v
unfolding replaced closed
shrunk d v i old new tail s t h l e es et =
    let j : i + new + (old - new) ≡ i + old = omega arith in
    et ∙ ap (λ (x : List ℕ). splice x i v) es
    ∙ ap (λ (n : ℕ). splice (splice d (i + new) (part d n tail ++ replicate (old - new) 0)) i v) j
    ∙ splice-head d i v (part d (i + old) tail ++ replicate (old - new) 0) new e (omega arith)

pub grown : (d v : List ℕ) (i old new tail : ℕ) (s t : List ℕ) → old ≤ new → i + new ≤ length d → length v ≡ new → s ≡ opened d (i + old) (new - old) tail → t ≡ splice s i v
    → t ≡ replaced d i old new tail v
unfolding replaced opened
grown d v i old new tail s t h l e es et =
    let j : i + old + (new - old) ≡ i + new = omega arith in
    let z : 0 ≡ old - new = omega arith in
    et ∙ ap (λ (x : List ℕ). splice x i v) es
    ∙ ap (λ (n : ℕ). splice (splice d n (part d (i + old) tail)) i v) j
    ∙ splice-head d i v (part d (i + old) tail) new e (omega arith)
    ∙ ap (λ (x : List ℕ). splice d i (v ++ x)) (sym (append-nil (part d (i + old) tail)))
    ∙ ap (λ (n : ℕ). splice d i (v ++ (part d (i + old) tail ++ replicate n 0))) z

group-tail : (w b x y : List ℕ) → (w ++ (b ++ x)) ++ y ≡ w ++ (b ++ (x ++ y))
group-tail w b x y = simp append_assoc

module _ (A O B W : List ℕ) (i old new tail y z : ℕ) (ea : length A ≡ i) (eo : length O ≡ old) (eb : length B ≡ tail) (ew : length W ≡ new) (ey : old + y ≡ new + z) where
  -- what is written
  abbrev X : List ℕ
  X = W ++ (B ++ replicate (old - new) 0)

  length_x : length X ≡ old + tail + (new - old)
  length_x = length-append W (B ++ replicate (old - new) 0) ∙ omega (arith, length-append B (replicate {A = ℕ} (old - new) 0), length-replicate {A = ℕ} (old - new) 0)

  -- and what stays behind it
  behind : drop (old + tail + (new - old)) (O ++ (B ++ replicate y 0)) ≡ replicate (y - (new - old)) 0
  behind =
      let k : ℕ = new - old in
      let h : k + (y - k) ≡ y = omega arith in
      ap (λ (x : List ℕ). drop (old + tail + k) x) (sym (append_assoc O B (replicate y 0)))
      ∙ sym (drop-drop k (old + tail) ((O ++ B) ++ replicate y 0))
      ∙ ap (λ (x : List ℕ). drop k x) (drop_at (O ++ B) (replicate y 0) (old + tail) (length-append O B ∙ omega arith) ∙ sym (zeros-join k (y - k) y h))
      ∙ drop_at (replicate k 0) (replicate (y - k) 0) k (length-replicate {A = ℕ} k 0)

  replaced-middle : replaced (A ++ (O ++ (B ++ replicate y 0))) i old new tail W ≡ A ++ (W ++ (B ++ replicate z 0))
  unfolding replaced
  replaced-middle =
      let Y : List ℕ = replicate y 0 in
      let E : List ℕ = O ++ (B ++ Y) in
      let n : ℕ = old + tail + (new - old) in
      let le : length E ≡ old + tail + y = length-append O (B ++ Y) ∙ omega (arith, length-append B Y, length-replicate {A = ℕ} y 0) in
      ap (λ (x : List ℕ). splice (A ++ E) i (W ++ (x ++ replicate (old - new) 0)))
      (ap (λ (x : List ℕ). part x (i + old) tail) (sym (append_assoc A O (B ++ Y))) ∙ part_mid (A ++ O) B Y (i + old) tail (length-append A O ∙ omega arith) eb)
      ∙ ap (λ (x : List ℕ). splice (A ++ x) i X) (sym (take-append-drop n E))
      ∙ splice_mid A (take n E) (drop n E) X i ea (length-take-le n E (omega arith) ∙ sym length_x)
      ∙ ap (λ (x : List ℕ). A ++ (X ++ x)) behind
      ∙ ap (λ (x : List ℕ). A ++ x) (group-tail W B (replicate (old - new) 0) (replicate (y - (new - old)) 0)
      ∙ ap (λ (x : List ℕ). W ++ (B ++ x)) (zeros-join (old - new) (y - (new - old)) z (omega arith)))

-- ---- the peers of a record, replaced

group-peers : (h r e q z f g k y : List ℕ) → h ++ ((r ++ (e ++ q)) ++ (z ++ ((f ++ (g ++ k)) ++ y))) ≡ (((h ++ r) ++ (e ++ q)) ++ (z ++ f)) ++ (g ++ (k ++ y))
group-peers h r e q z f g k y = simp append_assoc

group-passed : (a e q t : List ℕ) → a ++ (e ++ (q ++ t)) ≡ (a ++ e) ++ (q ++ t)
group-passed a e q t = simp append_assoc

tail-is : (m f k q : ℕ) → m ≡ f + (k + q) → m - f - k ≡ q
tail-is m f k q e = omega arith

room-same : (P m f k q c : ℕ) → m ≡ f + (k + q) → m ≤ P → m - k + c ≤ P → 4 * k + 4 * (P - m) ≡ 4 * c + 4 * (P - (m - k + c))
room-same P m f k q c e h l = omega arith

before-peers : (a b c d g K n i p f : ℕ) → a ≡ 12 + 44 * i → b ≡ 44 → c ≡ 44 * p → d ≡ 44 * (K - n) → g ≡ 4 * f → n ≡ i + 1 + p → n ≤ K → a + (b + c) + (d + g) ≡ 12 + 44 * K + 4 * f
before-peers a b c d g K n i p f e1 e2 e3 e4 e5 e6 h = omega arith

module _ (L : Limits) (pre : List Entry) (e : Entry) (post : List Entry) (i n m f k : ℕ) (p : Parts L pre e post i n m f k)
    (xs : List ℕ) (c : ℕ) (ec : c ≡ length xs) (fits : m - k + c ≤ L.peers) where
  abbrev K : ℕ
  K = L.keys

  abbrev P : ℕ
  P = L.peers

  abbrev H : List ℕ
  H = header L n m

  abbrev R : List ℕ
  R = key_records 0 pre

  abbrev E : List ℕ
  E = key_record f e

  abbrev Q : List ℕ
  Q = key_records (f + k) post

  abbrev Z0 : List ℕ
  Z0 = replicate (44 * (K - n)) 0

  abbrev F : List ℕ
  F = words (peers_of pre)

  abbrev G : List ℕ
  G = words (peers_of post)

  -- what stands behind the records afterwards
  abbrev T : List ℕ
  T = Z0 ++ ((F ++ (words xs ++ G)) ++ replicate (4 * (P - (m - k + c))) 0)

  pub new-parts : Parts L pre (with_peers xs e) post i n (m - k + c) f c
  new-parts =
      let peers : m ≡ f + (k + length (peers_of post)) = p.peers in
      parts-with L pre e post i n m f k p (with_peers xs e) (m - k + c) c p.long ec (omega arith) fits

  at_record : length (H ++ R) ≡ 12 + 44 * i
  at_record = front_length L pre n m i p.long_pre p.place

  at-peers : length (((H ++ R) ++ (E ++ Q)) ++ (Z0 ++ F)) ≡ 12 + 44 * K + 4 * f
  at-peers =
      length-append ((H ++ R) ++ (E ++ Q)) (Z0 ++ F)
      ∙ ap (λ (x : ℕ). x + length (Z0 ++ F)) (length-append (H ++ R) (E ++ Q) ∙ ap (λ (x : ℕ). length (H ++ R) + x) (length-append E Q))
      ∙ ap (λ (x : ℕ). length (H ++ R) + (length E + length Q) + x) (length-append Z0 F)
      ∙ before-peers (length (H ++ R)) (length E) (length Q) (length Z0) (length F) K n i (length post) f at_record (key_record-length f e p.long)
      (key_records-length (f + k) post p.long_post) (length-replicate {A = ℕ} (44 * (K - n)) 0)
      (length-words (peers_of pre) ∙ ap (λ (x : ℕ). 4 * x) (sym p.first_is)) p.keys p.keys_fit

  peers-replaced : replaced (encode L (pre ++ (e ∷ post))) (12 + 44 * K + 4 * f) (4 * k) (4 * c) (4 * (m - f - k)) (words xs) ≡ (H ++ R) ++ (E ++ (Q ++ T))
  peers-replaced =
      let Y : List ℕ = replicate (4 * (P - m)) 0 in
      let q : ℕ = length (peers_of post) in
      ap (λ (x : List ℕ). replaced x (12 + 44 * K + 4 * f) (4 * k) (4 * c) (4 * (m - f - k)) (words xs))
      (encode-parts L pre e post i n m f k p ∙ group-peers H R E Q Z0 F (words e.peers) G Y)
      ∙ replaced-middle (((H ++ R) ++ (E ++ Q)) ++ (Z0 ++ F)) (words e.peers) G (words xs) (12 + 44 * K + 4 * f) (4 * k) (4 * c) (4 * (m - f - k)) (4 * (P - m)) (4 * (P - (m - k + c)))
      at-peers
      (length-words e.peers ∙ ap (λ (x : ℕ). 4 * x) (sym p.count_is))
      (length-words (peers_of post) ∙ ap (λ (x : ℕ). 4 * x) (sym (tail-is m f k q p.peers)))
      (length-words xs ∙ ap (λ (x : ℕ). 4 * x) (sym ec))
      (room-same P m f k q c p.peers p.peers_fit fits)
      ∙ sym (group-peers H R E Q Z0 F (words xs) G (replicate (4 * (P - (m - k + c))) 0))
      ∙ group-middle H R E Q T

  list_replaced : with_counts
      (renumbered
      (splice (replaced (encode L (pre ++ (e ∷ post))) (12 + 44 * K + 4 * f) (4 * k) (4 * c) (4 * (m - f - k)) (words xs)) (12 + 44 * i + 40) (be16 f ++ be16 c))
      (12 + 44 * i + 44) (n - i - 1) (f + c))
      n (m - k + c)
      ≡ encode L (pre ++ (with_peers xs e ∷ post))
  list_replaced =
      let E' : List ℕ = key_record f (with_peers xs e) in
      let Q' : List ℕ = key_records (f + c) post in
      let m' : ℕ = m - k + c in
      let keys : n ≡ i + 1 + length post = p.keys in
      let peers : m ≡ f + (k + length (peers_of post)) = p.peers in
      let m_p : m ≤ P = p.peers_fit in
      let small : P < 65536 = p.small in
      let rest : n - i - 1 ≡ length post = omega arith in
      let behind : length ((H ++ R) ++ E') ≡ 12 + 44 * i + 44 = length-append (H ++ R) E' ∙ omega (arith, at_record, key_record-length f (with_peers xs e) p.long) in
      ap (λ (x : List ℕ). with_counts (renumbered (splice x (12 + 44 * i + 40) (be16 f ++ be16 c)) (12 + 44 * i + 44) (n - i - 1) (f + c)) n m') peers-replaced
      ∙ ap (λ (x : List ℕ). with_counts (renumbered x (12 + 44 * i + 44) (n - i - 1) (f + c)) n m')
      (share_written (H ++ R) (Q ++ T) e (12 + 44 * i) f at_record p.long f c xs ec ∙ group-passed (H ++ R) E' Q T)
      ∙ ap (λ (x : ℕ). with_counts (renumbered (((H ++ R) ++ E') ++ (Q ++ T)) (12 + 44 * i + 44) x (f + c)) n m') rest
      ∙ ap (λ (x : List ℕ). with_counts x n m')
      (renumbered-records post ((H ++ R) ++ E') T (12 + 44 * i + 44) (f + k) (f + c) behind p.long_post (omega arith)
      ∙ sym (group-passed (H ++ R) E' Q' T) ∙ sym (group-middle H R E' Q' T))
      ∙ header-counts L n m n m' ((R ++ (E' ++ Q')) ++ T)
      ∙ sym (encode-parts L pre (with_peers xs e) post i n m' f c new-parts)

-- what the calls of a replacement by the c peers in the bytes b leave
pub peers-written : (L : Limits) (s b : List ℕ) (i n m f k c : ℕ) (t u v w : List ℕ) → Around L s i n m f k → length b % 4 ≡ 0 → c ≡ length b / 4 → m - k + c ≤ L.peers
    → t ≡ replaced s (12 + 44 * L.keys + 4 * f) (4 * k) (length b) (4 * (m - f - k)) (words (numbers b 0 (length b / 4)))
    → u ≡ splice t (12 + 44 * i + 40) (be16 f ++ be16 c)
    → v ≡ renumbered u (12 + 44 * i + 44) (n - i - 1) (f + c)
    → w ≡ with_counts v n (m - k + c)
    → w ≡ encode L (update_at i (with_peers (numbers b 0 (length b / 4))) (entries L s))
peers-written L s b i n m f k c t u v w o whole ec fits et eu ev ew =
    let xs : List ℕ = numbers b 0 (length b / 4) in
    let r : List ℕ → ℕ → List ℕ = λ y z. replaced y (12 + 44 * L.keys + 4 * f) (4 * k) z (4 * (m - f - k)) (words xs) in
    let bytes : length b ≡ 4 * c = sym (peers-whole b whole) ∙ ap (λ (x : ℕ). 4 * x) (sym ec) in
    ew ∙ ap (λ (x : List ℕ). with_counts x n (m - k + c))
    (ev ∙ ap (λ (x : List ℕ). renumbered x (12 + 44 * i + 44) (n - i - 1) (f + c))
    (eu ∙ ap (λ (x : List ℕ). splice x (12 + 44 * i + 40) (be16 f ++ be16 c))
    (et ∙ ap (r s) bytes ∙ ap (λ (x : List ℕ). r x (4 * c)) o.whole)))
    ∙ list_replaced L o.pre o.e o.post i n m f k o.parts xs c (ec ∙ sym (length-numbers b 0 (length b / 4))) fits
    ∙ ap (encode L) (sym (ap (update_at i (with_peers xs)) o.cut ∙ update_at-middle o.pre o.e o.post (with_peers xs) i o.parts.place))

-- ---- as many peers as before

module _ (L : Limits) (pre : List Entry) (e : Entry) (post : List Entry) (i n m f k : ℕ) (p : Parts L pre e post i n m f k) (xs : List ℕ) (ek : k ≡ length xs) where
  -- the record stays
  same_record : key_record f e ≡ key_record f (with_peers xs e)
  unfolding key_record
  same_record =
      ap (λ (x : ℕ). be32 e.issuer ++ (be32 e.serial ++ (e.kmac ++ (be32 e.start ++ (be32 e.end ++ (be16 f ++ be16 x)))))) (sym p.count_is ∙ ek)

  same_parts : Parts L pre (with_peers xs e) post i n m f k
  same_parts = parts-with L pre e post i n m f k p (with_peers xs e) m k p.long ek p.peers p.peers_fit

  list_overwritten : splice (encode L (pre ++ (e ∷ post))) (12 + 44 * L.keys + 4 * f) (words xs) ≡ encode L (pre ++ (with_peers xs e ∷ post))
  list_overwritten =
      let H : List ℕ = header L n m in
      let R : List ℕ = key_records 0 pre in
      let Q : List ℕ = key_records (f + k) post in
      let Z : List ℕ = replicate (44 * (L.keys - n)) 0 in
      let F : List ℕ = words (peers_of pre) in
      let G : List ℕ = words (peers_of post) in
      let Y : List ℕ = replicate (4 * (L.peers - m)) 0 in
      let at : ℕ = 12 + 44 * L.keys + 4 * f in
      let peers : m ≡ f + (k + length (peers_of post)) = p.peers in
      let fits : m ≤ L.peers = p.peers_fit in
      ap (λ (x : List ℕ). splice x at (words xs)) (encode-parts L pre e post i n m f k p ∙ group-peers H R (key_record f e) Q Z F (words e.peers) G Y)
      ∙ splice_mid (((H ++ R) ++ (key_record f e ++ Q)) ++ (Z ++ F)) (words e.peers) (G ++ Y) (words xs) at (at-peers L pre e post i n m f k p xs k ek (omega arith))
      (length-words e.peers ∙ ap (λ (x : ℕ). 4 * x) (sym p.count_is ∙ ek) ∙ sym (length-words xs))
      ∙ sym (group-peers H R (key_record f e) Q Z F (words xs) G Y)
      ∙ ap (λ (x : List ℕ). H ++ ((R ++ (x ++ Q)) ++ (Z ++ ((F ++ (words xs ++ G)) ++ Y)))) same_record
      ∙ sym (encode-parts L pre (with_peers xs e) post i n m f k same_parts)

-- what the one call leaves
pub peers_overwritten : (L : Limits) (s xs : List ℕ) (i n m f k : ℕ) (t : List ℕ) → Around L s i n m f k → k ≡ length xs
    → t ≡ splice s (12 + 44 * L.keys + 4 * f) (words xs)
    → t ≡ encode L (update_at i (with_peers xs) (entries L s))
peers_overwritten L s xs i n m f k t o ek et =
    et ∙ ap (λ (x : List ℕ). splice x (12 + 44 * L.keys + 4 * f) (words xs)) o.whole
    ∙ list_overwritten L o.pre o.e o.post i n m f k o.parts xs ek
    ∙ ap (encode L) (sym (ap (update_at i (with_peers xs)) o.cut ∙ update_at-middle o.pre o.e o.post (with_peers xs) i o.parts.place))
