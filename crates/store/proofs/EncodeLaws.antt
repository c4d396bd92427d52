-- The encoding of well-formed entries is a sound store, whose entries they are; so a list of entries has one store only.
-- Assumes nothing.
use mathlib.Core.Path.{◌≡◌, refl, sym, ap, ◌∙◌, subst}
use mathlib.Core.Bool.{Bool, true, false, ◌&&◌, not}
use mathlib.Core.List.{List, [], ◌∷◌, ◌++◌, append_assoc, append-nil}
use Prim.Native.Nat.{ℕ, zero, suc, ◌+◌, ◌*◌, ◌-◌, ◌/◌, ◌%◌, ◌≤◌, ◌<◌}
use native.Mathlib.Nat.{add-zero, zero-add, add-suc, suc-add}
use native.Mathlib.Omega.{arith}
use lib.ListN.{length, get_or, take, drop, replicate, length-append, length-replicate}
use lib.Seq.{split_at, length-take-le, take-suc, take-length}
use lib.Dec.{eqb, leb}
use borrow.Author.Tests.{eq-eqb, eqb-true, le-leb}
use Rattle.octets.specs.Bytes.{get16, get32, be16, be32, part, all_below, all_zero}
use Rattle.octets.specs.Words.{numbers, words}
use Rattle.octets.proofs.BoolLaws.{and_both, all_below-all}
use Rattle.octets.proofs.PartLaws.{part_mid, all_zero-replicate}
use Rattle.octets.proofs.WordLaws.{get16-be16, get32-be32, numbers-words, length-words, words_append}
use Rattle.store.specs.Layout.{record_at, peers_at, total, Bounded}
use Rattle.store.specs.Store.{Entry, header, key_record, key_records, peers_of, encode, entries, entries_from, entry_at, first, count, kmac_at, key_count, peer_count, sum_before, sum_at, same_key, new_key, all_odd, header_ok, counts_ok, sums_ok, unique_ok, parity_ok, unused_ok, sound}
use Rattle.store.specs.WellFormed.{Fitting, nobody, WellFormed}
use Rattle.store.specs.declared.Limits.{Limits}
use Rattle.store.proofs.EncodingLaws.{LongKeys, fitting-long, take_long, front_length, peers_of-append, key_records-append, encode_as, cut-issuer, cut-serial, cut-kmac, cut-start, cut-end, cut-first, cut-count, at-serial, at-kmac, at-start, at-end, at_first, at_count}
use Rattle.store.proofs.SoundLaws.{unused_decides, all_hold-none, all_hold-cons}

-- ---- what stands in a record's bytes

record Reads (s : List ℕ) (r p : ℕ) (e : Entry) : Type 0 where
  pub issuer_is : get32 s r ≡ e.issuer
  pub serial_is : get32 s (r + 4) ≡ e.serial
  pub kmac_is : part s (r + 8) 24 ≡ e.kmac
  pub start_is : get32 s (r + 32) ≡ e.start
  pub end_is : get32 s (r + 36) ≡ e.end
  pub first_is : get16 s (r + 40) ≡ p
  pub count_is : get16 s (r + 42) ≡ length e.peers

key_record_reads : (a t : List ℕ) (r p : ℕ) (e : Entry) → length a ≡ r → Fitting e → p < 65536 → length e.peers < 65536 → Reads (a ++ (key_record p e ++ t)) r p e
unfolding key_record
key_record_reads a t r p e ea f hp hn =
    let I : List ℕ = be32 e.issuer in
    let S : List ℕ = be32 e.serial in
    let K : List ℕ = e.kmac in
    let B : List ℕ = be32 e.start in
    let E : List ℕ = be32 e.end in
    let P : List ℕ = be16 p in
    let N : List ℕ = be16 (length e.peers) in
    let k : length K ≡ 24 = f.kmac_long in
    record {
      issuer_is = ap (λ (x : List ℕ). get32 x r) (cut-issuer a I S K B E P N t) ∙ get32-be32 a ((S ++ (K ++ (B ++ (E ++ (P ++ N))))) ++ t) e.issuer r ea f.issuer_fits;
      serial_is = ap (λ (x : List ℕ). get32 x (r + 4)) (cut-serial a I S K B E P N t) ∙ get32-be32 (a ++ I) ((K ++ (B ++ (E ++ (P ++ N)))) ++ t) e.serial (r + 4) (at-serial a e r p ea k) f.serial_fits;
      kmac_is = ap (λ (x : List ℕ). part x (r + 8) 24) (cut-kmac a I S K B E P N t) ∙ part_mid (a ++ (I ++ S)) K ((B ++ (E ++ (P ++ N))) ++ t) (r + 8) 24 (at-kmac a e r p ea k) k;
      start_is = ap (λ (x : List ℕ). get32 x (r + 32)) (cut-start a I S K B E P N t) ∙ get32-be32 (a ++ (I ++ (S ++ K))) ((E ++ (P ++ N)) ++ t) e.start (r + 32) (at-start a e r p ea k) f.start_fits;
      end_is = ap (λ (x : List ℕ). get32 x (r + 36)) (cut-end a I S K B E P N t) ∙ get32-be32 (a ++ (I ++ (S ++ (K ++ B)))) ((P ++ N) ++ t) e.end (r + 36) (at-end a e r p ea k) f.end_fits;
      first_is = ap (λ (x : List ℕ). get16 x (r + 40)) (cut-first a I S K B E P N t) ∙ get16-be16 (a ++ (I ++ (S ++ (K ++ (B ++ E))))) (N ++ t) p (r + 40) (at_first a e r p ea k) hp;
      count_is = ap (λ (x : List ℕ). get16 x (r + 42)) (cut-count a I S K B E P N t) ∙ get16-be16 (a ++ (I ++ (S ++ (K ++ (B ++ (E ++ P)))))) t (length e.peers) (r + 42) (at_count a e r p ea k) hn;
    }

-- ---- the header's six numbers

record HeaderReads (L : Limits) (n m : ℕ) (s : List ℕ) : Type 0 where
  pub edition_is : get16 s 0 ≡ L.edition
  pub keys_are : get16 s 2 ≡ n
  pub keys_at : get16 s 4 ≡ 12
  pub peers_are : get16 s 6 ≡ m
  pub peers_at_lem : get16 s 8 ≡ peers_at L
  pub total_is : get16 s 10 ≡ total L

two_bytes : (v : ℕ) → v < 65536 → v / 256 % 256 * 256 + v % 256 ≡ v
two_bytes v h = omega arith

header_reads : (L : Limits) (n m : ℕ) (t : List ℕ) → Bounded L → n < 65536 → m < 65536 → HeaderReads L n m (header L n m ++ t)
unfolding header
header_reads L n m t b hn hm =
    let fits : 12 + 44 * L.keys + 4 * L.peers < 65536 = b.total_fits in
    record {
      edition_is = two_bytes L.edition b.edition_fits;
      keys_are = two_bytes n hn;
      keys_at = refl;
      peers_are = two_bytes m hm;
      peers_at_lem = two_bytes (peers_at L) (omega arith);
      total_is = two_bytes (total L) fits;
    }

-- ---- an encoding, cut before its parts

group_record : (h r e q t : List ℕ) → h ++ ((r ++ (e ++ q)) ++ t) ≡ (h ++ r) ++ (e ++ (q ++ t))
group_record h r e q t = simp append_assoc

group-peers : (h r z f g k y : List ℕ) → h ++ (r ++ (z ++ ((f ++ (g ++ k)) ++ y))) ≡ (((h ++ r) ++ z) ++ f) ++ (g ++ (k ++ y))
group-peers h r z f g k y = simp append_assoc

group_keys_free : (h r z t : List ℕ) → h ++ (r ++ (z ++ t)) ≡ (h ++ r) ++ (z ++ t)
group_keys_free h r z t = simp append_assoc

group_peers_free : (h r z f y : List ℕ) → h ++ (r ++ (z ++ (f ++ y))) ≡ (((h ++ r) ++ z) ++ f) ++ (y ++ [])
group_peers_free h r z f y = simp (append_assoc, append-nil)

not-both : (a b c d : ℕ) → (a ≡ b → c ≡ d → ⊥) → not (eqb a b && eqb c d) ≡ true
not-both a b c d h = go (eqb a b) (eqb c d) refl refl
  where
    go : (x y : Bool) → eqb a b ≡ x → eqb c d ≡ y → not (eqb a b && eqb c d) ≡ true
    go true true p q = absurd (h (eqb-true a b p) (eqb-true c d q))
    go true false p q = rw (p, q)
    go false y p q = rw p

take_more : (es : List Entry) (i : ℕ) → i < length es → peers_of (take (suc i) es) ≡ peers_of (take i es) ++ (get_or es i nobody).peers
unfolding peers_of
take_more es i h =
    ap peers_of (take-suc es i nobody h) ∙ peers_of-append (take i es) (get_or es i nobody ∷ []) ∙ ap (λ (x : List ℕ). peers_of (take i es) ++ x) (append-nil (get_or es i nobody).peers)

entry_path : (x y : Entry) → x.issuer ≡ y.issuer → x.serial ≡ y.serial → x.kmac ≡ y.kmac → x.start ≡ y.start → x.end ≡ y.end → x.peers ≡ y.peers → x ≡ y
entry_path x y p q r t u v = λ j. record { issuer = p j; serial = q j; kmac = r j; start = t j; end = u j; peers = v j }

entries_from-all : (L : Limits) (s : List ℕ) (es : List Entry) (i : ℕ) → ((j : ℕ) → j < length es → entry_at L s (i + j) ≡ get_or es j nobody) → entries_from L s i (length es) ≡ es
unfolding entries_from
entries_from-all L s [] i h = refl
entries_from-all L s (e ∷ es) i h =
    ap (λ (x : Entry). x ∷ entries_from L s (suc i) (length es)) (ap (entry_at L s) (sym (add-zero i)) ∙ h 0 (omega arith))
    ∙ ap (λ (x : List Entry). e ∷ x) (entries_from-all L s es (suc i) (λ j l. ap (entry_at L s) (suc-add i j ∙ sym (add-suc i j)) ∙ h (suc j) (omega arith)))

module _ (L : Limits) (es : List Entry) (b : Bounded L) (g : WellFormed L es) where
  abbrev n : ℕ
  n = length es

  abbrev m : ℕ
  m = length (peers_of es)

  abbrev s : List ℕ
  s = encode L es

  abbrev H : List ℕ
  H = header L n m

  abbrev R : List ℕ
  R = key_records 0 es

  abbrev Z : List ℕ
  Z = replicate (44 * (L.keys - n)) 0

  abbrev F : List ℕ
  F = words (peers_of es)

  abbrev Y : List ℕ
  Y = replicate (4 * (L.peers - m)) 0

  long : LongKeys es
  long = fitting-long es g.fitting

  shape : s ≡ H ++ (R ++ (Z ++ (F ++ Y)))
  shape = encode_as L es (peers_of es) n m refl refl refl

  keys_length : length (H ++ R) ≡ 12 + 44 * n
  keys_length = front_length L es n m n long refl

  before-peers : length ((H ++ R) ++ Z) ≡ 12 + 44 * L.keys
  before-peers =
      let hn : n ≤ L.keys = g.keys_fit in
      omega (arith, length-append (H ++ R) Z, keys_length, length-replicate {A = ℕ} (44 * (L.keys - n)) 0)

  before-words : (xs : List ℕ) → length (((H ++ R) ++ Z) ++ words xs) ≡ 12 + 44 * L.keys + 4 * length xs
  before-words xs = length-append ((H ++ R) ++ Z) (words xs) ∙ omega (arith, before-peers, length-words xs)

  -- ---- record i

  peers-cut : (i : ℕ) → i < n → peers_of es ≡ peers_of (take i es) ++ ((get_or es i nobody).peers ++ peers_of (drop (suc i) es))
  unfolding peers_of
  peers-cut i h = ap peers_of (split_at es i nobody h) ∙ peers_of-append (take i es) (get_or es i nobody ∷ drop (suc i) es)

  peers-sum : (i : ℕ) → i < n → m ≡ length (peers_of (take i es)) + (length (get_or es i nobody).peers + length (peers_of (drop (suc i) es)))
  peers-sum i h =
      ap length (peers-cut i h)
      ∙ length-append (peers_of (take i es)) ((get_or es i nobody).peers ++ peers_of (drop (suc i) es))
      ∙ ap (λ (x : ℕ). length (peers_of (take i es)) + x) (length-append (get_or es i nobody).peers (peers_of (drop (suc i) es)))

  reads_at : (i : ℕ) → i < n → Reads s (record_at i) (length (peers_of (take i es))) (get_or es i nobody)
  unfolding key_records
  reads_at i h =
      let pre : List Entry = take i es in
      let e : Entry = get_or es i nobody in
      let post : List Entry = drop (suc i) es in
      let f : ℕ = length (peers_of pre) in
      let Q : List ℕ = key_records (f + length e.peers) post in
      let T : List ℕ = Z ++ (F ++ Y) in
      let fits : 12 + 44 * L.keys + 4 * L.peers < 65536 = b.total_fits in
      let mp : m ≤ L.peers = g.peers_fit in
      let view : s ≡ (H ++ key_records 0 pre) ++ (key_record f e ++ (Q ++ T)) =
      shape
      ∙ ap (λ (x : List ℕ). H ++ (x ++ T))
      (ap (key_records 0) (split_at es i nobody h)
      ∙ key_records-append 0 pre (e ∷ post)
      ∙ ap (λ (x : ℕ). key_records 0 pre ++ (key_record x e ++ key_records (x + length e.peers) post)) (zero-add f))
      ∙ group_record H (key_records 0 pre) (key_record f e) Q T in
      let la : length (H ++ key_records 0 pre) ≡ record_at i = front_length L pre n m i (take_long i es long) (length-take-le i es (omega arith)) in
      subst (λ (x : List ℕ). Reads x (record_at i) f e) (sym view)
      (key_record_reads (H ++ key_records 0 pre) (Q ++ T) (record_at i) f e la (g.fitting i h) (omega (arith, peers-sum i h)) (omega (arith, peers-sum i h)))

  sum-at : (i : ℕ) → i ≤ n → sum_before s i ≡ length (peers_of (take i es))
  unfolding sum_before peers_of
  sum-at zero h = refl
  sum-at (suc i) h =
      ap (λ (x : ℕ). x + count s i) (sum-at i (omega arith))
      ∙ ap (λ (x : ℕ). length (peers_of (take i es)) + x) (reads_at i h).count_is
      ∙ sym (ap length (take_more es i h) ∙ length-append (peers_of (take i es)) (get_or es i nobody).peers)

  peers_of_lem : (i : ℕ) → i < n → numbers s (peers_at L + 4 * length (peers_of (take i es))) (length (get_or es i nobody).peers) ≡ (get_or es i nobody).peers
  peers_of_lem i h =
      let pre : List ℕ = peers_of (take i es) in
      let xs : List ℕ = (get_or es i nobody).peers in
      let post : List ℕ = peers_of (drop (suc i) es) in
      let view : s ≡ (((H ++ R) ++ Z) ++ words pre) ++ (words xs ++ (words post ++ Y)) =
      shape
      ∙ ap (λ (x : List ℕ). H ++ (R ++ (Z ++ (x ++ Y))))
      (ap words (peers-cut i h) ∙ words_append pre (xs ++ post) ∙ ap (λ (x : List ℕ). words pre ++ x) (words_append xs post))
      ∙ group-peers H R Z (words pre) (words xs) (words post) Y in
      ap (λ (x : List ℕ). numbers x (peers_at L + 4 * length pre) (length xs)) view
      ∙ numbers-words xs (((H ++ R) ++ Z) ++ words pre) (words post ++ Y) (peers_at L + 4 * length pre) (before-words pre) (g.fitting i h).peers_fit.fit

  entry-is : (i : ℕ) → i < n → entry_at L s i ≡ get_or es i nobody
  entry-is i h =
      let r : Reads s (record_at i) (length (peers_of (take i es))) (get_or es i nobody) = reads_at i h in
      entry_path (entry_at L s i) (get_or es i nobody) r.issuer_is r.serial_is r.kmac_is r.start_is r.end_is
      (ap (λ (x : ℕ). numbers s (peers_at L + 4 * x) (count s i)) r.first_is
      ∙ ap (λ (x : ℕ). numbers s (peers_at L + 4 * length (peers_of (take i es))) x) r.count_is
      ∙ peers_of_lem i h)

  heads : HeaderReads L n m s
  heads =
      let fits : 12 + 44 * L.keys + 4 * L.peers < 65536 = b.total_fits in
      let hn : n ≤ L.keys = g.keys_fit in
      let hm : m ≤ L.peers = g.peers_fit in
      subst (HeaderReads L n m) (sym shape) (header_reads L n m (R ++ (Z ++ (F ++ Y))) b (omega arith) (omega arith))

  pub entries-encode : entries L (encode L es) ≡ es
  unfolding entries
  entries-encode =
      ap (λ (x : ℕ). entries_from L s 0 x) heads.keys_are
      ∙ entries_from-all L s es 0 (λ j h. ap (entry_at L s) (zero-add j) ∙ entry-is j h)

  -- ---- each condition of soundness

  pub encode-length : length (encode L es) ≡ total L
  encode-length =
      let hm : m ≤ L.peers = g.peers_fit in
      ap length (shape ∙ group_peers_free H R Z F Y)
      ∙ length-append (((H ++ R) ++ Z) ++ F) (Y ++ [])
      ∙ omega (arith, before-words (peers_of es), ap length (append-nil Y), length-replicate {A = ℕ} (4 * (L.peers - m)) 0)

  header-holds : header_ok L s ≡ true
  unfolding header_ok
  header-holds =
      all_hold-cons (eqb (get16 s 0) L.edition) _ (eq-eqb (get16 s 0) L.edition heads.edition_is)
      (all_hold-cons (eqb (get16 s 4) 12) _ (eq-eqb (get16 s 4) 12 heads.keys_at)
      (all_hold-cons (eqb (get16 s 8) (peers_at L)) _ (eq-eqb (get16 s 8) (peers_at L) heads.peers_at_lem)
      (all_hold-cons (eqb (get16 s 10) (total L)) [] (eq-eqb (get16 s 10) (total L) heads.total_is) all_hold-none)))

  counts-hold : counts_ok L s ≡ true
  unfolding counts_ok
  counts-hold =
      and_both (leb (key_count s) L.keys) (leb (peer_count s) L.peers)
      (le-leb (key_count s) L.keys (subst (λ (x : ℕ). x ≤ L.keys) (sym heads.keys_are) g.keys_fit))
      (le-leb (peer_count s) L.peers (subst (λ (x : ℕ). x ≤ L.peers) (sym heads.peers_are) g.peers_fit))

  -- a test of every record
  of_records : (p : ℕ → Bool) → ((i : ℕ) → i < n → p i ≡ true) → all_below (key_count s) p ≡ true
  of_records p h = ap (λ (x : ℕ). all_below x p) heads.keys_are ∙ all_below-all n p h

  sums-hold : sums_ok s ≡ true
  unfolding sums_ok
  sums-hold =
      and_both (all_below (key_count s) (sum_at s)) (eqb (sum_before s (key_count s)) (peer_count s))
      (of_records (sum_at s) (λ i h. eq-eqb (first s i) (sum_before s i) ((reads_at i h).first_is ∙ sym (sum-at i (omega arith)))))
      (eq-eqb (sum_before s (key_count s)) (peer_count s)
      (ap (λ (x : ℕ). sum_before s x) heads.keys_are ∙ sum-at n (omega arith) ∙ ap (λ (x : List Entry). length (peers_of x)) (take-length es) ∙ sym heads.peers_are))

  apart-at : (i j : ℕ) → j < i → i < n → not (same_key s i j) ≡ true
  apart-at i j l h =
      let x : Entry = get_or es i nobody in
      let y : Entry = get_or es j nobody in
      let p : Entry → Entry → Bool = λ u v. not (eqb u.issuer v.issuer && eqb u.serial v.serial) in
      ap (λ (u : Entry). p u (entry_at L s j)) (entry-is i h)
      ∙ ap (λ (v : Entry). p x v) (entry-is j (omega arith))
      ∙ not-both x.issuer y.issuer x.serial y.serial (g.apart i j l h)

  unique-holds : unique_ok s ≡ true
  unfolding unique_ok new_key
  unique-holds = of_records (new_key s) (λ i h. all_below-all i (λ j. not (same_key s i j)) (λ j l. apart-at i j l h))

  parity-holds : parity_ok s ≡ true
  unfolding parity_ok
  parity-holds = of_records (λ i. all_odd (kmac_at s i)) (λ i h. ap all_odd (reads_at i h).kmac_is ∙ g.odd i h)

  keys_free : all_zero (part s (record_at (key_count s)) (44 * (L.keys - key_count s))) ≡ true
  keys_free =
      ap (λ (x : ℕ). all_zero (part s (record_at x) (44 * (L.keys - x)))) heads.keys_are
      ∙ ap (λ (x : List ℕ). all_zero (part x (record_at n) (44 * (L.keys - n)))) (shape ∙ group_keys_free H R Z (F ++ Y))
      ∙ ap all_zero (part_mid (H ++ R) Z (F ++ Y) (record_at n) (44 * (L.keys - n)) keys_length (length-replicate {A = ℕ} (44 * (L.keys - n)) 0))
      ∙ all_zero-replicate (44 * (L.keys - n))

  peers_free : all_zero (part s (peers_at L + 4 * peer_count s) (4 * (L.peers - peer_count s))) ≡ true
  peers_free =
      ap (λ (x : ℕ). all_zero (part s (peers_at L + 4 * x) (4 * (L.peers - x)))) heads.peers_are
      ∙ ap (λ (x : List ℕ). all_zero (part x (peers_at L + 4 * m) (4 * (L.peers - m)))) (shape ∙ group_peers_free H R Z F Y)
      ∙ ap all_zero
      (part_mid (((H ++ R) ++ Z) ++ F) Y [] (peers_at L + 4 * m) (4 * (L.peers - m)) (before-words (peers_of es)) (length-replicate {A = ℕ} (4 * (L.peers - m)) 0))
      ∙ all_zero-replicate (4 * (L.peers - m))

  pub encode-sound : sound L (encode L es) ≡ true
  unfolding unused_ok
  encode-sound =
      unused_decides L s (eq-eqb (length s) (total L) encode-length) header-holds counts-hold sums-hold unique-holds parity-holds
      ∙ and_both (all_zero (part s (record_at (key_count s)) (44 * (L.keys - key_count s)))) (all_zero (part s (peers_at L + 4 * peer_count s) (4 * (L.peers - peer_count s))))
      keys_free peers_free

-- two well-formed lists with one store are one list, and a store is the encoding of no list but its entries
pub one_list : (L : Limits) (es fs : List Entry) → Bounded L → WellFormed L es → WellFormed L fs → encode L es ≡ encode L fs → es ≡ fs
one_list L es fs b g h e = sym (entries-encode L es b g) ∙ ap (entries L) e ∙ entries-encode L fs b h
