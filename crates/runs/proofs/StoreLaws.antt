-- Stores that differ at most inside KMAC fields have entries that are alike, and the other way round.
-- Assumes nothing.
use mathlib.Core.Path.{◌≡◌, refl, sym, ap, ◌∙◌, subst}
use mathlib.Core.Bool.{Bool, true, false, ◌||◌}
use mathlib.Core.List.{List, [], ◌∷◌, ◌++◌}
use Prim.Native.Nat.{ℕ, zero, suc, ◌+◌, ◌*◌, ◌-◌, ◌≤◌, ◌<◌}
use native.Mathlib.Nat.{zero-add}
use native.Mathlib.Omega.{arith}
use lib.ListN.{length, get_or, replicate, length-append, get_or-append, get_or-eq_default}
use lib.Seq.{get_or-append-add}
use lib.Dec.{ltb}
use borrow.Author.Tests.{ltb-true, ltb-false}
use Rattle.octets.specs.Bytes.{be16, be32}
use Rattle.octets.specs.Words.{numbers, words}
use Rattle.octets.proofs.BoolLaws.{clash}
use Rattle.store.specs.declared.Limits.{Limits}
use Rattle.store.specs.Layout.{record_at, peers_at, Bounded}
use Rattle.store.specs.Store.{Entry, peers_of, header, key_record, key_records, encode, key_count, first, count, entries, entries_from}
use Rattle.store.specs.WellFormed.{WellFormed}
use Rattle.store.proofs.EncodingLaws.{LongKeys, fitting-long, key_record-length, encode_as}
use Rattle.store.proofs.DecodeLaws.{entries-length}
use Rattle.store.proofs.EncodeLaws.{entries-encode}
use Rattle.runs.specs.Alike.{in_key, in_record_key, in_store_key, DifferAt}
use Rattle.runs.specs.Tally.{Tag, tag, tags}
use Rattle.runs.proofs.RangeLaws.{SameIn, get16-same, get32-same, numbers-same, before-key, past-key, inside-key}
use Rattle.runs.proofs.EntryLaws.{with_kmac, AlikeEntries, no-entries, one_more_lem, length-alike, peers-alike}

-- ---- where no KMAC field stands

before-keys : (n r i : ℕ) → i < record_at r + 8 → in_record_key r n i ≡ false
unfolding in_record_key
before-keys zero r i h = refl
before-keys (suc n) r i h = rw (before-key (record_at r + 8) i h, before-keys n (suc r) i (omega arith))

past-keys : (n r i : ℕ) → record_at (r + n) ≤ i → in_record_key r n i ≡ false
unfolding in_record_key
past-keys zero r i h = refl
past-keys (suc n) r i h = rw (past-key (record_at r + 8) i (omega arith), past-keys n (suc r) i (omega arith))

-- ---- from bytes to entries

-- two entries with the same fields but for the KMAC
entry-alike : {i i' s s' a a' b b' : ℕ} {k k' ps ps' : List ℕ} {ts : List Tag} {es es' : List Entry} → i ≡ i' → s ≡ s' → a ≡ a' → b ≡ b' → ps ≡ ps' → AlikeEntries ts es es'
    → AlikeEntries
    (tag (record { issuer = i; serial = s; kmac = k; start = a; end = b; peers = ps }) (record { issuer = i'; serial = s'; kmac = k'; start = a'; end = b'; peers = ps' }) ∷ ts)
    (record { issuer = i; serial = s; kmac = k; start = a; end = b; peers = ps } ∷ es)
    (record { issuer = i'; serial = s'; kmac = k'; start = a'; end = b'; peers = ps' } ∷ es')
entry-alike {i} {s = s} {a = a} {b = b} {k = k} {k' = k'} {ps = ps} p1 p2 p3 p4 p5 r =
    rw (← p1, ← p2, ← p3, ← p4, ← p5) (one_more_lem (record { issuer = i; serial = s; kmac = k; start = a; end = b; peers = ps }) k' r)

module _ (L : Limits) (s s' : List ℕ) where
  entries_from-alike : (n r : ℕ) → ((i : ℕ) → record_at r ≤ i → in_record_key r n i ≡ false → get_or s i 0 ≡ get_or s' i 0) → ((i : ℕ) → peers_at L ≤ i → get_or s i 0 ≡ get_or s' i 0)
      → AlikeEntries (tags (entries_from L s r n) (entries_from L s' r n)) (entries_from L s r n) (entries_from L s' r n)
  unfolding entries_from tags in_record_key
  entries_from-alike zero r w t = no-entries
  entries_from-alike (suc n) r w t =
      let front : SameIn s s' (record_at r) 8 = λ i h l. w i h (before-keys (suc n) r i l) in
      let back : SameIn s s' (record_at r + 32) 12 = λ i h l. w i (omega arith) (rw (past-key (record_at r + 8) i (omega arith), before-keys n (suc r) i (omega arith))) in
      let f : first s r ≡ first s' r = get16-same s s' (record_at r + 40) (λ i h l. back i (omega arith) (omega arith)) in
      let c : count s r ≡ count s' r = get16-same s s' (record_at r + 42) (λ i h l. back i (omega arith) (omega arith)) in
      entry-alike
      (get32-same s s' (record_at r) (λ i h l. front i h (omega arith)))
      (get32-same s s' (record_at r + 4) (λ i h l. front i (omega arith) (omega arith)))
      (get32-same s s' (record_at r + 32) (λ i h l. back i h (omega arith)))
      (get32-same s s' (record_at r + 36) (λ i h l. back i (omega arith) (omega arith)))
      (numbers-same s s' (count s r) (peers_at L + 4 * first s r) (λ i h l. t i (omega arith))
      ∙ ap (λ (x : ℕ). numbers s' (peers_at L + 4 * x) (count s r)) f ∙ ap (λ (x : ℕ). numbers s' (peers_at L + 4 * first s' r) x) c)
      (entries_from-alike n (suc r) (λ i h l. w i (omega arith) (rw (past-key (record_at r + 8) i (omega arith), l))) t)

  pub entries-alike : key_count s ≤ L.keys → DifferAt (in_store_key s) s s' → AlikeEntries (tags (entries L s) (entries L s')) (entries L s) (entries L s')
  unfolding entries in_store_key
  entries-alike fit d =
      let n : ℕ = key_count s in
      let k : key_count s ≡ key_count s' = get16-same s s' 2 (λ i h l. d.same_byte i (before-keys n 0 i (omega arith))) in
      subst (λ (x : ℕ). AlikeEntries (tags (entries_from L s 0 n) (entries_from L s' 0 x)) (entries_from L s 0 n) (entries_from L s' 0 x)) k
      (entries_from-alike n 0 (λ i h l. d.same_byte i l) (λ i h. d.same_byte i (past-keys n 0 i (omega arith))))

-- ---- from entries to bytes

-- two lists of one length that stand at index at, and differ at most at the indices that p tells
record DifferFrom (p : ℕ → Bool) (at : ℕ) (a b : List ℕ) : Type 0 where
  pub long : length a ≡ length b
  pub same : (i : ℕ) → p (at + i) ≡ false → get_or a i 0 ≡ get_or b i 0

module _ (p : ℕ → Bool) where
  differ-none : (at : ℕ) (a : List ℕ) → DifferFrom p at a a
  differ-none at a = record { long = refl; same = λ i h. refl }

  differ-append : (at : ℕ) (a b c d : List ℕ) → DifferFrom p at a b → DifferFrom p (at + length a) c d → DifferFrom p at (a ++ c) (b ++ d)
  differ-append at a b c d x y =
      record {
        long = length-append a c ∙ ap (λ (n : ℕ). n + length c) x.long ∙ ap (λ (n : ℕ). length b + n) y.long ∙ sym (length-append b d);
        same = λ i h. go i h (ltb i (length a)) refl;
      }
    where
      go : (i : ℕ) → p (at + i) ≡ false → (t : Bool) → ltb i (length a) ≡ t → get_or (a ++ c) i 0 ≡ get_or (b ++ d) i 0
      go i h true q =
          let l : i < length a = ltb-true i (length a) q in
          get_or-append a c 0 i l ∙ x.same i h ∙ sym (get_or-append b d 0 i (subst (λ (n : ℕ). i < n) x.long l))
      go i h false q =
          let l : length a ≤ i = ltb-false i (length a) q in
          let e : i ≡ length a + (i - length a) = omega arith in
          let e' : length b + (i - length a) ≡ i = ap (λ (n : ℕ). n + (i - length a)) (sym x.long) ∙ sym e in
          ap (λ (n : ℕ). get_or (a ++ c) n 0) e
          ∙ get_or-append-add a c (i - length a) 0
          ∙ y.same (i - length a) (ap p (omega arith) ∙ h)
          ∙ sym (get_or-append-add b d (i - length a) 0)
          ∙ ap (λ (n : ℕ). get_or (b ++ d) n 0) e'

  differ-key : (at : ℕ) (k k' : List ℕ) → length k ≡ 24 → length k' ≡ 24 → ((i : ℕ) → i < 24 → p (at + i) ≡ true) → DifferFrom p at k k'
  differ-key at k k' l l' h = record { long = l ∙ sym l'; same = λ i f. go i f (ltb i 24) refl }
    where
      go : (i : ℕ) → p (at + i) ≡ false → (t : Bool) → ltb i 24 ≡ t → get_or k i 0 ≡ get_or k' i 0
      go i f true q = clash (p (at + i)) (h i (ltb-true i 24 q)) f
      go i f false q =
          let z : 24 ≤ i = ltb-false i 24 q in
          get_or-eq_default k 0 (omega arith) ∙ sym (get_or-eq_default k' 0 (omega arith))

  differ_record : (at q : ℕ) (e : Entry) (k : List ℕ) → length e.kmac ≡ 24 → length k ≡ 24 → ((j : ℕ) → j < 24 → p (at + 8 + j) ≡ true)
      → DifferFrom p at (key_record q e) (key_record q (with_kmac k e))
  unfolding key_record
  differ_record at q e k l l' h =
      let head : List ℕ = be32 e.issuer ++ be32 e.serial in
      let tail : List ℕ = be32 e.start ++ (be32 e.end ++ (be16 q ++ be16 (length e.peers))) in
      differ-append at head head (e.kmac ++ tail) (k ++ tail) (differ-none at head)
      (differ-append (at + 8) e.kmac k tail tail (differ-key (at + 8) e.kmac k l l' h) (differ-none (at + 8 + length e.kmac) tail))

  or_left : (b c : Bool) → b ≡ true → (b || c) ≡ true
  or_left b c m = rw m

  or_right : (b c : Bool) → c ≡ true → (b || c) ≡ true
  or_right true c m = refl
  or_right false c m = m

  differ-records : {ts : List Tag} {es es' : List Entry} → AlikeEntries ts es es' → (r q : ℕ) → LongKeys es → LongKeys es' → ((i : ℕ) → in_record_key r (length es) i ≡ true → p i ≡ true)
      → DifferFrom p (record_at r) (key_records q es) (key_records q es')
  unfolding key_records in_record_key LongKeys
  differ-records no-entries r q w w' h = differ-none (record_at r) []
  differ-records (one_more_lem {es = es} {es' = fs} e k x) r q w w' h =
      let n : ℕ = q + length e.peers in
      let at : record_at r + length (key_record q e) ≡ record_at (suc r) = ap (λ (y : ℕ). record_at r + y) (key_record-length q e w.0) ∙ omega arith in
      differ-append (record_at r) (key_record q e) (key_record q (with_kmac k e)) (key_records n es) (key_records n fs)
      (differ_record (record_at r) q e k w.0 w'.0
      (λ j m. h (record_at r + 8 + j) (or_left (in_key (record_at r + 8) (record_at r + 8 + j)) (in_record_key (suc r) (length es) (record_at r + 8 + j)) (inside-key (record_at r + 8) j m))))
      (subst (λ (y : ℕ). DifferFrom p y (key_records n es) (key_records n fs)) (sym at)
      (differ-records x (suc r) n w.1 w'.1 (λ i m. h i (or_right (in_key (record_at r + 8) i) (in_record_key (suc r) (length es) i) m))))

  differ-encode : (L : Limits) {ts : List Tag} {es es' : List Entry} → AlikeEntries ts es es' → LongKeys es → LongKeys es' → ((i : ℕ) → in_record_key 0 (length es) i ≡ true → p i ≡ true)
      → DifferFrom p 0 (encode L es) (encode L es')
  unfolding header
  differ-encode L {es = es} {es' = fs} x w w' h =
      let n : ℕ = length es in
      let ps : List ℕ = peers_of es in
      let H : List ℕ = header L n (length ps) in
      let R : List ℕ = replicate (44 * (L.keys - n)) 0 ++ (words ps ++ replicate (4 * (L.peers - length ps)) 0) in
      let u : encode L es ≡ H ++ (key_records 0 es ++ R) = encode_as L es ps n (length ps) refl refl refl in
      let u' : encode L fs ≡ H ++ (key_records 0 fs ++ R) = encode_as L fs ps n (length ps) (sym (length-alike x)) (sym (peers-alike x)) refl in
      rw (u, u')
      (differ-append 0 H H (key_records 0 es ++ R) (key_records 0 fs ++ R) (differ-none 0 H)
      (differ-append 12 (key_records 0 es) (key_records 0 fs) R R (differ-records x 0 0 w w' h) (differ-none (12 + length (key_records 0 es)) R)))

pub encode-differ : (L : Limits) {ts : List Tag} {es es' : List Entry} → Bounded L → AlikeEntries ts es es' → WellFormed L es → WellFormed L es'
    → DifferAt (in_store_key (encode L es)) (encode L es) (encode L es')
unfolding in_store_key
encode-differ L {es = es} {es' = fs} b x g g' =
    let s : List ℕ = encode L es in
    let n : key_count s ≡ length es = sym (entries-length L s) ∙ ap length (entries-encode L es b g) in
    let o : DifferFrom (in_store_key s) 0 s (encode L fs) =
    differ-encode (in_store_key s) L x (fitting-long es g.fitting) (fitting-long fs g'.fitting) (λ i h. ap (λ (y : ℕ). in_record_key 0 y i) n ∙ h) in
    record { same_length = o.long; same_byte = λ i h. o.same i (ap (in_store_key s) (zero-add i) ∙ h) }
