-- The bytes of a store written anew in another edition, and what the call answers.
-- Assumes nothing.
use mathlib.Core.Path.{◌≡◌, refl, sym, ap, ap₂, ◌∙◌}
use mathlib.Core.Bool.{Bool, true, false, ◌&&◌}
use mathlib.Core.List.{List, [], ◌++◌, append_assoc}
use Prim.Native.Nat.{ℕ, ◌+◌, ◌*◌, ◌-◌, ◌≤◌}
use native.Mathlib.Nat.{sub-zero, mul-add}
use native.Mathlib.Omega.{arith}
use lib.ListN.{length, replicate, length-append, length-replicate, replicate-append-replicate}
use lib.Dec.{eqb, leb}
use borrow.Author.Tests.{le-leb, leb-true}
use Rattle.octets.specs.Bytes.{Bytes, be16, part, splice}
use Rattle.octets.specs.Words.{words}
use Rattle.octets.proofs.BoolLaws.{and_left, and_right}
use Rattle.octets.proofs.PartLaws.{part_mid}
use Rattle.octets.proofs.SpliceLaws.{splice_mid}
use Rattle.octets.proofs.WordLaws.{length-words}
use Rattle.refusal.specs.declared.Refusal.TheVariants.{StoreLength, StoreUnsound, NoRoom}
use Rattle.store.specs.Layout.{total, peers_at}
use Rattle.store.specs.Store.{Entry, header, key_records, peers_of, encode, entries, counts_ok, sound, key_count, peer_count}
use Rattle.store.specs.WellFormed.{WellFormed}
use Rattle.store.specs.declared.Limits.{Limits}
use Rattle.store.proofs.SoundLaws.{Sound, sound_says}
use Rattle.store.proofs.DecodeLaws.{entries-length, peers-length, encode-entries}
use Rattle.store.proofs.EncodingLaws.{fitting-long, header-length, key_records-length}
use Rattle.store.proofs.WellFormedLaws.{sound-well_formed}
use Rattle.convert.specs.Convert.{has_room, answered, converted, Converts}
use Rattle.std.specs.Prelude.{Ok, Err}

-- ---- room

pub record Room (L : Limits) (es : List Entry) : Type 0 where
  pub keys_fit : length es ≤ L.keys
  pub peers_fit : length (peers_of es) ≤ L.peers

pub room_says : (L : Limits) (es : List Entry) → has_room L es ≡ true → Room L es
unfolding has_room
room_says L es h =
    let a : Bool = leb (length es) L.keys in
    let b : Bool = leb (length (peers_of es)) L.peers in
    record { keys_fit = leb-true (length es) L.keys (and_left a b h); peers_fit = leb-true (length (peers_of es)) L.peers (and_right a b h) }

pub room-holds : (L : Limits) (es : List Entry) → length es ≤ L.keys → length (peers_of es) ≤ L.peers → has_room L es ≡ true
unfolding has_room
room-holds L es h k = rw (le-leb (length es) L.keys h, le-leb (length (peers_of es)) L.peers k)

-- the header of a sound store has the counts of its entries
pub counts_decide : (F T : Limits) (from : List ℕ) → sound F from ≡ true → counts_ok T from ≡ has_room T (entries F from)
unfolding counts_ok has_room
counts_decide F T from h =
    ap₂ (λ (n m : ℕ). leb n T.keys && leb m T.peers) (sym (entries-length F from)) (sym (peers-length F from (sound_says F from h)))

-- ---- the bytes

-- what is copied lies in the source, and has its place in a target of the right length
module _ (F T : Limits) (from t : List ℕ) (h : sound F from ≡ true) (d : has_room T (entries F from) ≡ true) (long : length t ≡ total T) where
  pub records_lie : (n : ℕ) → n ≡ key_count from → (12 + 44 * n ≤ length t) × (12 + 44 * n ≤ length from)
  records_lie n e =
      let w : Sound F from = sound_says F from h in
      (omega (arith, (room_says T (entries F from) d).keys_fit, entries-length F from), omega (arith, w.size, w.keys_fit))

  pub peers_lie : (m : ℕ) → m ≡ peer_count from → (peers_at T + 4 * m ≤ length t) × (peers_at F + 4 * m ≤ length from)
  peers_lie m e =
      let w : Sound F from = sound_says F from h in
      (omega (arith, (room_says T (entries F from) d).peers_fit, peers-length F from w), omega (arith, w.size, w.peers_fit))

header-put : (L : Limits) (n m : ℕ) (r : List ℕ) → splice (splice (header L 0 0 ++ r) 2 (be16 n)) 6 (be16 m) ≡ header L n m ++ r
unfolding splice header
header-put L n m r = refl

encode-none : (L : Limits) → encode L [] ≡ header L 0 0 ++ (replicate (44 * L.keys) 0 ++ replicate (4 * L.peers) 0)
unfolding encode key_records peers_of words
encode-none L = rw (sub-zero L.keys, sub-zero L.peers)

zeros-split : (w n K : ℕ) → n ≤ K → replicate {A = ℕ} (w * K) 0 ≡ replicate (w * n) 0 ++ replicate (w * (K - n)) 0
zeros-split w n K h = ap (λ (x : ℕ). replicate x 0) (splits w n K h) ∙ sym (replicate-append-replicate {A = ℕ} (w * n) (w * (K - n)) 0)
  where
    splits : (w n K : ℕ) → n ≤ K → w * K ≡ w * n + w * (K - n)
    splits w n K h = let e : K ≡ n + (K - n) = omega arith in ap (λ (x : ℕ). w * x) e ∙ mul-add w n (K - n)

pieces : (a b c d e : List ℕ) → a ++ ((b ++ c) ++ (d ++ e)) ≡ a ++ (b ++ (c ++ (d ++ e)))
pieces a b c d e = simp append_assoc

front : (a b c d : List ℕ) → a ++ (b ++ (c ++ d)) ≡ (a ++ (b ++ c)) ++ d
front a b c d = simp append_assoc

front_long : (L : Limits) (a b c : List ℕ) (n : ℕ) → length a ≡ 12 → length b ≡ 44 * n → length c ≡ 44 * (L.keys - n) → n ≤ L.keys → length (a ++ (b ++ c)) ≡ peers_at L
front_long L a b c n p q r h = length-append a (b ++ c) ∙ omega (arith, length-append b c)

module _ (F T : Limits) (from : List ℕ) (bytes : Bytes from) (h : sound F from ≡ true) (room : Room T (entries F from)) where
  es : List Entry
  es = entries F from

  ps : List ℕ
  ps = peers_of (entries F from)

  records : List ℕ
  records = key_records 0 (entries F from)

  records-long : length records ≡ 44 * length es
  unfolding records es
  records-long = key_records-length 0 (entries F from) (fitting-long (entries F from) (sound-well_formed F from bytes h).fitting)

  old-room : Room F es
  unfolding es
  old-room = let w : WellFormed F (entries F from) = sound-well_formed F from bytes h in record { keys_fit = w.keys_fit; peers_fit = w.peers_fit }

  whole : (L : Limits) → encode L es ≡ header L (length es) (length ps) ++ (records ++ (replicate (44 * (L.keys - length es)) 0 ++ (words ps ++ replicate (4 * (L.peers - length ps)) 0)))
  unfolding encode es ps records
  whole L = refl

  was : from ≡ encode F es
  unfolding es
  was = encode-entries F from bytes h

  keys-copied : part from 12 (44 * length es) ≡ records
  keys-copied =
      ap (λ (x : List ℕ). part x 12 (44 * length es)) (was ∙ whole F)
      ∙ part_mid (header F (length es) (length ps)) records _ 12 (44 * length es) (header-length F (length es) (length ps)) records-long

  peers-copied : part from (peers_at F) (4 * length ps) ≡ words ps
  peers-copied =
      let H : List ℕ = header F (length es) (length ps) in
      let Z : List ℕ = replicate (44 * (F.keys - length es)) 0 in
      let Y : List ℕ = replicate (4 * (F.peers - length ps)) 0 in
      ap (λ (x : List ℕ). part x (peers_at F) (4 * length ps)) (was ∙ whole F ∙ front H records Z (words ps ++ Y))
      ∙ part_mid (H ++ (records ++ Z)) (words ps) Y (peers_at F) (4 * length ps)
      (front_long F H records Z (length es) (header-length F (length es) (length ps)) records-long (length-replicate {A = ℕ} (44 * (F.keys - length es)) 0) old-room.keys_fit)
      (length-words ps)

  n-is : length es ≡ key_count from
  unfolding es
  n-is = entries-length F from

  peers-there : length ps ≤ T.peers
  unfolding ps
  peers-there = room.peers_fit

  m-is : length ps ≡ peer_count from
  unfolding ps
  m-is = peers-length F from (sound_says F from h)

  pub copied : (n m : ℕ) (t0 t1 t2 t3 t4 : List ℕ) → n ≡ key_count from → m ≡ peer_count from
      → t0 ≡ encode T []
      → t1 ≡ splice t0 2 (be16 n)
      → t2 ≡ splice t1 6 (be16 m)
      → t3 ≡ splice t2 12 (part from 12 (44 * n))
      → t4 ≡ splice t3 (peers_at T) (part from (peers_at F) (4 * m))
      → t4 ≡ encode T (entries F from)
  unfolding es
  copied n m t0 t1 t2 t3 t4 en em e0 e1 e2 e3 e4 =
      let n-es : n ≡ length es = en ∙ sym n-is in
      let m-ps : m ≡ length ps = em ∙ sym m-is in
      let n_k : length es ≤ T.keys = room.keys_fit in
      let m_p : length ps ≤ T.peers = peers-there in
      let H : List ℕ = header T (length es) (length ps) in
      let R1 : List ℕ = replicate (44 * length es) 0 in
      let R2 : List ℕ = replicate (44 * (T.keys - length es)) 0 in
      let R3 : List ℕ = replicate (4 * length ps) 0 in
      let R4 : List ℕ = replicate (4 * (T.peers - length ps)) 0 in
      let z2 : t2 ≡ H ++ (R1 ++ (R2 ++ (R3 ++ R4))) =
      e2 ∙ ap₂ (λ (x : List ℕ) (y : ℕ). splice x 6 (be16 y)) (e1 ∙ ap₂ (λ (x : List ℕ) (y : ℕ). splice x 2 (be16 y)) (e0 ∙ encode-none T) n-es) m-ps
      ∙ header-put T (length es) (length ps) _
      ∙ ap₂ (λ (x y : List ℕ). H ++ (x ++ y)) (zeros-split 44 (length es) T.keys n_k) (zeros-split 4 (length ps) T.peers m_p)
      ∙ pieces H R1 R2 R3 R4 in
      let z3 : t3 ≡ H ++ (records ++ (R2 ++ (R3 ++ R4))) =
      e3 ∙ ap₂ (λ (x y : List ℕ). splice x 12 y) z2 (ap (λ (x : ℕ). part from 12 (44 * x)) n-es ∙ keys-copied)
      ∙ splice_mid H R1 (R2 ++ (R3 ++ R4)) records 12 (header-length T (length es) (length ps)) (length-replicate {A = ℕ} (44 * length es) 0 ∙ sym records-long) in
      e4 ∙ ap₂ (λ (x y : List ℕ). splice x (peers_at T) y) (z3 ∙ front H records R2 (R3 ++ R4)) (ap (λ (x : ℕ). part from (peers_at F) (4 * x)) m-ps ∙ peers-copied)
      ∙ splice_mid (H ++ (records ++ R2)) R3 R4 (words ps) (peers_at T)
      (front_long T H records R2 (length es) (header-length T (length es) (length ps)) records-long (length-replicate {A = ℕ} (44 * (T.keys - length es)) 0) n_k)
      (length-replicate {A = ℕ} (4 * length ps) 0 ∙ sym (length-words ps))
      ∙ sym (front H records R2 (words ps ++ R4))
      ∙ sym (whole T)

-- ---- the answer

module _ (F T : Limits) (from to : List ℕ) where
  pub wrong_source : eqb (length from) (total F) ≡ false → Converts F T from to to (Err StoreLength)
  unfolding answered converted
  wrong_source a = record { answer = rw a; target = rw a }

  module _ (a : eqb (length from) (total F) ≡ true) where
    pub wrong_target : eqb (length to) (total T) ≡ false → Converts F T from to to (Err StoreLength)
    unfolding answered converted
    wrong_target b = record { answer = rw (a, b); target = rw (a, b) }

    module _ (b : eqb (length to) (total T) ≡ true) where
      pub unsound : sound F from ≡ false → Converts F T from to to (Err StoreUnsound)
      unfolding answered converted
      unsound c = record { answer = rw (a, b, c); target = rw (a, b, c) }

      module _ (c : sound F from ≡ true) where
        pub no_room : has_room T (entries F from) ≡ false → Converts F T from to to (Err NoRoom)
        unfolding answered converted
        no_room d = record { answer = rw (a, b, c, d); target = rw (a, b, c, d) }

        pub done : has_room T (entries F from) ≡ true → (to' : List ℕ) → to' ≡ encode T (entries F from) → Converts F T from to to' (Ok tt)
        unfolding answered converted
        done d to' e = record { answer = rw (a, b, c, d); target = rw (a, b, c, d) e }
