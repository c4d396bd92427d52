-- Laws of the fields of a record, written in place.
-- Assumes nothing.
use mathlib.Core.Path.{◌≡◌, refl, sym, ap, ◌∙◌}
use mathlib.Core.List.{List, [], ◌∷◌, ◌++◌, append_assoc}
use Prim.Native.Nat.{ℕ, suc, ◌+◌, ◌-◌, ◌*◌, ◌/◌, ◌≤◌, ◌<◌}
use native.Mathlib.Omega.{arith}
use lib.ListN.{length, length-append}
use Rattle.octets.specs.Bytes.{get16, be16, be32, splice}
use Rattle.octets.proofs.SpliceLaws.{splice-splice, splice_mid}
use Rattle.octets.proofs.WordLaws.{get16-be16, length-numbers}
use Rattle.store.specs.Store.{Entry, header, key_record, key_records, peers_of}
use Rattle.store.specs.Request.{valid_for, with_peers}
use Rattle.store.specs.declared.Limits.{Limits}
use Rattle.store.proofs.EncodingLaws.{LongKeys, key_record-length, cut-first, cut-count, at-start, at_first, at_count}
use Rattle.requests.specs.declared.entry.Addition.{Addition}
use Rattle.requests.specs.Edit.{with_counts, renumbered}
use Rattle.requests.specs.Worked.{new_entry}

-- two writes, one behind the other
pub write_two : (s : List ℕ) (i : ℕ) (v w t u : List ℕ) (k : ℕ) → length v ≡ k → i + k + length w ≤ length s → t ≡ splice s i v → u ≡ splice t (i + k) w → u ≡ splice s i (v ++ w)
write_two s i v w t u k l h e f = f ∙ ap (λ (x : List ℕ). splice x (i + k) w) e ∙ splice-splice s i v w k l h

-- ---- a record, written in three parts

group_record : (i s k b e p n : List ℕ) → (((i ++ s) ++ k) ++ (b ++ e)) ++ (p ++ n) ≡ i ++ (s ++ (k ++ (b ++ (e ++ (p ++ n)))))
group_record i s k b e p n = simp append_assoc

pub record_written : (s : List ℕ) (i p : ℕ) (new : Addition) (t u v : List ℕ) → i + 44 ≤ length s → length new.kmac.now ≡ 24
    → t ≡ splice s i ((be32 new.id.issuer ++ be32 new.id.serial) ++ new.kmac.now)
    → u ≡ splice t (i + 32) (be32 new.period.start ++ be32 new.period.end)
    → v ≡ splice u (i + 40) (be16 p ++ be16 (length new.peers.bytes.now / 4))
    → v ≡ splice s i (key_record p (new_entry new))
unfolding key_record
record_written s i p new t u v h k et eu ev =
    let I : List ℕ = be32 new.id.issuer in
    let S : List ℕ = be32 new.id.serial in
    let K : List ℕ = new.kmac.now in
    let B : List ℕ = be32 new.period.start in
    let E : List ℕ = be32 new.period.end in
    let n : ℕ = length new.peers.bytes.now / 4 in
    let N : List ℕ = be16 n in
    let l1 : length ((I ++ S) ++ K) ≡ 32 = length-append (I ++ S) K ∙ ap (λ (x : ℕ). 8 + x) k in
    let l2 : length (((I ++ S) ++ K) ++ (B ++ E)) ≡ 40 = length-append ((I ++ S) ++ K) (B ++ E) ∙ ap (λ (x : ℕ). x + 8) l1 in
    let w : u ≡ splice s i (((I ++ S) ++ K) ++ (B ++ E)) = write_two s i ((I ++ S) ++ K) (B ++ E) t u 32 l1 (omega arith) et eu in
    write_two s i (((I ++ S) ++ K) ++ (B ++ E)) (be16 p ++ N) u v 40 l2 (omega arith) w ev
    ∙ ap (splice s i) (group_record I S K B E (be16 p) N ∙ ap (λ (x : ℕ). I ++ (S ++ (K ++ (B ++ (E ++ (be16 p ++ be16 x)))))) (sym (length-numbers new.peers.bytes.now 0 n)))

-- ---- fields of a record behind a and before t

module _ (a i s k b e p n t : List ℕ) where
  cut_period : a ++ ((i ++ (s ++ (k ++ (b ++ (e ++ (p ++ n)))))) ++ t) ≡ (a ++ (i ++ (s ++ k))) ++ ((b ++ e) ++ ((p ++ n) ++ t))
  cut_period = simp append_assoc

  cut_share : a ++ ((i ++ (s ++ (k ++ (b ++ (e ++ (p ++ n)))))) ++ t) ≡ (a ++ (i ++ (s ++ (k ++ (b ++ e))))) ++ ((p ++ n) ++ t)
  cut_share = simp append_assoc

module _ (a t : List ℕ) (x : Entry) (r p : ℕ) (ea : length a ≡ r) (long : length x.kmac ≡ 24) where
  abbrev I : List ℕ
  I = be32 x.issuer

  abbrev S : List ℕ
  S = be32 x.serial

  abbrev K : List ℕ
  K = x.kmac

  abbrev B : List ℕ
  B = be32 x.start

  abbrev E : List ℕ
  E = be32 x.end

  abbrev N : List ℕ
  N = be16 (length x.peers)

  pub period_written : (v w : ℕ) → splice (a ++ (key_record p x ++ t)) (r + 32) (be32 v ++ be32 w) ≡ a ++ (key_record p (valid_for v w x) ++ t)
  unfolding key_record
  period_written v w =
      ap (λ (y : List ℕ). splice y (r + 32) (be32 v ++ be32 w)) (cut_period a I S K B E (be16 p) N t)
      ∙ splice_mid (a ++ (I ++ (S ++ K))) (B ++ E) ((be16 p ++ N) ++ t) (be32 v ++ be32 w) (r + 32) (at-start a x r p ea long) refl
      ∙ sym (cut_period a I S K (be32 v) (be32 w) (be16 p) N t)

  pub share_written : (q c : ℕ) (ps : List ℕ) → c ≡ length ps → splice (a ++ (key_record p x ++ t)) (r + 40) (be16 q ++ be16 c) ≡ a ++ (key_record q (with_peers ps x) ++ t)
  unfolding key_record
  share_written q c ps e =
      ap (λ (y : List ℕ). splice y (r + 40) (be16 q ++ be16 c)) (cut_share a I S K B E (be16 p) N t)
      ∙ splice_mid (a ++ (I ++ (S ++ (K ++ (B ++ E))))) (be16 p ++ N) t (be16 q ++ be16 c) (r + 40) (at_first a x r p ea long) refl
      ∙ sym (cut_share a I S K B E (be16 q) (be16 c) t)
      ∙ ap (λ (y : ℕ). a ++ ((I ++ (S ++ (K ++ (B ++ (E ++ (be16 q ++ be16 y)))))) ++ t)) e

  first-written : (q : ℕ) → splice (a ++ (key_record p x ++ t)) (r + 40) (be16 q) ≡ a ++ (key_record q x ++ t)
  unfolding key_record
  first-written q =
      ap (λ (y : List ℕ). splice y (r + 40) (be16 q)) (cut-first a I S K B E (be16 p) N t)
      ∙ splice_mid (a ++ (I ++ (S ++ (K ++ (B ++ E))))) (be16 p) (N ++ t) (be16 q) (r + 40) (at_first a x r p ea long) refl
      ∙ sym (cut-first a I S K B E (be16 q) N t)

  count-read : length x.peers < 65536 → get16 (a ++ (key_record p x ++ t)) (r + 42) ≡ length x.peers
  unfolding key_record
  count-read h =
      ap (λ (y : List ℕ). get16 y (r + 42)) (cut-count a I S K B E (be16 p) N t)
      ∙ get16-be16 (a ++ (I ++ (S ++ (K ++ (B ++ (E ++ be16 p)))))) t (length x.peers) (r + 42) (at_count a x r p ea long) h

-- ---- the first peer indexes of records, counted anew

-- a turn of the loop, and its end
pub renumbered_turn : (s : List ℕ) (i n k q : ℕ) → k < n
    → renumbered s (i + 44 * k) (n - k) q ≡ renumbered (splice s (i + 44 * k + 40) (be16 q)) (i + 44 * (k + 1)) (n - (k + 1)) (q + get16 s (i + 44 * k + 42))
unfolding renumbered
renumbered_turn s i n k q l =
    let e : n - k ≡ suc (n - (k + 1)) = omega arith in
    let j : i + 44 * k + 44 ≡ i + 44 * (k + 1) = omega arith in
    ap (λ (x : ℕ). renumbered s (i + 44 * k) x q) e
    ∙ ap (λ (x : ℕ). renumbered (splice s (i + 44 * k + 40) (be16 q)) x (n - (k + 1)) (q + get16 s (i + 44 * k + 42))) j

pub renumbered-end : (s : List ℕ) (i n k q : ℕ) → n ≤ k → renumbered s i (n - k) q ≡ s
unfolding renumbered
renumbered-end s i n k q l = let e : n - k ≡ 0 = omega arith in ap (λ (x : ℕ). renumbered s i x q) e

group-rest : (a e r c : List ℕ) → a ++ ((e ++ r) ++ c) ≡ a ++ (e ++ (r ++ c))
group-rest a e r c = simp append_assoc

group-passed : (a e r c : List ℕ) → a ++ (e ++ (r ++ c)) ≡ (a ++ e) ++ (r ++ c)
group-passed a e r c = simp append_assoc

pub renumbered-records : (es : List Entry) (a c : List ℕ) (i q p : ℕ) → length a ≡ i → LongKeys es → length (peers_of es) < 65536
    → renumbered (a ++ (key_records q es ++ c)) i (length es) p ≡ a ++ (key_records p es ++ c)
unfolding renumbered key_records LongKeys peers_of
renumbered-records [] a c i q p ea k h = refl
renumbered-records (e ∷ es) a c i q p ea k h =
    let l : ℕ = length e.peers in
    let R : List ℕ = key_records (q + l) es in
    let s : List ℕ = a ++ ((key_record q e ++ R) ++ c) in
    let lp : l + length (peers_of es) < 65536 = rw (length-append e.peers (peers_of es)) at h in
    let read : get16 s (i + 42) ≡ l = ap (λ (x : List ℕ). get16 x (i + 42)) (group-rest a (key_record q e) R c) ∙ count-read a (R ++ c) e i q ea k.0 (omega arith) in
    let put : splice s (i + 40) (be16 p) ≡ (a ++ key_record p e) ++ (R ++ c) =
    ap (λ (x : List ℕ). splice x (i + 40) (be16 p)) (group-rest a (key_record q e) R c)
    ∙ first-written a (R ++ c) e i q ea k.0 p
    ∙ group-passed a (key_record p e) R c in
    ap (λ (x : List ℕ). renumbered x (i + 44) (length es) (p + get16 s (i + 42))) put
    ∙ ap (λ (x : ℕ). renumbered ((a ++ key_record p e) ++ (R ++ c)) (i + 44) (length es) (p + x)) read
    ∙ renumbered-records es (a ++ key_record p e) c (i + 44) (q + l) (p + l) (omega (arith, length-append a (key_record p e), key_record-length p e k.0)) k.1 (omega arith)
    ∙ sym (group-passed a (key_record p e) (key_records (p + l) es) c)
    ∙ sym (group-rest a (key_record p e) (key_records (p + l) es) c)

-- ---- the header's counts

pub header-counts : (L : Limits) (n m n' m' : ℕ) (t : List ℕ) → with_counts (header L n m ++ t) n' m' ≡ header L n' m' ++ t
unfolding with_counts header splice
header-counts L n m n' m' t = refl

pub header-keys : (L : Limits) (n m n' : ℕ) (t : List ℕ) → splice (header L n m ++ t) 2 (be16 n') ≡ header L n' m ++ t
unfolding header splice
header-keys L n m n' t = refl
