-- Two lists of entries that differ at most in their KMACs, with the tags that say where: what does not see the KMACs, and what a request does to both.
-- Assumes nothing.
use mathlib.Core.Path.{◌≡◌, refl, sym, ap, ◌∙◌}
use mathlib.Core.Bool.{Bool, true, false, not, cond, ◌&&◌}
use mathlib.Core.List.{List, [], ◌∷◌, ◌++◌}
use Prim.Native.Nat.{ℕ, suc}
use lib.ListN.{length}
use lib.Dec.{leb}
use borrow.Author.Tests.{not-true, not-false}
use Rattle.octets.specs.Bytes.{same}
use Rattle.octets.proofs.BoolLaws.{clash, and_left, and_right, same_refl, same_true}
use Rattle.store.specs.Search.{Choice}
use Rattle.store.specs.Store.{Entry, peers_of}
use Rattle.store.specs.Search.{pick_number, place_where, one_more, latest, serves, chosen}
use Rattle.store.specs.Request.{has_key, key_place, remove_at, update_at}
use Rattle.runs.specs.Tally.{Tag, tag, without}
use Rattle.runs.specs.Secrecy.{Told, told_none, told_more, none_unlike}

abbrev pub with_kmac : List ℕ → Entry → Entry
with_kmac k e = record { issuer = e.issuer; serial = e.serial; kmac = k; start = e.start; end = e.end; peers = e.peers }

pub data AlikeEntries : List Tag → List Entry → List Entry → Type 0 where
  no-entries : AlikeEntries [] [] []
  one_more_lem : {ts : List Tag} {es es' : List Entry} → (e : Entry) → (k : List ℕ) → AlikeEntries ts es es'
      → AlikeEntries (tag e (with_kmac k e) ∷ ts) (e ∷ es) (with_kmac k e ∷ es')

-- ---- what does not see the KMACs

pub length-alike : {ts : List Tag} {es es' : List Entry} → AlikeEntries ts es es' → length es ≡ length es'
length-alike no-entries = refl
length-alike (one_more_lem e k r) = ap suc (length-alike r)

pub peers-alike : {ts : List Tag} {es es' : List Entry} → AlikeEntries ts es es' → peers_of es ≡ peers_of es'
unfolding peers_of
peers-alike no-entries = refl
peers-alike (one_more_lem e k r) = ap (λ (x : List ℕ). e.peers ++ x) (peers-alike r)

place-alike : {ts : List Tag} {es es' : List Entry} → (p : Entry → Bool) → ((e : Entry) (k : List ℕ) → p e ≡ p (with_kmac k e)) → AlikeEntries ts es es'
    → place_where p es ≡ place_where p es'
unfolding place_where
place-alike p q no-entries = refl
place-alike p q (one_more_lem {es' = fs} e k r) =
    ap (λ (x : ℕ). pick_number (p e) 0 (suc x)) (place-alike p q r) ∙ ap (λ (b : Bool). pick_number b 0 (suc (place_where p fs))) (q e k)

pub key_place-alike : {ts : List Tag} {es es' : List Entry} → (i s : ℕ) → AlikeEntries ts es es' → key_place i s es ≡ key_place i s es'
key_place-alike i s r = place-alike (has_key i s) (λ e k. refl) r

pub chosen-alike : {ts : List Tag} {es es' : List Entry} → (peer t : ℕ) → AlikeEntries ts es es' → chosen peer t es ≡ chosen peer t es'
unfolding latest
chosen-alike peer t no-entries = refl
chosen-alike peer t (one_more_lem e k r) =
    ap (λ (c : Choice). one_more (serves peer t e && leb c.end e.end) e.end c) (chosen-alike peer t r)

-- ---- an entry more, one less, one changed

pub added-alike : {ts : List Tag} {es es' : List Entry} → (e : Entry) → (k : List ℕ) → AlikeEntries ts es es'
    → AlikeEntries (ts ++ (tag e (with_kmac k e) ∷ [])) (es ++ (e ∷ [])) (es' ++ (with_kmac k e ∷ []))
added-alike e k no-entries = one_more_lem e k no-entries
added-alike e k (one_more_lem f l r) = one_more_lem f l (added-alike e k r)

cut-alike : {ts ts0 : List Tag} {es es' : List Entry} → (b : Bool) → (p p' : ℕ) → (e : Entry) → (k : List ℕ) → AlikeEntries ts es es' → AlikeEntries ts0 (remove_at p es) (remove_at p' es')
    → AlikeEntries (cond b ts (tag e (with_kmac k e) ∷ ts0)) (remove_at (pick_number b 0 (suc p)) (e ∷ es)) (remove_at (pick_number b 0 (suc p')) (with_kmac k e ∷ es'))
cut-alike true p p' e k r q = r
cut-alike false p p' e k r q = one_more_lem e k q

pub removed_alike : {ts : List Tag} {es es' : List Entry} → (i s : ℕ) → AlikeEntries ts es es'
    → AlikeEntries (without i s ts) (remove_at (key_place i s es) es) (remove_at (key_place i s es') es')
unfolding without place_where
removed_alike i s no-entries = no-entries
removed_alike i s (one_more_lem {es = es} {es' = fs} e k r) = cut-alike (has_key i s e) (key_place i s es) (key_place i s fs) e k r (removed_alike i s r)

-- a change that keeps what the tag tells and does not see the KMAC
module _ (g : Entry → Entry)
    (keeps : (ts : List Tag) (es es' : List Entry) (e : Entry) (k : List ℕ) → AlikeEntries ts es es' → AlikeEntries (tag e (with_kmac k e) ∷ ts) (g e ∷ es) (g (with_kmac k e) ∷ es')) where
  change_alike : (ts : List Tag) (es es' : List Entry) (b : Bool) (p p' : ℕ) (e : Entry) (k : List ℕ) → AlikeEntries ts es es' → AlikeEntries ts (update_at p g es) (update_at p' g es')
      → AlikeEntries (tag e (with_kmac k e) ∷ ts) (update_at (pick_number b 0 (suc p)) g (e ∷ es)) (update_at (pick_number b 0 (suc p')) g (with_kmac k e ∷ es'))
  unfolding update_at
  change_alike ts es es' true p p' e k r q = keeps ts es es' e k r
  change_alike ts es es' false p p' e k r q = one_more_lem e k q

  pub updated_alike : {ts : List Tag} {es es' : List Entry} → (i s : ℕ) → AlikeEntries ts es es' → AlikeEntries ts (update_at (key_place i s es) g es) (update_at (key_place i s es') g es')
  unfolding place_where update_at
  updated_alike i s no-entries = no-entries
  updated_alike i s (one_more_lem {ts = ts} {es = es} {es' = fs} e k r) =
      change_alike ts es fs (has_key i s e) (key_place i s es) (key_place i s fs) e k r (updated_alike i s r)

-- ---- what the tags tell

pub alike-told : {ts : List Tag} {es es' : List Entry} → AlikeEntries ts es es' → Told ts es es'
alike-told no-entries = told_none
alike-told (one_more_lem e k r) =
    told_more refl refl refl refl (λ u. same_true e.kmac k (not-false (same e.kmac k) u))
    (λ u q. clash (same e.kmac k) (ap (same e.kmac) (sym q) ∙ same_refl e.kmac) (not-true (same e.kmac k) u)) (alike-told r)

-- where no tag says unlike, the lists are equal
pub none-unlike : {ts : List Tag} {es es' : List Entry} → AlikeEntries ts es es' → none_unlike ts ≡ true → es ≡ es'
none-unlike no-entries h = refl
none-unlike (one_more_lem {ts = ts} {es = es} {es' = fs} e k r) h =
    let u : not (not (same e.kmac k)) ≡ true = and_left (not (not (same e.kmac k))) (none_unlike ts) h in
    let q : e.kmac ≡ k = same_true e.kmac k (not-false (same e.kmac k) (not-true (not (same e.kmac k)) u)) in
    ap (λ (l : List ℕ). with_kmac l e ∷ es) q ∙ ap (λ (l : List Entry). with_kmac k e ∷ l) (none-unlike r (and_right (not (not (same e.kmac k))) (none_unlike ts) h))
