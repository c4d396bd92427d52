-- Requests that differ at most in a KMAC, of the same parity: the same RESULTs, and entries that are alike by the tally.
-- Assumes nothing.
use mathlib.Core.Path.{◌≡◌, refl, ap, ◌∙◌}
use mathlib.Core.Bool.{Bool, true, false, cond}
use mathlib.Core.List.{List, [], ◌∷◌}
use Prim.Native.Nat.{ℕ}
use lib.Dec.{eqb}
use Rattle.store.specs.declared.Limits.{Limits}
use Rattle.store.specs.Store.{Entry, all_odd}
use Rattle.store.specs.Request.{Request, add, delete, validity, entities, valid_for, with_peers, result, done, pick_entries, after, work}
use Rattle.runs.specs.Tally.{Tag, tagged, all_tagged}
use Rattle.runs.proofs.EntryLaws.{with_kmac, AlikeEntries, one_more_lem, length-alike, peers-alike, key_place-alike, added-alike, removed_alike, updated_alike}

pub data AlikeRequest : Request → Request → Type 0 where
  alike-add : (recipient : ℕ) → (e : Entry) → (k : List ℕ) → all_odd e.kmac ≡ all_odd k → AlikeRequest (add recipient e) (add recipient (with_kmac k e))
  alike-delete : (i s : ℕ) → AlikeRequest (delete i s) (delete i s)
  alike-validity : (i s a b : ℕ) → AlikeRequest (validity i s a b) (validity i s a b)
  alike-entities : (i s : ℕ) → (ps : List ℕ) → AlikeRequest (entities i s ps) (entities i s ps)

pub data AlikeRequests : List Request → List Request → Type 0 where
  no-requests : AlikeRequests [] []
  one-request : {r r' : Request} {rs rs' : List Request} → AlikeRequest r r' → AlikeRequests rs rs' → AlikeRequests (r ∷ rs) (r' ∷ rs')

same-request : (r : Request) → AlikeRequest r r
same-request (add recipient e) = alike-add recipient e e.kmac refl
same-request (delete i s) = alike-delete i s
same-request (validity i s a b) = alike-validity i s a b
same-request (entities i s ps) = alike-entities i s ps

pub same-requests : (rs : List Request) → AlikeRequests rs rs
same-requests [] = no-requests
same-requests (r ∷ rs) = one-request (same-request r) (same-requests rs)

module _ (L : Limits) (own : ℕ) where
  result-alike : {r r' : Request} {ts : List Tag} {es es' : List Entry} → AlikeRequest r r' → AlikeEntries ts es es' → result L own r es ≡ result L own r' es'
  unfolding result
  result-alike (alike-add recipient e k o) q = rw (o, key_place-alike e.issuer e.serial q, length-alike q, peers-alike q)
  result-alike (alike-delete i s) q = rw (key_place-alike i s q, length-alike q)
  result-alike (alike-validity i s a b) q = rw (key_place-alike i s q, length-alike q)
  result-alike (alike-entities i s ps) q = rw (peers-alike (removed_alike i s q), key_place-alike i s q, length-alike q)

  done-alike : {r r' : Request} {ts : List Tag} {es es' : List Entry} → AlikeRequest r r' → AlikeEntries ts es es' → AlikeEntries (tagged r r' ts) (done r es) (done r' es')
  unfolding tagged done
  done-alike (alike-add recipient e k o) q = added-alike e k q
  done-alike (alike-delete i s) q = removed_alike i s q
  done-alike (alike-validity i s a b) q = updated_alike (valid_for a b) (λ ts es es' e k r. one_more_lem (valid_for a b e) k r) i s q
  done-alike (alike-entities i s ps) q = updated_alike (with_peers ps) (λ ts es es' e k r. one_more_lem (with_peers ps e) k r) i s q

  pick-alike : {ts ts0 : List Tag} {es es' fs fs' : List Entry} → (b : Bool) → AlikeEntries ts0 fs fs' → AlikeEntries ts es es'
      → AlikeEntries (cond b ts0 ts) (pick_entries b fs es) (pick_entries b fs' es')
  pick-alike true x y = x
  pick-alike false x y = y

  after-alike : {r r' : Request} {ts : List Tag} {es es' : List Entry} → AlikeRequest r r' → AlikeEntries ts es es'
      → AlikeEntries (cond (eqb (result L own r es) 0) (tagged r r' ts) ts) (after L own r es) (after L own r' es')
  unfolding after
  after-alike {r} {es = es} x q = rw (← result-alike x q) (pick-alike (eqb (result L own r es) 0) (done-alike x q) q)

  pub results-alike : {rs rs' : List Request} {ts : List Tag} {es es' : List Entry} → AlikeRequests rs rs' → AlikeEntries ts es es' → (work L own rs es).results ≡ (work L own rs' es').results
  unfolding work
  results-alike no-requests q = refl
  results-alike {es = es} {es' = fs} (one-request {r = r} {r' = r'} {rs = rs} x xs) q =
      ap (λ (n : ℕ). n ∷ (work L own rs (after L own r es)).results) (result-alike x q) ∙ ap (λ (ns : List ℕ). result L own r' fs ∷ ns) (results-alike xs (after-alike x q))

  pub work-alike : {rs rs' : List Request} {ts : List Tag} {es es' : List Entry} → AlikeRequests rs rs' → AlikeEntries ts es es'
      → AlikeEntries (all_tagged rs rs' (work L own rs es).results ts) (work L own rs es).left (work L own rs' es').left
  unfolding all_tagged work
  work-alike no-requests q = q
  work-alike (one-request x xs) q = work-alike xs (after-alike x q)
