-- Every request, whatever its RESULT, keeps the entries well-formed and so the store sound, and so does any list of requests.
-- Assumes nothing.
use Rattle.octets.specs.Bytes.{Bytes}
use mathlib.Core.Path.{◌≡◌, refl}
use mathlib.Core.Bool.{Bool, true, false, not}
use mathlib.Core.List.{List, [], ◌∷◌}
use Prim.Native.Nat.{ℕ, suc, ◌+◌, ◌≤◌, ◌<◌}
use native.Mathlib.Omega.{arith}
use lib.ListN.{length}
use lib.Dec.{leb, ltb, eqb}
use borrow.Author.Tests.{eqb-true, eq-eqb, ne_eqb, ltb-false, leb-false, not-false}
use Rattle.store.specs.Store.{Entry, peers_of, encode, entries, all_odd, sound}
use Rattle.store.specs.Request.{Request, add, delete, validity, entities, Reason, reason, first_reason, is_held, key_place, peers_beside, result, done, pick_entries, after, work}
use Rattle.store.specs.WellFormed.{WellFormed, Readable, AllReadable}
use Rattle.store.specs.declared.Limits.{Limits}
use Rattle.store.proofs.SoundLaws.{sound_bounded}
use Rattle.store.proofs.EncodeLaws.{encode-sound}
use Rattle.store.proofs.WellFormedLaws.{sound-well_formed, remove_at-well_formed, valid_for-well_formed, with_peers-well_formed, added-well_formed}

-- the first reason applies, or it does not
pub reason-here : (b : Bool) (n : ℕ) (rs : List Reason) → b ≡ true → first_reason (reason b n ∷ rs) ≡ n
unfolding first_reason
reason-here b n rs e = rw e

pub reason-next : (b : Bool) (n : ℕ) (rs : List Reason) → b ≡ false → first_reason (reason b n ∷ rs) ≡ first_reason rs
unfolding first_reason
reason-next b n rs e = rw e

pub reason-none : first_reason [] ≡ 0
unfolding first_reason
reason-none = refl

-- where no reason applies, the first does not, nor do the others
no-reason : (b : Bool) (n : ℕ) (rs : List Reason) → first_reason (reason b (suc n) ∷ rs) ≡ 0 → (b ≡ false) × (first_reason rs ≡ 0)
unfolding first_reason
no-reason true n rs h = absurd (omega (arith, h))
no-reason false n rs h = (refl, h)

module _ (L : Limits) (own : ℕ) (es : List Entry) (r : Request) where
  -- a RESULT of 0: the request is done; any other: the entries are as they were
  pub after-done : result L own r es ≡ 0 → after L own r es ≡ done r es
  unfolding after
  after-done e = rw (eq-eqb (result L own r es) 0 e)

  pub after_same : (result L own r es ≡ 0 → ⊥) → after L own r es ≡ es
  unfolding after
  after_same e = rw (ne_eqb (result L own r es) 0 e)

-- what an addition with RESULT 0 has room for
pub record Allowed (L : Limits) (es : List Entry) (e : Entry) : Type 0 where
  pub odd : all_odd e.kmac ≡ true
  pub new : length es ≤ key_place e.issuer e.serial es
  pub keys_left : length es < L.keys
  pub peers_left : length (peers_of es) + length e.peers ≤ L.peers

pub add_allowed : (L : Limits) (own : ℕ) (es : List Entry) (recipient : ℕ) (e : Entry) → result L own (add recipient e) es ≡ 0 → Allowed L es e
unfolding result
add_allowed L own es recipient e z =
    let odd : Bool = all_odd e.kmac in
    let held : Bool = is_held e.issuer e.serial es in
    let full : Bool = leb L.keys (length es) in
    let over : Bool = ltb L.peers (length (peers_of es) + length e.peers) in
    let r1 = no-reason (not (eqb recipient own)) 4 (reason (not odd) 4 ∷ reason held 3 ∷ reason full 2 ∷ reason over 255 ∷ []) z in
    let r2 = no-reason (not odd) 3 (reason held 3 ∷ reason full 2 ∷ reason over 255 ∷ []) r1.1 in
    let r3 = no-reason held 2 (reason full 2 ∷ reason over 255 ∷ []) r2.1 in
    let r4 = no-reason full 1 (reason over 255 ∷ []) r3.1 in
    let r5 = no-reason over 254 [] r4.1 in
    record {
      odd = not-false odd r2.0;
      new = ltb-false (key_place e.issuer e.serial es) (length es) r3.0;
      keys_left = leb-false L.keys (length es) r4.0;
      peers_left = ltb-false L.peers (length (peers_of es) + length e.peers) r5.0;
    }

module _ (L : Limits) (own : ℕ) (es : List Entry) (w : WellFormed L es) where
  done-well_formed : (r : Request) → Readable r → result L own r es ≡ 0 → WellFormed L (done r es)
  unfolding done result Readable
  done-well_formed (add recipient e) f z =
      let a : Allowed L es e = add_allowed L own es recipient e z in
      added-well_formed L es e w f a.odd a.keys_left a.peers_left a.new
  done-well_formed (delete i s) f z = remove_at-well_formed L es (key_place i s es) w
  done-well_formed (validity i s a b) f z = valid_for-well_formed L es (key_place i s es) a b f.0 f.1 w
  done-well_formed (entities i s ps) f z =
      let over : Bool = ltb L.peers (peers_beside i s (length ps) es) in
      let r1 = no-reason (not (is_held i s es)) 0 (reason over 255 ∷ []) z in
      let r2 = no-reason over 254 [] r1.1 in
      with_peers-well_formed L es (key_place i s es) ps f (ltb-false L.peers (peers_beside i s (length ps) es) r2.0) w

  pub after-well_formed : (r : Request) → Readable r → WellFormed L (after L own r es)
  unfolding after
  after-well_formed r f = go (eqb (result L own r es) 0) refl
    where
      go : (b : Bool) → eqb (result L own r es) 0 ≡ b → WellFormed L (pick_entries b (done r es) es)
      go true e = done-well_formed r f (eqb-true (result L own r es) 0 e)
      go false e = w

pub work-well_formed : (L : Limits) (own : ℕ) (rs : List Request) (es : List Entry) → AllReadable rs → WellFormed L es → WellFormed L (work L own rs es).left
unfolding work AllReadable
work-well_formed L own [] es f w = w
work-well_formed L own (r ∷ rs) es f w = work-well_formed L own rs (after L own r es) f.1 (after-well_formed L own es w r f.0)

-- ---- of a sound store

module _ (L : Limits) (own : ℕ) (s : List ℕ) (b : Bytes s) (h : sound L s ≡ true) where
  pub work-sound : (rs : List Request) → AllReadable rs → sound L (encode L (work L own rs (entries L s)).left) ≡ true
  work-sound rs f = encode-sound L (work L own rs (entries L s)).left (sound_bounded L s h b) (work-well_formed L own rs (entries L s) f (sound-well_formed L s b h))
