-- The RESULT of each request, by what the code finds in the store, and a request worked or refused.
-- Assumes nothing.
use Rattle.octets.specs.Bytes.{Bytes}
use mathlib.Core.Path.{◌≡◌, sym, ap, ◌∙◌}
use mathlib.Core.Bool.{true, false}
use mathlib.Core.List.{List, [], ◌∷◌, ◌++◌}
use Prim.Native.Nat.{ℕ, ◌+◌, ◌-◌, ◌≤◌, ◌<◌}
use native.Mathlib.Omega.{arith}
use Rattle.std.proofs.lemmas.Grind.{common_steps}
use lib.ListN.{length, length-append}
use borrow.Author.Tests.{lt-ltb}
use Rattle.store.specs.Store.{Entry, peers_of, encode, entries, key_count, peer_count, all_odd, sound}
use Rattle.store.specs.Request.{Request, add, delete, validity, entities, first_reason, is_held, key_place, peers_beside, remove_at, update_at, valid_for, with_peers, result, done}
use Rattle.store.specs.declared.Limits.{Limits}
use Rattle.store.proofs.EncodingLaws.{peers_of-append}
use Rattle.store.proofs.SoundLaws.{sound_says}
use Rattle.store.proofs.DecodeLaws.{entries-length, peers-length, encode-entries}
use Rattle.store.proofs.RequestLaws.{after-done, after_same, Allowed, add_allowed}
use Rattle.std.specs.Prelude.{Option, Some, None, MatchOption, IfSome, Result, Ok, Err}
use Rattle.std.specs.Option.{ok_or, is_some}
use Rattle.std.specs.Result.{IsErrAnd}
use Rattle.requests.specs.declared.Failure.{Failure}
use Rattle.requests.specs.declared.Failure.TheVariants.{NotHeld}
use Rattle.requests.specs.Worked.{Worked, failure_number, result_number}
use Rattle.requests.proofs.AroundLaws.{Parts, Around, remove_at-middle}

-- ---- worked, or refused

module _ (L : Limits) (own : ℕ) (q : Request) (s : List ℕ) where
  pub worked : (t : List ℕ) → result L own q (entries L s) ≡ 0 → t ≡ encode L (done q (entries L s)) → Worked L own q s t 0
  worked t z e = record { result_is = sym z; store_is = e ∙ ap (encode L) (sym (after-done L own (entries L s) q z)) }

  pub refused : (r : ℕ) → Bytes s → sound L s ≡ true → r ≡ result L own q (entries L s) → (r ≡ 0 → ⊥) → Worked L own q s s r
  refused r b h e z =
      record {
        result_is = e;
        store_is = encode-entries L s b h ∙ ap (encode L) (sym (after_same L own (entries L s) q (λ x. z (e ∙ x))));
      }

-- ---- a request for a key that is not held, and for the one at place i

module _ (L : Limits) (s : List ℕ) (a b own : ℕ) where
  module _ (y : Bytes s) (t : sound L s ≡ true) (absent : is_held a b (entries L s) ≡ false) where
    pub delete-refused : Worked L own (delete a b) s s 1
    unfolding result first_reason
    delete-refused = refused L own (delete a b) s 1 y t (grind (arith, common_steps)) (λ z. omega (arith, z))

    pub validity-refused : (u v : ℕ) → Worked L own (validity a b u v) s s 1
    unfolding result first_reason
    validity-refused u v = refused L own (validity a b u v) s 1 y t (grind (arith, common_steps)) (λ z. omega (arith, z))

    pub entities-refused : (xs : List ℕ) → Worked L own (entities a b xs) s s 1
    unfolding result first_reason
    entities-refused xs = refused L own (entities a b xs) s 1 y t (grind (arith, common_steps)) (λ z. omega (arith, z))

  module _ (i : ℕ) (ei : i ≡ key_place a b (entries L s)) (h : i < key_count s) where
    is-held : is_held a b (entries L s) ≡ true
    is-held = lt-ltb (key_place a b (entries L s)) (length (entries L s)) (omega (arith, entries-length L s))

    pub delete-worked : (t : List ℕ) → t ≡ encode L (remove_at i (entries L s)) → Worked L own (delete a b) s t 0
    unfolding result first_reason done
    delete-worked t e = let held = is-held in worked L own (delete a b) s t (grind (arith, common_steps)) (rw (← ei) e)

    pub validity-worked : (u v : ℕ) (t : List ℕ) → t ≡ encode L (update_at i (valid_for u v) (entries L s)) → Worked L own (validity a b u v) s t 0
    unfolding result first_reason done
    validity-worked u v t e = let held = is-held in worked L own (validity a b u v) s t (grind (arith, common_steps)) (rw (← ei) e)

    -- the peers of the others are those that are not the record's own
    module _ (n m f k : ℕ) (o : Around L s i n m f k) (xs : List ℕ) (c : ℕ) (ec : c ≡ length xs) where
      beside : peers_beside a b (length xs) (entries L s) ≡ m - k + c
      beside =
          let p : Parts L o.pre o.e o.post i n m f k = o.parts in
          let peers : m ≡ f + (k + length (peers_of o.post)) = p.peers in
          let first : f ≡ length (peers_of o.pre) = p.first_is in
          ap (λ (x : ℕ). length (peers_of (remove_at x (entries L s))) + length xs) (sym ei)
          ∙ ap (λ (x : List Entry). length (peers_of x) + length xs) (ap (remove_at i) o.cut ∙ remove_at-middle o.pre o.e o.post i p.place)
          ∙ ap (λ (x : List ℕ). length x + length xs) (peers_of-append o.pre o.post)
          ∙ omega (arith, length-append (peers_of o.pre) (peers_of o.post))

      pub entities-over : Bytes s → sound L s ≡ true → L.peers < m - k + c → Worked L own (entities a b xs) s s 255
      unfolding result first_reason
      entities-over y t l =
          let held = is-held in
          let peers = beside in
          refused L own (entities a b xs) s 255 y t (grind (arith, common_steps)) (λ z. omega (arith, z))

      pub entities-worked : (t : List ℕ) → m - k + c ≤ L.peers → t ≡ encode L (update_at i (with_peers xs) (entries L s)) → Worked L own (entities a b xs) s t 0
      unfolding result first_reason done
      entities-worked t l e =
          let held = is-held in
          let peers = beside in
          worked L own (entities a b xs) s t (grind (arith, common_steps)) (rw (← ei) e)

-- whether it is held is whether the search finds it
pub found-held : (L : Limits) (s : List ℕ) (a b : ℕ) (r : Option ℕ) → IfSome r (λ (i : ℕ). i < key_count s)
    → MatchOption r (is_held a b (entries L s) ≡ false) (λ (i : ℕ). i ≡ key_place a b (entries L s)) → is_held a b (entries L s) ≡ is_some r
found-held L s a b None h w = w
found-held L s a b (Some i) h w = is-held L s a b 0 i w h

-- ---- an addition, reason by reason

module _ (L : Limits) (own : ℕ) (s : List ℕ) (recipient : ℕ) (e : Entry) where
  pub add_not_ours : (recipient ≡ own → ⊥) → 5 ≡ result L own (add recipient e) (entries L s)
  unfolding result first_reason
  add_not_ours h = grind (arith, common_steps)

  module _ (ours : recipient ≡ own) where
    pub add_corrupted : all_odd e.kmac ≡ false → 4 ≡ result L own (add recipient e) (entries L s)
    unfolding result first_reason
    add_corrupted h = grind (arith, common_steps)

    module _ (odd : all_odd e.kmac ≡ true) where
      pub add-held : is_held e.issuer e.serial (entries L s) ≡ true → 3 ≡ result L own (add recipient e) (entries L s)
      unfolding result first_reason
      add-held h = grind (arith, common_steps)

      module _ (new : is_held e.issuer e.serial (entries L s) ≡ false) (n : ℕ) (en : n ≡ key_count s) where
        pub add-full : L.keys ≤ n → 2 ≡ result L own (add recipient e) (entries L s)
        unfolding result first_reason
        add-full h = let keys = entries-length L s in grind (arith, common_steps)

        module _ (room : n < L.keys) (t : sound L s ≡ true) (m k : ℕ) (em : m ≡ peer_count s) (ek : k ≡ length e.peers) where
          pub add-crowded : L.peers < m + k → 255 ≡ result L own (add recipient e) (entries L s)
          unfolding result first_reason
          add-crowded h = let keys = entries-length L s in let peers = peers-length L s (sound_says L s t) in grind (arith, common_steps)

          pub add_possible : m + k ≤ L.peers → 0 ≡ result L own (add recipient e) (entries L s)
          unfolding result first_reason
          add_possible h = let keys = entries-length L s in let peers = peers-length L s (sound_says L s t) in grind (arith, common_steps)

-- what an addition with RESULT 0 has room for, in the store's own counts
pub add-room : (L : Limits) (own : ℕ) (s : List ℕ) (recipient : ℕ) (e : Entry) (k : ℕ) → sound L s ≡ true → k ≡ length e.peers
    → result L own (add recipient e) (entries L s) ≡ 0 → (key_count s < L.keys) × (peer_count s + k ≤ L.peers)
add-room L own s recipient e k t ek z =
    let a : Allowed L (entries L s) e = add_allowed L own (entries L s) recipient e z in
    let keys : length (entries L s) < L.keys = a.keys_left in
    let peers : length (peers_of (entries L s)) + length e.peers ≤ L.peers = a.peers_left in
    (omega (arith, entries-length L s), omega (arith, peers-length L s (sound_says L s t)))

pub add-worked : (L : Limits) (own : ℕ) (s : List ℕ) (recipient : ℕ) (e : Entry) (t : List ℕ) → result L own (add recipient e) (entries L s) ≡ 0
    → t ≡ encode L (entries L s ++ (e ∷ [])) → Worked L own (add recipient e) s t 0
unfolding done
add-worked L own s recipient e t z h = worked L own (add recipient e) s t z h

-- ---- the answer where the search finds no key

pub not-held-number : (place : Option ℕ) (f : Failure) (r : Result Unit Failure) → place ≡ None → Err f ≡ ok_or place NotHeld → IsErrAnd r (λ (e : Failure). e ≡ f) → result_number r ≡ 1
not-held-number place f (Ok u) z e w = absurd w
not-held-number place f (Err y) z e w = let h : f ≡ NotHeld = cc (rw z at e) in ap failure_number (w ∙ h)

-- ---- a failure has a RESULT other than 0

pub is-failure : (f : Failure) → failure_number f ≡ 0 → ⊥
is-failure f e = grind (arith, common_steps)
