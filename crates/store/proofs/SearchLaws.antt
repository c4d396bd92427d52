-- Laws of the search for a record, and of what `find`, `key` and `empty` answer.
-- Assumes nothing.
use mathlib.Core.Path.{◌≡◌, refl, sym, ap, ◌∙◌, subst}
use mathlib.Core.Bool.{Bool, true, false, cond}
use mathlib.Core.List.{List, [], ◌∷◌}
use mathlib.Core.Logic.{◌⊎◌, inl, inr}
use Prim.Native.Nat.{ℕ, suc, ◌+◌, ◌*◌, ◌-◌, ◌≤◌, ◌<◌}
use native.Mathlib.Nat.{add-zero, zero-add, sub-zero}
use native.Mathlib.Numerals.{add-one}
use native.Mathlib.Omega.{arith}
use lib.ListN.{length}
use lib.Dec.{eqb, ltb}
use borrow.Author.Tests.{eqb-true, lt-ltb, le-ltb, ltb-true}
use Rattle.std.specs.Prelude.{Option, Some, None}
use Rattle.std.specs.Option.{ok_or}
use Rattle.refusal.specs.declared.Refusal.TheVariants.{NoKey}
use Rattle.octets.specs.Bytes.{Bytes}
use Rattle.octets.proofs.PartLaws.{part_length}
use Rattle.store.specs.Layout.{total, Bounded, edition1, edition2, editions, edition_in, edition_of}
use Rattle.store.specs.Store.{Entry, HasPlace, kmac_at, entries, entries_from, entry_at, key_count, first, count, peer_count, sum_before, sound}
use Rattle.store.specs.Search.{pick_number, place_where, chosen, Finding, found, unfound, or_else, placed, taken, found_as, find_in, find, key_of, key}
use Rattle.store.specs.Search.{Choice}
use Rattle.store.specs.declared.Limits.{Limits}
use Rattle.store.proofs.SoundLaws.{Sound, sound_says, sound_bounded}
use Rattle.store.proofs.DecodeLaws.{entries-length, sum_from, sum_before-add}

-- ---- editions

unfoldable AllBounded : List Limits → Type 0
AllBounded [] = Unit {0}
AllBounded (L ∷ Ls) = Bounded L × AllBounded Ls

edition_in-says : (Ls : List Limits) (n : ℕ) (L : Limits) → AllBounded Ls → edition_in Ls n ≡ Some L → Bounded L × (n ≡ total L)
unfolding AllBounded edition_in
edition_in-says [] n L a e = let z : ◌≡◌ {A = ℕ} 0 1 = cc in absurd (omega arith)
edition_in-says (M ∷ Ls) n L a e = go (edition_in-says Ls n L a.1) (eqb n (total M)) refl e
  where
    go : (edition_in Ls n ≡ Some L → Bounded L × (n ≡ total L)) → (b : Bool) → eqb n (total M) ≡ b → cond b (Some M) (edition_in Ls n) ≡ Some L
        → Bounded L × (n ≡ total L)
    go rest true p q = let m : M ≡ L = cc in (subst Bounded m a.0, eqb-true n (total M) p ∙ ap total m)
    go rest false p q = rest q

-- an edition that is known has numbers that fit, and this length
pub edition_says : (n : ℕ) (L : Limits) → edition_of n ≡ Some L → Bounded L × (n ≡ total L)
unfolding edition_of AllBounded
edition_says n L e = edition_in-says editions n L (record { edition_fits = omega arith; total_fits = omega arith }, (record { edition_fits = omega arith; total_fits = omega arith }, tt)) e

-- and is one of the two
pub known-edition : (n : ℕ) (L : Limits) → edition_of n ≡ Some L → (edition1 ≡ L) ⊎ (edition2 ≡ L)
unfolding edition_of edition_in
known-edition n L e = go (eqb n (total edition1)) (eqb n (total edition2)) e
  where
    go : (a b : Bool) → cond a (Some edition1) (cond b (Some edition2) None) ≡ Some L → (edition1 ≡ L) ⊎ (edition2 ≡ L)
    go true b q = inl cc
    go false true q = inr cc
    go false false q = let z : ◌≡◌ {A = ℕ} 0 1 = cc in absurd (omega arith)

-- ---- the lengths and counts of a sound store, and of its record i

pub record Framed (L : Limits) (s : List ℕ) : Type 0 where
  pub size : length s ≡ 12 + 44 * L.keys + 4 * L.peers
  pub total_fits : 12 + 44 * L.keys + 4 * L.peers < 65536
  pub keys_fit : key_count s ≤ L.keys
  pub peers_fit : peer_count s ≤ L.peers

pub frame : (L : Limits) (s : List ℕ) → Bytes s → sound L s ≡ true → Framed L s
frame L s b t =
    let w : Sound L s = sound_says L s t in
    record { size = w.size; total_fits = (sound_bounded L s t b).total_fits; keys_fit = w.keys_fit; peers_fit = w.peers_fit }

pub record Room (L : Limits) (s : List ℕ) (i : ℕ) : Type 0 where
  pub framed : Framed L s
  pub counted : i < key_count s
  pub inside : first s i + count s i ≤ peer_count s

pub room : (L : Limits) (s : List ℕ) (i : ℕ) → Bytes s → sound L s ≡ true → i < key_count s → Room L s i
unfolding sum_before
room L s i b t h =
    let w : Sound L s = sound_says L s t in
    let r : ℕ = key_count s - suc i in
    let n : suc i + r ≡ key_count s = omega arith in
    let sum : peer_count s ≡ first s i + count s i + sum_from s (suc i) r =
    sym w.sum ∙ ap (λ (x : ℕ). sum_before s x) (sym n) ∙ sum_before-add s r (suc i)
    ∙ ap (λ (x : ℕ). x + count s i + sum_from s (suc i) r) (sym (w.sums i h)) in
    record { framed = frame L s b t; counted = h; inside = omega arith }

-- ---- the first entry of which p holds: a turn of the loop that looks for it

module _ (p : Entry → Bool) (L : Limits) (s : List ℕ) (n i : ℕ) where
  place_open : i < n → place_where p (entries_from L s i (n - i)) ≡ pick_number (p (entry_at L s i)) 0 (suc (place_where p (entries_from L s (i + 1) (n - (i + 1)))))
  unfolding place_where entries_from
  place_open h =
      let e : n - i ≡ suc (n - (i + 1)) = omega arith in
      ap (λ (x : ℕ). place_where p (entries_from L s i x)) e
      ∙ ap (λ (x : ℕ). pick_number (p (entry_at L s i)) 0 (suc (place_where p (entries_from L s x (n - (i + 1)))))) (sym (add-one i))

  pub place_turn : i < n → p (entry_at L s i) ≡ false → i + place_where p (entries_from L s i (n - i)) ≡ i + 1 + place_where p (entries_from L s (i + 1) (n - (i + 1)))
  place_turn h f =
      let r : ℕ = place_where p (entries_from L s (i + 1) (n - (i + 1))) in
      ap (λ (x : ℕ). i + x) (place_open h ∙ ap (λ (x : Bool). pick_number x 0 (suc r)) f) ∙ omega arith

  pub place_here : i < n → p (entry_at L s i) ≡ true → i + place_where p (entries_from L s i (n - i)) ≡ i
  place_here h f =
      let r : ℕ = place_where p (entries_from L s (i + 1) (n - (i + 1))) in
      ap (λ (x : ℕ). i + x) (place_open h ∙ ap (λ (x : Bool). pick_number x 0 (suc r)) f) ∙ add-zero i

  pub place_end : n ≤ i → i + place_where p (entries_from L s i (n - i)) ≡ i
  unfolding place_where entries_from
  place_end h = let e : n - i ≡ 0 = omega arith in ap (λ (x : ℕ). i + place_where p (entries_from L s i x)) e ∙ add-zero i

pub place-start : (p : Entry → Bool) (L : Limits) (s : List ℕ) (n : ℕ) → n ≡ key_count s → place_where p (entries L s) ≡ 0 + place_where p (entries_from L s 0 (n - 0))
unfolding entries
place-start p L s n e =
    ap (λ (x : ℕ). place_where p (entries_from L s 0 x)) (sym e ∙ sym (sub-zero n)) ∙ sym (zero-add (place_where p (entries_from L s 0 (n - 0))))

-- ---- find

pub not_found : {A : Type 0} (m p e : ℕ) → unfound m ≡ found p e → A
not_found m p e q = let z : ◌≡◌ {A = ℕ} 0 1 = cc in absurd (omega arith)

module _ (L : Limits) (s : List ℕ) (peer t : ℕ) where
  pub find_unsound : sound L s ≡ false → find_in (Some L) s peer t ≡ unfound 12
  unfolding find_in
  find_unsound h = rw h

  pub find_sound : sound L s ≡ true → find_in (Some L) s peer t ≡ placed (chosen peer t (entries L s)) (length (entries L s))
  unfolding find_in
  find_sound h = rw h

  module _ (h : sound L s ≡ true) (c : Choice) (e : c ≡ chosen peer t (entries L s)) where
    opened : find_in (Some L) s peer t ≡ placed c (key_count s)
    unfolding find_in
    opened = rw h (ap (λ (x : Choice). placed x (length (entries L s))) (sym e) ∙ ap (placed c) (entries-length L s))

    pub find_at : c.place < key_count s → find_in (Some L) s peer t ≡ found (c.place + 1) c.end
    find_at l = opened ∙ ap (λ (x : Bool). or_else x 11 (found (suc c.place) c.end)) (lt-ltb c.place (key_count s) l) ∙ ap (λ (x : ℕ). found x c.end) (sym (add-one c.place))

    pub find_none : key_count s ≤ c.place → find_in (Some L) s peer t ≡ unfound 11
    find_none l = opened ∙ ap (λ (x : Bool). or_else x 11 (found (suc c.place) c.end)) (le-ltb c.place (key_count s) l)

pub taken_placed : (c : Choice) (n : ℕ) → found_as (ok_or (taken c n) NoKey) ≡ placed c n
taken_placed c n = go (ltb c.place n)
  where
    go : (b : Bool) → found_as (ok_or (cond b (Some (record { place = suc c.place; end = c.end })) None) NoKey) ≡ or_else b 11 (found (suc c.place) c.end)
    go true = refl
    go false = refl

-- what find gives of a store of a known edition is the choice among the entries of a sound store
pub record FoundIn (L : Limits) (s : List ℕ) (peer t p until : ℕ) : Type 0 where
  pub is_sound_lem : sound L s ≡ true
  pub place_is : suc (chosen peer t (entries L s)).place ≡ p
  pub end_is : (chosen peer t (entries L s)).end ≡ until
  pub inside : (chosen peer t (entries L s)).place < length (entries L s)

module _ (L : Limits) (s : List ℕ) (peer t p until : ℕ) where
  abbrev choice : Choice
  choice = chosen peer t (entries L s)

  at_place : (b : Bool) → sound L s ≡ true → ltb choice.place (length (entries L s)) ≡ b → or_else b 11 (found (suc choice.place) choice.end) ≡ found p until
      → FoundIn L s peer t p until
  at_place true h l q = record { is_sound_lem = h; place_is = cc; end_is = cc; inside = ltb-true choice.place (length (entries L s)) l }
  at_place false h l q = not_found 11 p until q

  pub found_in : find_in (Some L) s peer t ≡ found p until → FoundIn L s peer t p until
  unfolding find_in
  found_in = soundly (sound L s) refl
    where
      soundly : (b : Bool) → sound L s ≡ b → or_else b 12 (placed choice (length (entries L s))) ≡ found p until → FoundIn L s peer t p until
      soundly true h q = at_place (ltb choice.place (length (entries L s))) h refl q
      soundly false h q = not_found 12 p until q

-- the KMAC of a record that stands in the store is whole
pub kmac_long : (s : List ℕ) (p : ℕ) → HasPlace s p → length (kmac_at s (p - 1)) ≡ 24
kmac_long s p h = part_length s (12 + 44 * (p - 1) + 8) 24 (omega (arith, h.from_one, h.inside))

-- the place that find gives lies in the store, and the key stands there
pub record Placed (s : List ℕ) (peer t p : ℕ) : Type 0 where
  pub has_record : HasPlace s p
  pub key_is : key s peer t ≡ kmac_at s (p - 1)

module _ (s : List ℕ) (peer t p until : ℕ) where
  key-at : (i : ℕ) → suc i ≡ p → key_of (found p until) s ≡ kmac_at s (p - 1)
  key-at i e =
      let f : i ≡ p - 1 = omega arith in
      ap (λ (x : ℕ). key_of (found x until) s) (sym e) ∙ ap (kmac_at s) f

  placed_in : (E : Option Limits) → find s peer t ≡ found p until → find_in E s peer t ≡ found p until → Placed s peer t p
  unfolding find_in key
  placed_in None e q = not_found 1 p until q
  placed_in (Some L) e q =
      let f : FoundIn L s peer t p until = found_in L s peer t p until q in
      let w : Sound L s = sound_says L s f.is_sound_lem in
      let c : ℕ = (chosen peer t (entries L s)).place in
      let k : c < length (entries L s) = f.inside in
      let n : length (entries L s) ≡ key_count s = entries-length L s in
      let m : suc c ≡ p = f.place_is in
      let fit : key_count s ≤ L.keys = w.keys_fit in
      let size : length s ≡ 12 + 44 * L.keys + 4 * L.peers = w.size in
      record { has_record = record { from_one = omega arith; inside = omega arith }; key_is = ap (λ (x : Finding). key_of x s) e ∙ key-at c m }

  pub find_placed : find s peer t ≡ found p until → Placed s peer t p
  unfolding find
  find_placed e = placed_in _ e e

pub key_none : (s : List ℕ) (peer t n : ℕ) → find s peer t ≡ unfound n → key s peer t ≡ []
unfolding key
key_none s peer t n e = ap (λ (x : Finding). key_of x s) e
