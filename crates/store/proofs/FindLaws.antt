-- What find gives of a store of a known edition, in the terms of its entries (change request 7).
-- Assumes nothing.
use mathlib.Core.Path.{◌≡◌, refl, sym, ap, ◌∙◌}
use mathlib.Core.Bool.{Bool, true, false}
use mathlib.Core.List.{List}
use Prim.Native.Nat.{ℕ, suc, ◌+◌, ◌-◌, ◌≤◌, ◌<◌}
use native.Mathlib.Omega.{arith}
use lib.ListN.{length, get_or}
use lib.Dec.{ltb}
use borrow.Author.Tests.{ltb-true, ltb-false}
use Rattle.std.specs.Prelude.{Option, Some}
use Rattle.octets.specs.Words.{elem}
use Rattle.octets.proofs.BoolLaws.{clash, and_left, and_right}
use Rattle.store.specs.Layout.{edition_of}
use Rattle.store.specs.Store.{Entry, entries, key_count, sound}
use Rattle.store.specs.Search.{fits, serves, chosen, found, unfound, or_else, placed, find_in, find}
use Rattle.store.specs.WellFormed.{nobody}
use Rattle.store.specs.Claims.{Taken, IsFound, NoneServes, AllAmong, placeless}
use Rattle.store.specs.Search.{Choice}
use Rattle.store.specs.declared.Limits.{Limits}
use Rattle.store.proofs.DecodeLaws.{entries-length}
use Rattle.store.proofs.LatestLaws.{Takes, takes, outlasted}
use Rattle.store.proofs.SearchLaws.{FoundIn, found_in, find_placed, not_found, find_unsound, find_at, find_none}
use Rattle.store.proofs.WellFormedLaws.{entries_at}

module _ (L : Limits) (s : List ℕ) (peer t : ℕ) (known : edition_of (length s) ≡ Some L) where
  abbrev choice : Choice
  choice = chosen peer t (entries L s)

  abbrev size : ℕ
  size = length (entries L s)

  takes-here : Takes (serves peer t) (entries L s) choice
  takes-here = takes (serves peer t) (entries L s)

  in_edition : find s peer t ≡ find_in (Some L) s peer t
  unfolding find
  in_edition = ap (λ (E : Option Limits). find_in E s peer t) known

  pub in_sound : sound L s ≡ true → find s peer t ≡ placed choice size
  unfolding find_in
  in_sound h = in_edition ∙ rw h

  -- H12 is that of an unsound store
  pub twelve-unsound : find s peer t ≡ unfound 12 → sound L s ≡ false
  twelve-unsound q = go (sound L s) refl
    where
      not-placed : (b : Bool) → or_else b 11 (found (suc choice.place) choice.end) ≡ unfound 12 → ⊥
      not-placed true z = not_found 12 (suc choice.place) choice.end (sym z)
      not-placed false z = let y : ◌≡◌ {A = ℕ} 11 12 = cc in omega arith

      go : (b : Bool) → sound L s ≡ b → b ≡ false
      go true h = absurd (not-placed (ltb choice.place size) (sym (in_sound h) ∙ q))
      go false h = refl

  -- ---- a record is found

  pub found-taken : (p until : ℕ) → find s peer t ≡ found p until → Taken L s peer t p until
  found-taken p until q =
      let f : FoundIn L s peer t p until = found_in L s peer t p until (sym in_edition ∙ q) in
      let w : Takes (serves peer t) (entries L s) choice = takes-here in
      let at : choice.place ≡ p - 1 = omega (arith, f.place_is) in
      let e : Entry = get_or (entries L s) (p - 1) nobody in
      let serving : serves peer t e ≡ true = ap (λ (i : ℕ). serves peer t (get_or (entries L s) i nobody)) (sym at) ∙ w.holds f.inside in
      let counted : p - 1 < key_count s = omega (arith, f.place_is, f.inside, entries-length L s) in
      record {
        sound_store = f.is_sound_lem;
        from_one = omega (arith, f.place_is);
        inside = omega (arith, f.place_is, f.inside);
        has_peer = and_left (elem peer e.peers) (fits e.start e.end t) serving;
        it_fits = and_right (elem peer e.peers) (fits e.start e.end t) serving;
        its_end = ap (λ (i : ℕ). (get_or (entries L s) i nobody).end) (sym at) ∙ w.its_end f.inside ∙ f.end_is;
        none_later = λ j l k. omega (arith, w.none_later j l k, f.end_is);
        first = λ j l k. omega (arith, w.first j (omega (arith, f.place_is)) (omega (arith, f.place_is, f.inside)) k, f.end_is);
        its_kmac = (find_placed s peer t p until q).key_is ∙ sym (ap (λ (x : Entry). x.kmac) (entries_at L s (p - 1) counted));
      }

  pub one_found : sound L s ≡ true → (j : ℕ) → j < size → serves peer t (get_or (entries L s) j nobody) ≡ true → IsFound s peer t
  one_found h j l k =
      let i : choice.place < key_count s = omega (arith, takes-here.one_taken j l k, entries-length L s) in
      record { place = choice.place + 1; end = choice.end; given = in_edition ∙ find_at L s peer t h choice refl i }

  -- ---- none is found

  pub none-there : find s peer t ≡ unfound 11 → (sound L s ≡ true) × NoneServes (entries L s) peer t
  none-there e = soundly (sound L s) refl
    where
      one-there : sound L s ≡ true → (b : Bool) → ltb choice.place size ≡ b → (x : Bool) → (j : ℕ) → j < size → serves peer t (get_or (entries L s) j nobody) ≡ x → x ≡ false
      one-there h true l x j k q =
          let i : choice.place < key_count s = omega (arith, ltb-true choice.place size l, entries-length L s) in
          not_found 11 (choice.place + 1) choice.end (sym e ∙ in_edition ∙ find_at L s peer t h choice refl i)
      one-there h false l true j k q = absurd (omega (arith, ltb-false choice.place size l, takes-here.one_taken j k q))
      one-there h false l false j k q = refl

      soundly : (b : Bool) → sound L s ≡ b → (sound L s ≡ true) × NoneServes (entries L s) peer t
      soundly true h =
          (h, λ j k. one-there h (ltb choice.place size) refl (serves peer t (get_or (entries L s) j nobody)) j k refl)
      soundly false h = let z : unfound 11 ≡ unfound 12 = sym e ∙ in_edition ∙ find_unsound L s peer t h in let y : ◌≡◌ {A = ℕ} 11 12 = cc in absurd (omega arith)

  pub none_found : sound L s ≡ true → NoneServes (entries L s) peer t → find s peer t ≡ unfound 11
  none_found h f = in_edition ∙ find_none L s peer t h choice refl (go (ltb choice.place size) refl)
    where
      go : (b : Bool) → ltb choice.place size ≡ b → key_count s ≤ choice.place
      go true l =
          let k : choice.place < size = ltb-true choice.place size l in
          clash (serves peer t (get_or (entries L s) choice.place nobody)) (takes-here.holds k) (f choice.place k)
      go false l = omega (arith, ltb-false choice.place size l, entries-length L s)

-- ---- the same entries in another order

module _ (peer t : ℕ) (es fs : List Entry) (there : AllAmong es fs) (back : AllAmong fs es) where
  abbrev c : Choice
  c = chosen peer t es

  abbrev d : Choice
  d = chosen peer t fs

  -- where one is taken of the ones, one with the same end is taken of the others
  pub same_taken : placeless (placed c (length es)) ≡ placeless (placed d (length fs))
  same_taken = go (ltb c.place (length es)) (ltb d.place (length fs)) refl refl
    where
      outlasts : ltb c.place (length es) ≡ true → (d.place < length fs) × (c.end ≤ d.end)
      outlasts k = outlasted (serves peer t) es fs there (ltb-true c.place (length es) k)

      lasts : ltb d.place (length fs) ≡ true → (c.place < length es) × (d.end ≤ c.end)
      lasts k = outlasted (serves peer t) fs es back (ltb-true d.place (length fs) k)

      go : (a b : Bool) → ltb c.place (length es) ≡ a → ltb d.place (length fs) ≡ b
          → placeless (or_else a 11 (found (suc c.place) c.end)) ≡ placeless (or_else b 11 (found (suc d.place) d.end))
      go true true k l = ap (found 0) (omega (arith, (outlasts k).1, (lasts l).1))
      go true false k l = absurd (omega (arith, (outlasts k).0, ltb-false d.place (length fs) l))
      go false true k l = absurd (omega (arith, (lasts l).0, ltb-false c.place (length es) k))
      go false false k l = refl
