-- The claims of specs/Claims.antt.
-- Assumes nothing.
use mathlib.Core.Path.{◌≡◌, refl, sym, ap, subst, ◌∙◌}
use mathlib.Core.Bool.{Bool, true, false}
use Rattle.std.specs.Prelude.{Option, Some, None}
use mathlib.Core.List.{List, [], ◌∷◌}
use mathlib.Core.Logic.{◌⊎◌, inl, inr, ⊎_elim}
use Prim.Native.Nat.{ℕ, zero, suc, ◌<◌}
use native.Mathlib.Omega.{arith}
use lib.Dec.{ltb, eqb}
use lib.ListN.{length, take}
use borrow.Author.Tests.{eq-eqb, ne_eqb, ltb-false, ltb-true}
use Rattle.octets.proofs.BoolLaws.{between-true, is-between, under, over}
use Rattle.refusal.specs.House.{house}
use Rattle.refusal.proofs.Laws.{not-both}
use Rattle.store.specs.declared.Limits.{Limits}
use Rattle.store.specs.Layout.{edition1, edition2, edition_of}
use Rattle.store.specs.Store.{encode, entries, sound}
use Rattle.store.specs.Search.{fits, unfound, find_in, find, empty_in, emptied}
use Rattle.store.specs.Request.{Request, work}
use Rattle.store.specs.WellFormed.{AllReadable}
use Rattle.store.specs.Claims.{OneStore, HeaderSays, AcceptedSaysEdition, RequestsKeepSound, BothEndsFit, ReversedNeverFits, OneMomentFits, EndlessFits, placeless, LatestTaken, WholeKey, UnsoundExactly, NoKeyExactly, OrderKeepsEnd, RefusedEmptyWritesNothing, OneAnswer}
use Rattle.store.proofs.SoundLaws.{Sound, sound_says}
use Rattle.store.proofs.SearchLaws.{Placed, kmac_long, known-edition, find_placed, find_unsound}
use Rattle.store.proofs.FindLaws.{in_sound, twelve-unsound, found-taken, one_found, none-there, none_found, same_taken}
use Rattle.store.proofs.DecodeLaws.{encode-entries}
use Rattle.store.proofs.WellFormedLaws.{none-well_formed, sound-well_formed}
use Rattle.store.proofs.EncodeLaws.{entries-encode, encode-sound, one_list}
use Rattle.store.proofs.RequestLaws.{work-sound}
use Rattle.store.proofs.AnswerLaws.{found-one, emptied-one}

pub one_store : OneStore
one_store =
    record {
      sound_well_formed = sound-well_formed;
      sound_encodes = encode-entries;
      encodes_sound = λ L es b w. encode-sound L es b w;
      encodes_back = λ L es b w. entries-encode L es b w;
      one_list = one_list;
      one_store = λ L s t b c h k e. encode-entries L s b h ∙ ap (encode L) e ∙ sym (encode-entries L t c k);
    }

header-says : (L : Limits) (s : List ℕ) → sound L s ≡ true → HeaderSays L s
header-says L s h = let w : Sound L s = sound_says L s h in (w.edition_is, w.total_is, w.size)

found-sound : (L : Limits) (s : List ℕ) (peer t : ℕ) → (find_in (Some L) s peer t ≡ unfound 12 → ⊥) → HeaderSays L s
found-sound L s peer t f = go (sound L s) refl
  where
    go : (b : Bool) → sound L s ≡ b → HeaderSays L s
    go true h = header-says L s h
    go false h = absurd (f (find_unsound L s peer t h))

found-edition : (E : Option Limits) (s : List ℕ) (peer t : ℕ) → ((L : Limits) → E ≡ Some L → (edition1 ≡ L) ⊎ (edition2 ≡ L)) → (find_in E s peer t ≡ unfound 1 → ⊥)
    → (find_in E s peer t ≡ unfound 12 → ⊥) → HeaderSays edition1 s ⊎ HeaderSays edition2 s
unfolding find_in
found-edition None s peer t k f g = absurd (f refl)
found-edition (Some L) s peer t k f g =
    let h : HeaderSays L s = found-sound L s peer t g in
    ⊎_elim (λ e. inl (subst (λ (M : Limits). HeaderSays M s) (sym e) h)) (λ e. inr (subst (λ (M : Limits). HeaderSays M s) (sym e) h)) (k L refl)

pub accepted-says-edition : AcceptedSaysEdition
unfolding find
accepted-says-edition = record { of_sound = header-says; of_find = λ s peer t f g. found-edition _ s peer t (known-edition _) f g }

first-readable : (n : ℕ) (rs : List Request) → AllReadable rs → AllReadable (take n rs)
unfolding AllReadable
first-readable zero rs f = tt
first-readable (suc n) [] f = tt
first-readable (suc n) (r ∷ rs) f = (f.0, first-readable n rs f.1)

pub requests-keep-sound : RequestsKeepSound
unfolding work AllReadable
requests-keep-sound =
    record {
      in_edition_1 = λ own s b h rs f. work-sound edition1 own s b h rs f;
      in_edition_2 = λ own s b h rs f. work-sound edition2 own s b h rs f;
      in_any = λ L own s b h rs f. work-sound L own s b h rs f;
      each = λ L own s b h r f. work-sound L own s b h (r ∷ []) (f, tt);
      throughout = λ L own s b h rs f n. work-sound L own s b h (take n rs) (first-readable n rs f);
      delete_all = λ L b. encode-sound L [] b (none-well_formed L);
    }

pub both-ends-fit : BothEndsFit
both-ends-fit = record { fits_then = is-between; only_then = between-true }

pub reversed-never-fits : ReversedNeverFits
reversed-never-fits = record { never = λ start end t h. go start end t h (ltb t start) refl }
  where
    go : (start end t : ℕ) → end < start → (b : Bool) → ltb t start ≡ b → fits start end t ≡ false
    go start end t h true p = under start end t (ltb-true t start p)
    go start end t h false p = over start end t (omega (arith, h, ltb-false t start p))

pub one_moment_fits : OneMomentFits
one_moment_fits = record { once = λ moment t. go moment t (ltb t moment) (ltb moment t) refl refl }
  where
    go : (m t : ℕ) (b c : Bool) → ltb t m ≡ b → ltb m t ≡ c → fits m m t ≡ eqb t m
    go m t true c p q = let h = ltb-true t m p in under m m t h ∙ sym (ne_eqb t m (λ e. omega (arith, h)))
    go m t false true p q = let h = ltb-true m t q in over m m t h ∙ sym (ne_eqb t m (λ e. omega (arith, h)))
    go m t false false p q =
        let g = ltb-false t m p in
        let h = ltb-false m t q in
        is-between m m t g h ∙ sym (eq-eqb t m (omega (arith, g, h)))

pub endless_fits : EndlessFits
endless_fits = record { always = λ start t h k. is-between start 0xffffffff t h k }

pub latest-taken : LatestTaken
latest-taken = record { taken = found-taken; one_found = one_found }

pub whole-key : WholeKey
whole-key =
    record {
      inside = λ s peer t place end e. (find_placed s peer t place end e).has_record;
      there = λ s peer t place end e. (find_placed s peer t place end e).key_is;
      long = λ s peer t place end e.
          let p : Placed s peer t place = find_placed s peer t place end e in
          ap length p.key_is ∙ kmac_long s place p.has_record;
    }

twelve-edition : (E : Option Limits) (s : List ℕ) (peer t : ℕ) → edition_of (length s) ≡ E → find s peer t ≡ unfound 12 → (L : Limits) × (E ≡ Some L) × (sound L s ≡ false)
unfolding find find_in
twelve-edition None s peer t d q =
    let z : unfound 1 ≡ unfound 12 = ap (λ (E : Option Limits). find_in E s peer t) (sym d) ∙ q in
    let y : ◌≡◌ {A = ℕ} 1 12 = cc in
    absurd (omega arith)
twelve-edition (Some L) s peer t d q = (L, refl, twelve-unsound L s peer t d q)

pub unsound-exactly : UnsoundExactly
unfolding find
unsound-exactly =
    record {
      only = λ s peer t q. twelve-edition (edition_of (length s)) s peer t refl q;
      unsound = λ L s peer t d h. ap (λ (E : Option Limits). find_in E s peer t) d ∙ find_unsound L s peer t h;
    }

pub no-key-exactly : NoKeyExactly
no-key-exactly = record { none_serves = none-there; no_key = none_found }

pub order_keeps_end : OrderKeepsEnd
order_keeps_end =
    record {
      same_end = λ L M s r peer t k l h g there back.
          ap placeless (in_sound L s peer t k h)
          ∙ same_taken peer t (entries L s) (entries M r) there back
          ∙ sym (ap placeless (in_sound M r peer t l g));
    }

pub refused_empty_writes_nothing : RefusedEmptyWritesNothing
unfolding empty_in emptied
refused_empty_writes_nothing = record { kept = λ s n e. kept s n (edition_of (length s)) e }
  where
    kept : (s : List ℕ) (n : ℕ) (d : Option Limits) → empty_in d ≡ house n → emptied d s ≡ s
    kept s n None e = refl
    kept s n (Some L) e = not-both n 0 (sym e)

pub one_answer : OneAnswer
one_answer = record { of_find = found-one; of_empty = emptied-one }
