-- The claims of specs/Claims.antt.
-- Assumes nothing.
use mathlib.Core.Path.{◌≡◌, refl, sym, ap, subst}
use mathlib.Core.Bool.{Bool, true, false, cond}
use mathlib.Core.List.{List, [], ◌∷◌, ◌++◌, map}
use Rattle.std.proofs.Common.{Option, Some, None}
use Rattle.store.specs.declared.Limits.{Limits}
use Prim.Native.Nat.{ℕ, suc}
use native.Mathlib.Omega.{arith}
use lib.ListN.{length}
use lib.Dec.{ltb}
use borrow.Author.Tests.{ltb-true, ltb-false, le-leb, leb-false}
use Rattle.octets.proofs.BoolLaws.{between-true, is-between, over}
use Rattle.store.specs.Layout.{edition_of}
use Rattle.store.specs.Store.{Entry, peers_of, entries, sound, all_hold}
use Rattle.store.specs.Search.{fits}
use Rattle.depot.specs.declared.Class.{Class}
use Rattle.depot.specs.declared.Class.TheVariants.{Fit, Ended, Early, Reversed}
use Rattle.depot.specs.declared.Tally.{Tally}
use Rattle.depot.specs.Claims.{Means, ClassesMean, AddsUp, ClassesAddUp, CountsExactly, bare, CountsShowNoKey, Within, SumsExactly}
use Rattle.depot.specs.Counts.{class_of, class_in, one_more, classes_of, tally_of, counts_in, counts_of, rooms, sums, sum_of}
use Rattle.depot.proofs.CountLaws.{all-counted, class_reversed, class_early, class_fit, class_ended, rooms_say, given, refused}

-- ---- classes

means : (a b t : ℕ) → Means (class_of a b t) a b t
means a b t = go (ltb b a) refl (ltb t a) refl (fits a b t) refl
  where
    go : (x : Bool) → ltb b a ≡ x → (y : Bool) → ltb t a ≡ y → (z : Bool) → fits a b t ≡ z → Means (cond x Reversed (cond y Early (cond z Fit Ended))) a b t
    go true p y q z r = ltb-true b a p
    go false p true q z r = (ltb-false b a p, ltb-true t a q)
    go false p false q true r = between-true a b t r
    go false p false q false r = (ltb-false b a p, leb-false t b (rw (le-leb a t (ltb-false t a q)) at r))

exactly : (k : Class) (a b t : ℕ) → Means k a b t → class_of a b t ≡ k
exactly Fit a b t m = sym (class_fit a b t (omega arith) m.0 (is-between a b t m.0 m.1))
exactly Ended a b t m = sym (class_ended a b t m.0 (omega arith) (over a b t m.1))
exactly Early a b t m = sym (class_early a b t m.0 m.1)
exactly Reversed a b t m = sym (class_reversed a b t m)

fit-searched : (a b t : ℕ) → class_of a b t ≡ Fit → fits a b t ≡ true
fit-searched a b t e = let m : Means Fit a b t = subst (λ (k : Class). Means k a b t) e (means a b t) in is-between a b t m.0 m.1

pub classes_mean : ClassesMean
classes_mean =
    record { means = means; exactly = exactly; searched = λ a b t e. exactly Fit a b t (between-true a b t e); only_searched = fit-searched }

entries-add-up : (t : ℕ) (es : List Entry) → AddsUp (tally_of t es)
unfolding tally_of
entries-add-up t es = all-counted t es

counts-add-up : (d : Option Limits) (s : List ℕ) (t : ℕ) (c : Tally) → counts_in d s t ≡ Some c → AddsUp c
unfolding counts_in
counts-add-up None s t c e = let z : ◌≡◌ {A = ℕ} 0 1 = cc in absurd (omega arith)
counts-add-up (Some L) s t c e = go (sound L s) e
  where
    go : (b : Bool) → cond b (Some (tally_of t (entries L s))) None ≡ Some c → AddsUp c
    go true q = let k : tally_of t (entries L s) ≡ c = cc in subst AddsUp k (entries-add-up t (entries L s))
    go false q = let z : ◌≡◌ {A = ℕ} 0 1 = cc in absurd (omega arith)

pub classes-add-up : ClassesAddUp
unfolding counts_of
classes-add-up = record { of_entries = entries-add-up; of_store = λ s. counts-add-up (edition_of (length s)) s }

pub counts-exactly : CountsExactly
unfolding counts_of counts_in
counts-exactly = record { given = λ L s t e h. rw (e, h); unsound = λ L s t e h. rw (e, h); no_edition = λ s t e. rw e }

-- ---- no key

bare-length : (es : List Entry) → length es ≡ length (map bare es)
bare-length [] = refl
bare-length (e ∷ es) = ap suc (bare-length es)

bare-peers : (es : List Entry) → peers_of es ≡ peers_of (map bare es)
unfolding peers_of
bare-peers [] = refl
bare-peers (e ∷ es) = ap (λ (x : List ℕ). e.peers ++ x) (bare-peers es)

bare-classes : (t : ℕ) (es : List Entry) → classes_of t es ≡ classes_of t (map bare es)
unfolding classes_of
bare-classes t [] = refl
bare-classes t (e ∷ es) = ap (one_more (class_in t e)) (bare-classes t es)

bare-same : (t : ℕ) (es : List Entry) → tally_of t es ≡ tally_of t (map bare es)
unfolding tally_of
bare-same t es = rw (bare-length es, bare-peers es, bare-classes t es)

pub counts_show_no_key : CountsShowNoKey
counts_show_no_key = record { same = bare-same }

-- ---- sums

module _ (a b : Tally) where
  only : (c : Tally) → sum_of a b ≡ Some c → Within a b × (c ≡ sums a b)
  unfolding sum_of
  only c = go (all_hold (rooms a b)) refl
    where
      go : (r : Bool) → all_hold (rooms a b) ≡ r → cond r (Some (sums a b)) None ≡ Some c → Within a b × (c ≡ sums a b)
      go true e q = (rooms_say a b e, cc)
      go false e q = let z : ◌≡◌ {A = ℕ} 0 1 = cc in absurd (omega arith)

pub sums-exactly : SumsExactly
sums-exactly = record { given = given; refused = refused; only = only }
