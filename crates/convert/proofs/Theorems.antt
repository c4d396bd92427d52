-- The claims of specs/Claims.antt.
-- Assumes nothing.
use mathlib.Core.Path.{◌≡◌, refl, sym, ap, ◌∙◌}
use mathlib.Core.Bool.{true, false}
use mathlib.Core.List.{List}
use mathlib.Core.Logic.{◌⊎◌, inl, inr}
use Prim.Native.Nat.{ℕ, ◌≤◌}
use native.Mathlib.Omega.{arith}
use lib.ListN.{length}
use Rattle.std.specs.Prelude.{Some}
use Rattle.refusal.specs.House.{Answer, house, gives, unless_refused}
use Rattle.refusal.proofs.Laws.{answer-one, not-both}
use Rattle.store.specs.Layout.{total, Bounded, edition1, edition2, edition_of, edition_in}
use Rattle.store.specs.Store.{encode, entries, sound, peers_of}
use Rattle.store.specs.declared.Limits.{Limits}
use Rattle.store.proofs.SoundLaws.{Sound, sound_says}
use Rattle.store.proofs.DecodeLaws.{entries-length, peers-length}
use Rattle.store.proofs.SearchLaws.{edition_says}
use Rattle.convert.specs.Convert.{answered, converted}
use Rattle.convert.specs.Claims.{SameEntries, ThereAndBack, ForwardAlways, TargetNotJudged, RefusedWritesNothing, LengthExactly, UnsoundExactly, TooMany, NoRoomExactly, SameSearch, OneAnswer}
use Rattle.convert.proofs.ConvertLaws.{room-holds}
use Rattle.convert.proofs.DoneLaws.{is-done, same_answer, same_target, made_sound, same, returns, same-found}
use Rattle.convert.proofs.RefusedLaws.{of_source, of_target, is-unsound, other_header, is-full, Why, source_length, target-length, unsound, full, why, too_many, room-none}

known1 : edition_of (total edition1) ≡ Some edition1
unfolding edition_of edition_in
known1 = refl

known2 : edition_of (total edition2) ≡ Some edition2
unfolding edition_of edition_in
known2 = refl

bounded1 : Bounded edition1
bounded1 = (edition_says (total edition1) edition1 known1).0

bounded2 : Bounded edition2
bounded2 = (edition_says (total edition2) edition2 known2).0

-- ---- done

pub same_entries : SameEntries
same_entries = record { made_sound = made_sound; same = same }

forward : (from to : List ℕ) → sound edition1 from ≡ true → length to ≡ total edition2 → answered edition1 edition2 from to ≡ gives 0
forward from to s l =
    let w : Sound edition1 from = sound_says edition1 from s in
    let n : length (entries edition1 from) ≤ 500 = omega (arith, w.keys_fit, entries-length edition1 from) in
    let m : length (peers_of (entries edition1 from)) ≤ 4000 = omega (arith, w.peers_fit, peers-length edition1 from w) in
    is-done edition1 edition2 from to w.size l s (room-holds edition2 (entries edition1 from) n m)

pub forward-always : ForwardAlways
forward-always = record { done = forward }

pub there_and_back : ThereAndBack
there_and_back =
    record {
      from_edition1 = λ from to back b s l k. returns edition1 edition2 from to bounded2 b (forward from to s l) back k;
      from_edition2 = λ from to back b e k. returns edition2 edition1 from to bounded1 b e back k;
    }

pub same-search : SameSearch
same-search =
    record {
      to_edition2 = λ from to b e. same-found edition1 edition2 from to bounded2 b e known1 known2;
      to_edition1 = λ from to b e. same-found edition2 edition1 from to bounded1 b e known2 known1;
    }

pub target-not-judged : TargetNotJudged
target-not-judged = record { same_answer = same_answer; same_target = same_target }

-- ---- refused

pub refused_writes_nothing : RefusedWritesNothing
unfolding converted
refused_writes_nothing = record { kept = λ F T from to n e. ap (λ (x : Answer). unless_refused x (encode T (entries F from)) to) e }

pub length-exactly : LengthExactly
length-exactly = record { of_source = of_source; of_target = of_target; only = λ F T from to e. only F T from to (why F T from to 1 e) }
  where
    only : (F T : Limits) (from to : List ℕ) → Why F T from to 1 → (length from ≡ total F → ⊥) ⊎ (length to ≡ total T → ⊥)
    only F T from to (source_length a n) = inl a
    only F T from to (target-length b n) = inr b
    only F T from to (unsound l c n) = absurd (omega arith)
    only F T from to (full l c d n) = absurd (omega arith)

pub unsound-exactly : UnsoundExactly
unsound-exactly = record { refused = is-unsound; only = λ F T from to e. only F T from to (why F T from to 12 e); other_header = other_header }
  where
    only : (F T : Limits) (from to : List ℕ) → Why F T from to 12 → (length from ≡ total F) × (length to ≡ total T) × (sound F from ≡ false)
    only F T from to (source_length a n) = absurd (omega arith)
    only F T from to (target-length b n) = absurd (omega arith)
    only F T from to (unsound l c n) = (l.0, l.1, c)
    only F T from to (full l c d n) = absurd (omega arith)

pub no-room-exactly : NoRoomExactly
no-room-exactly =
    record {
      refused = λ from to l s m. is-full edition2 edition1 from to (sound_says edition2 from s).size l s (room-none (entries edition2 from) m);
      only = λ from to e. only from to (why edition2 edition1 from to 14 e);
      done = λ from to l s n m. is-done edition2 edition1 from to (sound_says edition2 from s).size l s (room-holds edition1 (entries edition2 from) n m);
      never_forward = λ from to e. forwards from to e (why edition1 edition2 from to 14 e);
    }
  where
    only : (from to : List ℕ) → Why edition2 edition1 from to 14 → (length to ≡ total edition1) × (sound edition2 from ≡ true) × TooMany (entries edition2 from)
    only from to (source_length a n) = absurd (omega arith)
    only from to (target-length b n) = absurd (omega arith)
    only from to (unsound l c n) = absurd (omega arith)
    only from to (full l c d n) = (l.1, c, too_many (entries edition2 from) d)

    forwards : (from to : List ℕ) → answered edition1 edition2 from to ≡ house 14 → Why edition1 edition2 from to 14 → ⊥
    forwards from to e (source_length a n) = omega arith
    forwards from to e (target-length b n) = omega arith
    forwards from to e (unsound l c n) = omega arith
    forwards from to e (full l c d n) = not-both 14 0 (sym e ∙ forward from to c l.1)

-- ---- answers

pub one_answer : OneAnswer
one_answer = record { of_conversion = λ a b e. answer-one (λ done. 0) (λ d f p. refl) a b e }
