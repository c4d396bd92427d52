-- Laws of the classes of keys, and of the sums.
-- Assumes nothing.
use mathlib.Core.Path.{◌≡◌, refl, sym, ap, ap₂, ◌∙◌}
use mathlib.Core.Bool.{Bool, true, false, ◌&&◌, cond}
use mathlib.Core.List.{List, [], ◌∷◌}
use Rattle.std.proofs.Common.{Some, None}
use Prim.Native.Nat.{ℕ, suc, ◌+◌, ◌-◌, ◌≤◌, ◌<◌}
use native.Mathlib.Nat.{sub-zero}
use native.Mathlib.Omega.{arith}
use lib.ListN.{length}
use lib.Dec.{ltb, leb}
use borrow.Author.Tests.{lt-ltb, le-ltb, le-leb, leb-true}
use Rattle.octets.proofs.BoolLaws.{and_left, and_right}
use Rattle.store.specs.Store.{Entry, entries, entries_from, entry_at, key_count, peer_count, sound, all_hold}
use Rattle.store.specs.Search.{fits}
use Rattle.store.specs.declared.Limits.{Limits}
use Rattle.store.specs.Layout.{edition_of}
use Rattle.store.proofs.SoundLaws.{Sound, sound_says}
use Rattle.store.proofs.DecodeLaws.{entries_from-length, entries-length, peers-length}
use Rattle.depot.specs.declared.Class.{Class}
use Rattle.depot.specs.declared.Class.TheVariants.{Fit, Ended, Early, Reversed}
use Rattle.depot.specs.declared.Classes.{Classes}
use Rattle.depot.specs.declared.Tally.{Tally}
use Rattle.depot.specs.Claims.{Within}
use Rattle.depot.specs.Counts.{class_of, class_in, one_more, classes_of, in_all, tally_of, counts_in, counts_of, rooms, largest, sums, sum_of}

-- ---- the class of a period

module _ (a b t : ℕ) where
  pub class_reversed : b < a → Reversed ≡ class_of a b t
  class_reversed h = rw (lt-ltb b a h)

  pub class_early : a ≤ b → t < a → Early ≡ class_of a b t
  class_early h k = rw (le-ltb b a h, lt-ltb t a k)

  rest : a ≤ b → a ≤ t → (f : Bool) → fits a b t ≡ f → cond f Fit Ended ≡ class_of a b t
  rest h k f e =
      sym (ap (λ (x : Bool). cond x Reversed (cond (ltb t a) Early (cond (fits a b t) Fit Ended))) (le-ltb b a h)
      ∙ ap (λ (x : Bool). cond x Early (cond (fits a b t) Fit Ended)) (le-ltb t a k)
      ∙ ap (λ (x : Bool). cond x Fit Ended) e)

  pub class_fit : a ≤ b → a ≤ t → fits a b t ≡ true → Fit ≡ class_of a b t
  class_fit h k e = rest h k true e

  pub class_ended : a ≤ b → a ≤ t → fits a b t ≡ false → Ended ≡ class_of a b t
  class_ended h k e = rest h k false e

-- ---- the four classes add up

pub all_more : (k : Class) (c : Classes) → in_all (one_more k c) ≡ suc (in_all c)
all_more Fit c = omega arith
all_more Ended c = omega arith
all_more Early c = omega arith
all_more Reversed c = omega arith

pub all-counted : (t : ℕ) (es : List Entry) → in_all (classes_of t es) ≡ length es
unfolding classes_of
all-counted t [] = refl
all-counted t (e ∷ es) = all_more (class_in t e) (classes_of t es) ∙ ap suc (all-counted t es)

-- ---- the loop from behind

none_yet : (c : Classes) → c.fit ≡ 0 → c.ended ≡ 0 → c.early ≡ 0 → c.reversed ≡ 0 → c ≡ record { fit = 0; ended = 0; early = 0; reversed = 0 }
none_yet c e f g h = ap₂ (λ (x y : ℕ). record { fit = x; ended = y; early = c.early; reversed = c.reversed }) e f ∙ ap₂ (λ (x y : ℕ). record { fit = 0; ended = 0; early = x; reversed = y }) g h

module _ (L : Limits) (s : List ℕ) (t n : ℕ) where
  pub classes-start : (c : Classes) → c.fit ≡ 0 → c.ended ≡ 0 → c.early ≡ 0 → c.reversed ≡ 0 → n ≡ key_count s → c ≡ classes_of t (entries_from L s n (key_count s - n))
  unfolding classes_of entries_from
  classes-start c e f g h k = let z : key_count s - n ≡ 0 = omega arith in rw z (none_yet c e f g h)

  pub classes_turn : (i : ℕ) (c d : Classes) (k : Class) → 0 < i → i ≤ n → c ≡ classes_of t (entries_from L s i (n - i))
      → k ≡ class_in t (entry_at L s (i - 1)) → d ≡ one_more k c → d ≡ classes_of t (entries_from L s (i - 1) (n - (i - 1)))
  unfolding classes_of entries_from
  classes_turn i c d k z l e f g =
      let p : n - (i - 1) ≡ suc (n - i) = omega arith in
      let q : suc (i - 1) ≡ i = omega arith in
      g
      ∙ ap₂ (λ (x : Class) (y : Classes). one_more x y) f e
      ∙ sym (ap (λ (x : ℕ). classes_of t (entries_from L s (i - 1) x)) p
      ∙ ap (λ (x : ℕ). one_more (class_in t (entry_at L s (i - 1))) (classes_of t (entries_from L s x (n - i)))) q)

  pub classes-few : (i : ℕ) (c : Classes) → c ≡ classes_of t (entries_from L s i (n - i)) → in_all c ≡ n - i
  classes-few i c e = ap in_all e ∙ all-counted t (entries_from L s i (n - i)) ∙ entries_from-length L s i (n - i)

  pub classes-all : (i : ℕ) (c : Classes) → i ≡ 0 → n ≡ key_count s → c ≡ classes_of t (entries_from L s i (n - i)) → c ≡ classes_of t (entries L s)
  unfolding entries
  classes-all i c z k e =
      e ∙ ap (λ (x : ℕ). classes_of t (entries_from L s x (n - x))) z ∙ ap (λ (x : ℕ). classes_of t (entries_from L s 0 x)) (sub-zero n ∙ k)

-- ---- the counts of a store

module _ (L : Limits) (s : List ℕ) (t : ℕ) where
  pub counts-unsound : sound L s ≡ false → None ≡ counts_in (Some L) s t
  unfolding counts_in
  counts-unsound h = rw h

  pub counts-sound : sound L s ≡ true → (c : Classes) (n m : ℕ) → c ≡ classes_of t (entries L s) → n ≡ key_count s → m ≡ peer_count s
      → Some (record { held = n; classes = c; peers = m }) ≡ counts_in (Some L) s t
  unfolding counts_in tally_of
  counts-sound h c n m p q r =
      let w : Sound L s = sound_says L s h in
      rw (h, entries-length L s, peers-length L s w) cc

  pub counts_of_sound : edition_of (length s) ≡ Some L → sound L s ≡ true → (c : Classes) (n m : ℕ) → c ≡ classes_of t (entries L s) → n ≡ key_count s → m ≡ peer_count s
      → Some (record { held = n; classes = c; peers = m }) ≡ counts_of s t
  unfolding counts_of counts_in tally_of
  counts_of_sound e h c n m p q r =
      let w : Sound L s = sound_says L s h in
      rw (e, h, entries-length L s, peers-length L s w) cc

-- ---- sums

six : (a b c d e f : Bool) → all_hold (a ∷ b ∷ c ∷ d ∷ e ∷ f ∷ []) ≡ true
    → (a ≡ true) × (b ≡ true) × (c ≡ true) × (d ≡ true) × (e ≡ true) × (f ≡ true)
unfolding all_hold
six a b c d e f h =
    let r1 = and_right a (b && (c && (d && (e && (f && true))))) h in
    let r2 = and_right b (c && (d && (e && (f && true)))) r1 in
    let r3 = and_right c (d && (e && (f && true))) r2 in
    let r4 = and_right d (e && (f && true)) r3 in
    let r5 = and_right e (f && true) r4 in (
      and_left a (b && (c && (d && (e && (f && true))))) h,
      and_left b (c && (d && (e && (f && true)))) r1,
      and_left c (d && (e && (f && true))) r2,
      and_left d (e && (f && true)) r3,
      and_left e (f && true) r4,
      and_left f true r5,
    )

pub rooms_say : (a b : Tally) → all_hold (rooms a b) ≡ true → Within a b
rooms_say a b h =
    let p = six (leb (a.held + b.held) largest) (leb (a.classes.fit + b.classes.fit) largest) (leb (a.classes.ended + b.classes.ended) largest) (leb (a.classes.early + b.classes.early) largest)
    (leb (a.classes.reversed + b.classes.reversed) largest) (leb (a.peers + b.peers) largest) h in
    record {
      held = leb-true (a.held + b.held) largest p.0;
      fit = leb-true (a.classes.fit + b.classes.fit) largest p.1;
      ended = leb-true (a.classes.ended + b.classes.ended) largest p.2;
      early = leb-true (a.classes.early + b.classes.early) largest p.3;
      reversed = leb-true (a.classes.reversed + b.classes.reversed) largest p.4;
      peers = leb-true (a.peers + b.peers) largest p.5;
    }

pub rooms-there : (a b : Tally) → Within a b → all_hold (rooms a b) ≡ true
unfolding all_hold
rooms-there a b w =
    rw (
      le-leb (a.held + b.held) largest w.held,
      le-leb (a.classes.fit + b.classes.fit) largest w.fit,
      le-leb (a.classes.ended + b.classes.ended) largest w.ended,
      le-leb (a.classes.early + b.classes.early) largest w.early,
      le-leb (a.classes.reversed + b.classes.reversed) largest w.reversed,
      le-leb (a.peers + b.peers) largest w.peers,
    )

module _ (a b : Tally) where
  pub given : Within a b → sum_of a b ≡ Some (sums a b)
  unfolding sum_of
  given w = rw (rooms-there a b w)

  pub refused : (Within a b → ⊥) → sum_of a b ≡ None
  unfolding sum_of
  refused f = go (all_hold (rooms a b)) refl
    where
      go : (r : Bool) → all_hold (rooms a b) ≡ r → cond r (Some (sums a b)) None ≡ None
      go true e = absurd (f (rooms_say a b e))
      go false e = refl
