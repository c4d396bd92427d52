-- Laws of the choice among entries: a turn of the loop that makes it from behind, and what it is (change request 7).
-- Assumes nothing.
use mathlib.Core.Path.{◌≡◌, refl, sym, ap, ap₂, ◌∙◌}
use mathlib.Core.Bool.{Bool, true, false, cond, ◌&&◌}
use mathlib.Core.List.{List, [], ◌∷◌}
use Prim.Native.Nat.{ℕ, zero, suc, ◌+◌, ◌-◌, ◌≤◌, ◌<◌}
use native.Mathlib.Nat.{add-zero, zero-add, sub-zero}
use native.Mathlib.Omega.{arith}
use lib.ListN.{length, get_or}
use lib.Dec.{ltb, leb}
use borrow.Author.Tests.{le-leb, lt-leb, lt-ltb, le-ltb, leb-true, leb-false, ltb-true, ltb-false}
use Rattle.std.specs.Prelude.{Option, Some, None, IfSome}
use Rattle.octets.proofs.BoolLaws.{and_left, and_right, and_false_left, and_false_right}
use Rattle.store.specs.Store.{Entry, entries, entries_from, entry_at, key_count}
use Rattle.store.specs.Search.{one_more, latest, taken, end_of}
use Rattle.store.specs.WellFormed.{nobody}
use Rattle.store.specs.Claims.{Among, AllAmong}
use Rattle.store.specs.Search.{Choice}
use Rattle.store.specs.declared.Found.{Found}
use Rattle.store.specs.declared.Limits.{Limits}

-- ---- a turn of the loop

-- the choice among the entries from i on
abbrev behind : (Entry → Bool) → Limits → List ℕ → ℕ → ℕ → Choice
behind p L s n i = latest p (entries_from L s i (n - i))

-- this place and this end are that choice, the place counted from 0 in the whole store
pub record Best (p : Entry → Bool) (L : Limits) (s : List ℕ) (n i place end : ℕ) : Type 0 where
  pub place_is : place ≡ i + (behind p L s n i).place
  pub end_is : end ≡ (behind p L s n i).end

module _ (p : Entry → Bool) (L : Limits) (s : List ℕ) (n : ℕ) where
  pub best_start : Best p L s n n n 0
  unfolding latest entries_from
  best_start =
      let e : n - n ≡ 0 = omega arith in
      record {
        place_is = sym (add-zero n) ∙ ap (λ (x : ℕ). n + (latest p (entries_from L s n x)).place) (sym e);
        end_is = ap (λ (x : ℕ). (latest p (entries_from L s n x)).end) (sym e);
      }

  module _ (i place end : ℕ) (h : 0 < i) (l : i ≤ n) (b : Best p L s n i place end) where
    abbrev here : Entry
    here = entry_at L s (i - 1)

    abbrev rest : Choice
    rest = behind p L s n i

    turned : behind p L s n (i - 1) ≡ one_more (p here && leb rest.end here.end) here.end rest
    unfolding latest entries_from
    turned =
        let e : n - (i - 1) ≡ suc (n - i) = omega arith in
        let f : suc (i - 1) ≡ i = omega arith in
        ap (λ (x : ℕ). latest p (entries_from L s (i - 1) x)) e
        ∙ ap (λ (x : ℕ). let c = latest p (entries_from L s x (n - i)) in one_more (p here && leb c.end here.end) here.end c) f

    -- record i - 1 is taken
    pub best_here : (e : ℕ) → e ≡ here.end → p here ≡ true → end ≤ e → Best p L s n (i - 1) (i - 1) e
    best_here e q t k =
        let r : rest.end ≤ here.end = omega (arith, b.end_is) in
        let z : behind p L s n (i - 1) ≡ record { place = 0; end = here.end } = turned ∙ rw (t, le-leb rest.end here.end r) in
        record { place_is = sym (add-zero (i - 1)) ∙ ap (λ (x : Choice). i - 1 + x.place) (sym z); end_is = q ∙ ap (λ (x : Choice). x.end) (sym z) }

    -- it ends before the one taken behind it, or p does not hold of it
    kept : p here && leb rest.end here.end ≡ false → Best p L s n (i - 1) place end
    kept f =
        let z : behind p L s n (i - 1) ≡ record { place = suc rest.place; end = rest.end } =
        turned ∙ ap (λ (x : Bool). one_more x here.end rest) f in
        let m : place ≡ i - 1 + suc rest.place = omega (arith, b.place_is) in
        record { place_is = m ∙ ap (λ (x : Choice). i - 1 + x.place) (sym z); end_is = b.end_is ∙ ap (λ (x : Choice). x.end) (sym z) }

    pub best_less : (e : ℕ) → e ≡ here.end → e < end → Best p L s n (i - 1) place end
    best_less e q k =
        kept (and_false_right (p here) (leb rest.end here.end) (lt-leb rest.end here.end (omega (arith, b.end_is))))

    pub best_past : p here ≡ false → Best p L s n (i - 1) place end
    best_past t = kept (and_false_left (p here) (leb rest.end here.end) t)

  pub best_all : (i place end : ℕ) → i ≡ 0 → n ≡ key_count s → Best p L s n i place end → ◌≡◌ {A = Choice} (record { place = place; end = end }) (latest p (entries L s))
  unfolding entries
  best_all i place end z k b =
      let all : Choice = latest p (entries_from L s 0 (key_count s)) in
      let e : behind p L s n i ≡ all = ap (behind p L s n) z ∙ ap (λ (x : ℕ). latest p (entries_from L s 0 x)) (sub-zero n ∙ k) in
      let q : place ≡ all.place = b.place_is ∙ ap (λ (x : ℕ). x + (behind p L s n i).place) z ∙ zero-add _ ∙ ap (λ (x : Choice). x.place) e in
      ap₂ (λ (x y : ℕ). record { place = x; end = y }) q (b.end_is ∙ ap (λ (x : Choice). x.end) e)

-- what the loop holds, as a place counted from 0 and an end; nothing is the place behind the last
abbrev pub place_held : Option Found → ℕ → ℕ
place_held None n = n
place_held (Some f) n = f.place - 1

-- the loop holds the choice among the entries from i on
pub record Held (p : Entry → Bool) (L : Limits) (s : List ℕ) (n i : ℕ) (o : Option Found) : Type 0 where
  pub best : Best p L s n i (place_held o n) (end_of o)
  pub within : IfSome o (λ f. (0 < f.place) × (f.place ≤ n))

pub held_taken : (p : Entry → Bool) (L : Limits) (s : List ℕ) (n i : ℕ) (o : Option Found) → i ≡ 0 → n ≡ key_count s → length (entries L s) ≡ n → Held p L s n i o
    → o ≡ taken (latest p (entries L s)) (length (entries L s))
held_taken p L s n i None z k m h =
    let e = best_all p L s n i n 0 z k h.best in
    let size = length (entries L s) in
    sym (ap (λ (c : Choice). taken c size) (sym e) ∙ ap (λ (b : Bool). cond b (Some (record { place = suc n; end = 0 })) None) (le-ltb n size (omega (arith, m))))
held_taken p L s n i (Some f) z k m h =
    let e = best_all p L s n i (f.place - 1) f.end z k h.best in
    let size = length (entries L s) in
    let q : suc (f.place - 1) ≡ f.place = omega (arith, h.within.0) in
    sym (ap (λ (c : Choice). taken c size) (sym e)
    ∙ ap (λ (b : Bool). cond b (Some (record { place = suc (f.place - 1); end = f.end })) None) (lt-ltb (f.place - 1) size (omega (arith, m, h.within.0, h.within.1)))
    ∙ ap (λ (x : ℕ). Some (record { place = x; end = f.end })) q)

-- ---- what the choice is

-- p holds of the entry that is taken; no entry of which it holds ends later, and none before it ends with it; none is taken only where p holds of none
pub record Takes (p : Entry → Bool) (es : List Entry) (c : Choice) : Type 0 where
  pub holds : c.place < length es → p (get_or es c.place nobody) ≡ true
  pub its_end : c.place < length es → (get_or es c.place nobody).end ≡ c.end
  pub no_end : length es ≤ c.place → c.end ≡ 0
  pub one_taken : (j : ℕ) → j < length es → p (get_or es j nobody) ≡ true → c.place < length es
  pub none_later : (j : ℕ) → j < length es → p (get_or es j nobody) ≡ true → (get_or es j nobody).end ≤ c.end
  pub first : (j : ℕ) → j < c.place → j < length es → p (get_or es j nobody) ≡ true → (get_or es j nobody).end < c.end

-- one entry more in front
takes_more : (p : Entry → Bool) (e : Entry) (es : List Entry) (c : Choice) → Takes p es c → (b : Bool) → p e && leb c.end e.end ≡ b
    → Takes p (e ∷ es) (one_more b e.end c)
takes_more p e es c t true q =
    let s : p e ≡ true = and_left (p e) (leb c.end e.end) q in
    let l : c.end ≤ e.end = leb-true c.end e.end (and_right (p e) (leb c.end e.end) q) in
    record {
      holds = λ h. s;
      its_end = λ h. refl;
      no_end = λ h. omega arith;
      one_taken = λ j h k. omega arith;
      none_later = later l;
      first = λ j h. absurd (omega arith);
    }
  where
    later : c.end ≤ e.end → (j : ℕ) → j < length (e ∷ es) → p (get_or (e ∷ es) j nobody) ≡ true → (get_or (e ∷ es) j nobody).end ≤ e.end
    later l zero h k = omega arith
    later l (suc j) h k = omega (arith, l, t.none_later j (omega arith) k)
takes_more p e es c t false q =
    record {
      holds = λ h. t.holds (omega arith);
      its_end = λ h. t.its_end (omega arith);
      no_end = λ h. t.no_end (omega arith);
      one_taken = taken;
      none_later = later;
      first = before;
    }
  where
    -- the entry in front ends before the one that is taken behind it
    less : (x : Bool) → leb c.end e.end ≡ x → true && x ≡ false → e.end < c.end
    less true l r = let z : ◌≡◌ {A = ℕ} 0 1 = cc in absurd (omega arith)
    less false l r = leb-false c.end e.end l

    ends : p e ≡ true → e.end < c.end
    ends s = less (leb c.end e.end) refl (sym (ap (λ (y : Bool). y && leb c.end e.end) s) ∙ q)

    one-behind : p e ≡ true → (b : Bool) → ltb c.place (length es) ≡ b → c.place < length es
    one-behind s true k = ltb-true c.place (length es) k
    one-behind s false k = absurd (omega (arith, ends s, t.no_end (ltb-false c.place (length es) k)))

    taken : (j : ℕ) → j < length (e ∷ es) → p (get_or (e ∷ es) j nobody) ≡ true → suc c.place < length (e ∷ es)
    taken zero h k = omega (arith, one-behind k (ltb c.place (length es)) refl)
    taken (suc j) h k = omega (arith, t.one_taken j (omega arith) k)

    later : (j : ℕ) → j < length (e ∷ es) → p (get_or (e ∷ es) j nobody) ≡ true → (get_or (e ∷ es) j nobody).end ≤ c.end
    later zero h k = omega (arith, ends k)
    later (suc j) h k = t.none_later j (omega arith) k

    before : (j : ℕ) → j < suc c.place → j < length (e ∷ es) → p (get_or (e ∷ es) j nobody) ≡ true → (get_or (e ∷ es) j nobody).end < c.end
    before zero g h k = ends k
    before (suc j) g h k = t.first j (omega arith) (omega arith) k

pub takes : (p : Entry → Bool) (es : List Entry) → Takes p es (latest p es)
unfolding latest
takes p [] =
    record {
      holds = λ h. absurd (omega arith);
      its_end = λ h. absurd (omega arith);
      no_end = λ h. refl;
      one_taken = λ j h k. absurd (omega arith);
      none_later = λ j h k. absurd (omega arith);
      first = λ j g h k. absurd (omega arith);
    }
takes p (e ∷ es) = takes_more p e es (latest p es) (takes p es) (p e && leb (latest p es).end e.end) refl

-- among more entries one is taken too, and it ends no earlier
pub outlasted : (p : Entry → Bool) (es fs : List Entry) → AllAmong es fs → (latest p es).place < length es
    → ((latest p fs).place < length fs) × ((latest p es).end ≤ (latest p fs).end)
outlasted p es fs a h =
    let c : Choice = latest p es in
    let t : Takes p es c = takes p es in
    let u : Takes p fs (latest p fs) = takes p fs in
    let m : Among fs (get_or es c.place nobody) = a c.place h in
    let s : p (get_or fs m.place nobody) ≡ true = ap p m.is_it ∙ t.holds h in
    let e : (get_or fs m.place nobody).end ≡ c.end = ap (λ (x : Entry). x.end) m.is_it ∙ t.its_end h in
    (u.one_taken m.place m.inside s, omega (arith, e, u.none_later m.place m.inside s))
