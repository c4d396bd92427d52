-- The place of a key among the entries, by what a search over the records finds.
-- Assumes nothing.
use mathlib.Core.Path.{◌≡◌, sym, ◌∙◌, subst}
use mathlib.Core.Bool.{Bool, true, false}
use mathlib.Core.List.{List}
use Prim.Native.Nat.{ℕ, zero, suc, ◌+◌, ◌-◌, ◌≤◌, ◌<◌}
use native.Mathlib.Omega.{arith}
use native.Mathlib.Numerals.{add-one}
use lib.ListN.{length}
use borrow.Author.Tests.{le-ltb}
use Rattle.std.specs.Prelude.{Option, Some, None, MatchOption}
use Rattle.store.specs.Store.{Entry, entries, entries_from, entry_at, key_count}
use Rattle.store.specs.Search.{place_where}
use Rattle.store.specs.Request.{has_key, is_held, key_place}
use Rattle.store.specs.declared.Limits.{Limits}
use Rattle.store.proofs.DecodeLaws.{entries-length}
use Rattle.store.proofs.SearchLaws.{place-start, place_turn, place_here, place_end}

module _ (p : Entry → Bool) (L : Limits) (s : List ℕ) (n : ℕ) (en : n ≡ key_count s) where
  -- the first k records are passed
  passed : (k : ℕ) → k ≤ n → ((i : ℕ) → i < k → p (entry_at L s i) ≡ false) → place_where p (entries L s) ≡ k + place_where p (entries_from L s k (n - k))
  passed zero h w = place-start p L s n en
  passed (suc k) h w =
      subst (λ (x : ℕ). place_where p (entries L s) ≡ x + place_where p (entries_from L s x (n - x))) (add-one k)
      (passed k (omega arith) (λ i l. w i (omega arith)) ∙ place_turn p L s n k (omega arith) (w k (omega arith)))

-- what the search says
pub held-place : (r : Option ℕ) (L : Limits) (s : List ℕ) (a b n : ℕ) → n ≡ key_count s
    → MatchOption r ((k : ℕ) → 0 ≤ k → k < n → has_key a b (entry_at L s k) ≡ false)
    (λ i. (0 ≤ i) × (i < n) × (has_key a b (entry_at L s i) ≡ true) × ((k : ℕ) → 0 ≤ k → k < i → has_key a b (entry_at L s k) ≡ false))
    → MatchOption r (is_held a b (entries L s) ≡ false) (λ i. i ≡ key_place a b (entries L s))
held-place None L s a b n en w =
    let e : key_place a b (entries L s) ≡ n = passed (has_key a b) L s n en n (omega arith) (λ i l. w i (omega arith) l) ∙ place_end (has_key a b) L s n n (omega arith) in
    le-ltb (key_place a b (entries L s)) (length (entries L s)) (omega (arith, entries-length L s))
held-place (Some i) L s a b n en w =
    let l : i < n = w.1 in
    sym (passed (has_key a b) L s n en i (omega arith) (λ k h. w.3 k (omega arith) h) ∙ place_here (has_key a b) L s n i l w.2)
