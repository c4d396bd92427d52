-- What the test of soundness says, fact by fact, and what each of its conditions decides.
-- Assumes nothing.
use mathlib.Core.Path.{◌≡◌, refl, sym, ◌∙◌, subst}
use mathlib.Core.Bool.{Bool, true, false}
use mathlib.Core.List.{List, [], ◌∷◌, ◌++◌}
use Prim.Native.Nat.{ℕ, zero, suc, ◌+◌, ◌*◌, ◌-◌, ◌≤◌, ◌<◌}
use lib.ListN.{length, get_or}
use lib.Dec.{eqb, leb}
use borrow.Author.Tests.{eq-eqb, ne_eqb, eqb-true, leb-true}
use Rattle.octets.specs.Bytes.{Bytes, get16, part, all_below, all_zero}
use Rattle.octets.proofs.WordLaws.{get16-fits}
use Rattle.octets.proofs.BoolLaws.{and_left, and_right, and_both, and_false_left, and_false_right, all_below-at}
use Rattle.store.specs.Layout.{record_at, peers_at, total, Bounded}
use Rattle.store.specs.Store.{key_count, peer_count, first, sum_before, sum_at, new_key, kmac_at, all_odd, header_tests, header_ok, counts_ok, sums_ok, unique_ok, parity_ok, unused_ok, all_hold, conditions, sound}
use Rattle.store.specs.declared.Limits.{Limits}

-- ---- conditions

pub all_hold_fails : (bs : List Bool) (k : ℕ) → get_or bs k true ≡ false → all_hold bs ≡ false
unfolding all_hold
all_hold_fails [] k e = e
all_hold_fails (b ∷ bs) zero e = and_false_left b (all_hold bs) e
all_hold_fails (b ∷ bs) (suc k) e = and_false_right b (all_hold bs) (all_hold_fails bs k e)

all_hold-at : (bs : List Bool) (k : ℕ) → all_hold bs ≡ true → get_or bs k true ≡ true
unfolding all_hold
all_hold-at [] k e = refl
all_hold-at (b ∷ bs) zero e = and_left b (all_hold bs) e
all_hold-at (b ∷ bs) (suc k) e = all_hold-at bs k (and_right b (all_hold bs) e)

pub all_hold-none : all_hold [] ≡ true
unfolding all_hold
all_hold-none = refl

pub all_hold-cons : (b : Bool) (bs : List Bool) → b ≡ true → all_hold bs ≡ true → all_hold (b ∷ bs) ≡ true
unfolding all_hold
all_hold-cons b bs p q = and_both b (all_hold bs) p q

-- where all others hold, the last decides
pub all_hold-last : (bs : List Bool) (b : Bool) → all_hold bs ≡ true → all_hold (bs ++ (b ∷ [])) ≡ b
unfolding all_hold
all_hold-last [] true e = refl
all_hold-last [] false e = refl
all_hold-last (x ∷ bs) b e = rw (and_left x (all_hold bs) e) (all_hold-last bs b (and_right x (all_hold bs) e))

module _ (L : Limits) (s : List ℕ) where
  -- the condition with this number fails
  pub unsound : (k : ℕ) → get_or (conditions L s) k true ≡ false → sound L s ≡ false
  unfolding sound
  unsound k e = all_hold_fails (conditions L s) k e

  pub unused_decides : eqb (length s) (total L) ≡ true → header_ok L s ≡ true → counts_ok L s ≡ true → sums_ok s ≡ true → unique_ok s ≡ true → parity_ok s ≡ true
      → sound L s ≡ unused_ok L s
  unfolding sound
  unused_decides p q r t u v =
      let a : Bool = eqb (length s) (total L) in
      all_hold-last (a ∷ header_ok L s ∷ counts_ok L s ∷ sums_ok s ∷ unique_ok s ∷ parity_ok s ∷ []) (unused_ok L s)
      (all_hold-cons a _ p
      (all_hold-cons (header_ok L s) _ q
      (all_hold-cons (counts_ok L s) _ r (all_hold-cons (sums_ok s) _ t (all_hold-cons (unique_ok s) _ u (all_hold-cons (parity_ok s) [] v all_hold-none))))))

  pub counts_ok_says : counts_ok L s ≡ true → (key_count s ≤ L.keys) × (peer_count s ≤ L.peers)
  unfolding counts_ok
  counts_ok_says h =
      let c1 : Bool = leb (key_count s) L.keys in
      let c2 : Bool = leb (peer_count s) L.peers in
      (leb-true (key_count s) L.keys (and_left c1 c2 h), leb-true (peer_count s) L.peers (and_right c1 c2 h))

-- ---- the facts

pub record Sound (L : Limits) (s : List ℕ) : Type 0 where
  pub size : length s ≡ 12 + 44 * L.keys + 4 * L.peers
  pub edition_is : get16 s 0 ≡ L.edition
  pub keys_at : get16 s 4 ≡ 12
  pub peers_at_lem : get16 s 8 ≡ peers_at L
  pub total_is : get16 s 10 ≡ total L
  pub keys_fit : key_count s ≤ L.keys
  pub peers_fit : peer_count s ≤ L.peers
  pub sums : (i : ℕ) → i < key_count s → first s i ≡ sum_before s i
  pub sum : sum_before s (key_count s) ≡ peer_count s
  pub unique : (i : ℕ) → i < key_count s → new_key s i ≡ true
  pub parity : (i : ℕ) → i < key_count s → all_odd (kmac_at s i) ≡ true
  pub keys_free : all_zero (part s (record_at (key_count s)) (44 * (L.keys - key_count s))) ≡ true
  pub peers_free : all_zero (part s (peers_at L + 4 * peer_count s) (4 * (L.peers - peer_count s))) ≡ true

module _ (L : Limits) (s : List ℕ) (h : sound L s ≡ true) where
  condition : (k : ℕ) → get_or (conditions L s) k true ≡ true
  unfolding sound
  condition k = all_hold-at (conditions L s) k h

  fixed : (k : ℕ) → get_or (header_tests L s) k true ≡ true
  unfolding header_ok
  fixed k = all_hold-at (header_tests L s) k (condition 1)

  pub sound_says : Sound L s
  unfolding sums_ok unique_ok parity_ok unused_ok
  sound_says =
      let n : ℕ = key_count s in
      let s1 : Bool = all_below n (sum_at s) in
      let s2 : Bool = eqb (sum_before s n) (peer_count s) in
      let z1 : Bool = all_zero (part s (record_at n) (44 * (L.keys - n))) in
      let z2 : Bool = all_zero (part s (peers_at L + 4 * peer_count s) (4 * (L.peers - peer_count s))) in
      record {
        size = eqb-true (length s) (total L) (condition 0);
        edition_is = eqb-true (get16 s 0) L.edition (fixed 0);
        keys_at = eqb-true (get16 s 4) 12 (fixed 1);
        peers_at_lem = eqb-true (get16 s 8) (peers_at L) (fixed 2);
        total_is = eqb-true (get16 s 10) (total L) (fixed 3);
        keys_fit = (counts_ok_says L s (condition 2)).0;
        peers_fit = (counts_ok_says L s (condition 2)).1;
        sums = λ i l. eqb-true (first s i) (sum_before s i) (all_below-at n i (sum_at s) (and_left s1 s2 (condition 3)) l);
        sum = eqb-true (sum_before s n) (peer_count s) (and_right s1 s2 (condition 3));
        unique = λ i l. all_below-at n i (new_key s) (condition 4) l;
        parity = λ i l. all_below-at n i (λ j. all_odd (kmac_at s j)) (condition 5) l;
        keys_free = and_left z1 z2 (condition 6);
        peers_free = and_right z1 z2 (condition 6);
      }

  -- a sound store has an edition whose numbers fit
  pub sound_bounded : Bytes s → Bounded L
  sound_bounded b =
      let w : Sound L s = sound_says in
      record {
        edition_fits = subst (λ (x : ℕ). x < 65536) w.edition_is (get16-fits s b 0);
        total_fits = subst (λ (x : ℕ). x < 65536) w.total_is (get16-fits s b 10);
      }
