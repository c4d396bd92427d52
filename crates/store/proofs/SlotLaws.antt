-- A record that its slot does not make suspect has an issuer and serial of its own.
-- Assumes nothing.
use mathlib.Core.Path.{◌≡◌, refl, sym, ap, ap₂, ◌∙◌}
use mathlib.Core.Bool.{Bool, true, false, not, ◌||◌, cond, or-true}
use mathlib.Core.List.{List}
use Prim.Native.Nat.{ℕ, ◌+◌, ◌*◌, ◌<◌}
use native.Mathlib.Omega.{arith}
use lib.Dec.{eqb}
use lib.ListN.{length, get_or, set}
use lib.Seq.{get_or-set_same, get_or-set_other}
use borrow.Author.Tests.{eqb-true, eqb-false, eq-eqb, ne_eqb}
use Rattle.octets.specs.Bytes.{get32}
use Rattle.octets.proofs.BoolLaws.{clash, and_left, and_right, all_below-all}
use Rattle.store.specs.Layout.{record_at}
use Rattle.store.specs.Store.{same_key, new_key}
use Rattle.store.specs.Slots.{hash_of, slot_of, fingerprint_of, suspect, marked_by}

-- ---- one slot

-- what a slot makes suspect stays so with one more record
mark_kept : (mark f g : ℕ) → (g ≡ 0 → ⊥) → suspect mark g ≡ true → suspect (marked_by mark f) g ≡ true
mark_kept mark f g n h = go (eqb mark g) (eqb mark f) refl refl h
  where
    go : (a b : Bool) → eqb mark g ≡ a → eqb mark f ≡ b → a || eqb mark 255 ≡ true → suspect (cond (eqb mark 0) f (cond b f 255)) g ≡ true
    go true true p q r =
        let e : mark ≡ g = eqb-true mark g p in
        simp (ne_eqb mark 0 (λ z. n (sym e ∙ z)), eq-eqb f g (sym (eqb-true mark f q) ∙ e))
    go true false p q r =
        let e : mark ≡ g = eqb-true mark g p in
        simp (ne_eqb mark 0 (λ z. n (sym e ∙ z)), or-true (eqb 255 g))
    go false true p q r =
        let e : mark ≡ 255 = eqb-true mark 255 r in
        simp (ne_eqb mark 0 (omega arith), eq-eqb f 255 (sym (eqb-true mark f q) ∙ e), or-true (eqb f g))
    go false false p q r =
        let e : mark ≡ 255 = eqb-true mark 255 r in
        simp (ne_eqb mark 0 (omega arith), or-true (eqb 255 g))

-- which makes its own fingerprint suspect
mark_own : (mark f : ℕ) → suspect (marked_by mark f) f ≡ true
mark_own mark f = go (eqb mark 0) (eqb mark f)
  where
    go : (a b : Bool) → suspect (cond a f (cond b f 255)) f ≡ true
    go true b = simp (eq-eqb f f refl)
    go false true = simp (eq-eqb f f refl)
    go false false = or-true (eqb 255 f)

-- ---- the slots of the first i records

pub record Marked (s : List ℕ) (i : ℕ) (marks : List ℕ) : Type 0 where
  pub marked : (j : ℕ) → j < i → suspect (get_or marks (slot_of (hash_of s j)) 0) (fingerprint_of (hash_of s j)) ≡ true

pub marked-none : (s marks : List ℕ) → Marked s 0 marks
marked-none s marks = record { marked = λ j h. absurd (omega arith) }

pub marked_more : (s : List ℕ) (i k mark : ℕ) (marks : List ℕ) → Marked s i marks → k ≡ slot_of (hash_of s i) → k < length marks → mark ≡ marked_by (get_or marks k 0) (fingerprint_of (hash_of s i))
    → Marked s (i + 1) (set marks k mark)
marked_more s i k mark marks m e l w = record { marked = λ j h. go j h (eqb (slot_of (hash_of s j)) k) (eqb j i) refl refl }
  where
    before : (j : ℕ) → j < i + 1 → (j ≡ i → ⊥) → j < i
    before j h n = omega (arith, n)

    go : (j : ℕ) → j < i + 1 → (a b : Bool) → eqb (slot_of (hash_of s j)) k ≡ a → eqb j i ≡ b → suspect (get_or (set marks k mark) (slot_of (hash_of s j)) 0) (fingerprint_of (hash_of s j)) ≡ true
    go j h true true q r =
        ap (λ (x : ℕ). suspect (get_or (set marks k mark) x 0) (fingerprint_of (hash_of s j))) (eqb-true (slot_of (hash_of s j)) k q)
        ∙ ap (λ (x : ℕ). suspect x (fingerprint_of (hash_of s j))) (get_or-set_same marks k mark 0 l ∙ w)
        ∙ ap (λ (x : ℕ). suspect (marked_by (get_or marks k 0) (fingerprint_of (hash_of s i))) (fingerprint_of (hash_of s x))) (eqb-true j i r)
        ∙ mark_own (get_or marks k 0) (fingerprint_of (hash_of s i))
    go j h true false q r =
        let at : slot_of (hash_of s j) ≡ k = eqb-true (slot_of (hash_of s j)) k q in
        ap (λ (x : ℕ). suspect (get_or (set marks k mark) x 0) (fingerprint_of (hash_of s j))) at
        ∙ ap (λ (x : ℕ). suspect x (fingerprint_of (hash_of s j))) (get_or-set_same marks k mark 0 l ∙ w)
        ∙ mark_kept (get_or marks k 0) (fingerprint_of (hash_of s i)) (fingerprint_of (hash_of s j)) (omega arith)
        (sym (ap (λ (x : ℕ). suspect (get_or marks x 0) (fingerprint_of (hash_of s j))) at) ∙ m.marked j (before j h (eqb-false j i r)))
    go j h false true q r = absurd (eqb-false (slot_of (hash_of s j)) k q (ap (λ (x : ℕ). slot_of (hash_of s x)) (eqb-true j i r) ∙ sym e))
    go j h false false q r =
        ap (λ (x : ℕ). suspect x (fingerprint_of (hash_of s j))) (get_or-set_other marks k (slot_of (hash_of s j)) mark 0 (eqb-false (slot_of (hash_of s j)) k q))
        ∙ m.marked j (before j h (eqb-false j i r))

-- where the mark does not make record i suspect, no record before it has its issuer and serial
pub not-suspect-new : (s : List ℕ) (i k : ℕ) (marks : List ℕ) → Marked s i marks → k ≡ slot_of (hash_of s i) → suspect (get_or marks k 0) (fingerprint_of (hash_of s i)) ≡ false → new_key s i ≡ true
unfolding new_key hash_of
not-suspect-new s i k marks m e z = all_below-all i (λ j. not (same_key s i j)) (λ j h. go j h (same_key s i j) refl)
  where
    go : (j : ℕ) → j < i → (b : Bool) → same_key s i j ≡ b → not b ≡ true
    go j h false q = refl
    go j h true q =
        let a : Bool = eqb (get32 s (record_at i)) (get32 s (record_at j)) in
        let b : Bool = eqb (get32 s (record_at i + 4)) (get32 s (record_at j + 4)) in
        let issuer = eqb-true (get32 s (record_at i)) (get32 s (record_at j)) (and_left a b q) in
        let serial = eqb-true (get32 s (record_at i + 4)) (get32 s (record_at j + 4)) (and_right a b q) in
        let hash : hash_of s i ≡ hash_of s j = ap₂ (λ (x y : ℕ). x * 1779033703 + y * 1540483477) issuer serial in
        clash (suspect (get_or marks k 0) (fingerprint_of (hash_of s i))) (ap₂ (λ (x y : ℕ). suspect (get_or marks x 0) (fingerprint_of y)) (e ∙ ap slot_of hash) hash ∙ m.marked j h) z
