-- What a line does: the bytes that it brings, the store and the session keys that are held then, and the line that is read.
-- Assumes nothing.
use Rattle.std.proofs.Common.{◌≡◌, ℕ, ◌+◌, ◌-◌, ◌<◌, ◌≤◌, Bool, true, false, not, eqb, Option, Some, None, Ok, Err, List, [], ◌++◌, length, take, replicate, sym, refl, ap, ◌∙◌, ⊎_elim, arith, length-take-le, take_at, drop-drop, le-ltb, lt-ltb, eq-eqb, ne_eqb, le-leb}
use lib.ListN.{length-replicate}
use borrow.Rule.Slice.PartMut.{put_mid, post_of}
use borrow.Author.Tests.{lt-leb}
use Rattle.octets.specs.Bytes.{splice}
use Rattle.octets.proofs.SpliceLaws.{splice_front}
use Rattle.refusal.specs.House.{Answer, house, gives, house_number, unless_refused}
use Rattle.refusal.specs.declared.Refusal.{Refusal}
use Rattle.refusal.proofs.Laws.{buffer-kept}
use Rattle.store.specs.Search.{emptied}
use Rattle.store.specs.declared.Limits.{Limits}
use Rattle.store.specs.Layout.{total, edition_in, edition_of}
use Rattle.store.proofs.SoundLaws.{Sound, sound_says}
use Rattle.store.specs.Store.{sound}
use Rattle.runs.specs.Alike.{is_sound}
use Rattle.records.proofs.Theorems.{held_in_lem}
use Rattle.store.proofs.SearchLaws.{edition_says, known-edition}
use Rattle.convert.specs.Convert.{answered, converted, Converts}
use Rattle.convert.proofs.DoneLaws.{same_answer, same_target}
use Rattle.lines.specs.Digits.{bytes_of, Puts}
use Rattle.lines.specs.Words.{word}
use Rattle.authentication.specs.Keys.{derived}
use Rattle.console.specs.Units.{keys_by}
use Rattle.console.specs.Lent.{bytes_in}
use Rattle.console.specs.Bench.{limits_of, size_of, store_of, target_of, conversion, large_then, store_then, empty_of, taken_in, store_in, large_by, large_in, filled_by, line_by}

-- what is read of word k into an empty buffer
pub bytes_read : (text w d : List ℕ) (k n : ℕ) → w ≡ word text k → Puts (take (length {A = ℕ} (replicate 38050 0)) (bytes_of w)) (replicate 38050 0) d n → take n d ≡ bytes_in text k
bytes_read text w d k n e p =
    let l : length {A = ℕ} (replicate 38050 0) ≡ 38050 = length-replicate {A = ℕ} 38050 0 in
    ap (take n) p.written
    ∙ splice_front (replicate 38050 0) (take (length {A = ℕ} (replicate 38050 0)) (bytes_of w)) n (sym p.many)
    ∙ ap (λ (j : ℕ). take j (bytes_of w)) l
    ∙ ap (λ (v : List ℕ). take 38050 (bytes_of v)) e

bytes_counted : (text w d : List ℕ) (k n : ℕ) → w ≡ word text k → Puts (take (length {A = ℕ} (replicate 38050 0)) (bytes_of w)) (replicate 38050 0) d n → n ≡ length (bytes_in text k)
bytes_counted text w d k n e p =
    p.many ∙ ap (λ (j : ℕ). length (take j (bytes_of w))) (length-replicate {A = ℕ} 38050 0) ∙ ap (λ (v : List ℕ). length (take 38050 (bytes_of v))) e

-- what is written over the n elements from index i
pub written_over : (d v : List ℕ) (i n : ℕ) → n ≡ length v → put_mid i n d v ≡ splice d i v
unfolding splice
written_over d v i n e = ap (λ (t : List ℕ). take i d ++ (v ++ t)) (ap (λ (k : ℕ). post_of i k d) e ∙ drop-drop (length v) i d)

-- ---- the store that is held

-- a sound store has its header, and its records fit
pub record Held (s : List ℕ) : Type 0 where
  pub limits : Limits
  pub in_limits : sound limits s ≡ true
  pub says : Sound limits s

pub held_says : (s : List ℕ) → is_sound s ≡ true → Held s
held_says s h =
    let p = held_in_lem (edition_of (length s)) s h in
    record { limits = p.0; in_limits = p.1; says = sound_says p.0 s p.1 }

pub front_length : (large : Bool) (n : ℕ) (s : List ℕ) → (n ≡ size_of large) × (n ≤ 38012) → length s ≡ 38012 → n ≡ length (take n s)
front_length large n s h l = sym (length-take-le n s (omega (arith, h.1, l)))

pub front-held : (large : Bool) (n : ℕ) (new rest : List ℕ) → (n ≡ size_of large) × (n ≤ 38012) → length new ≡ n → store_of large (new ++ rest) ≡ new
front-held large n new rest h l = take_at new rest (size_of large) (l ∙ h.0)

-- the empty store of the edition that has the length of the one that is held
pub emptied-held : (large : Bool) (n : ℕ) (s new rest : List ℕ) → (n ≡ size_of large) × (n ≤ 38012) → n ≡ length s → new ≡ emptied (edition_of (length s)) s → length new ≡ length s
    → store_of large (new ++ rest) ≡ empty_of large
unfolding edition_of edition_in emptied
emptied-held large n s new rest h l e k =
    front-held large n new rest h (k ∙ sym l) ∙ e ∙ ap (λ (m : ℕ). emptied (edition_of m) s) (sym l ∙ h.0) ∙ go large
  where
    go : (b : Bool) → emptied (edition_of (size_of b)) s ≡ empty_of b
    go true = refl
    go false = refl

-- ---- the store that a line brings

-- the editions' lengths
pub edition-length : (n : ℕ) (L : Limits) → edition_of n ≡ Some L → (n ≤ 38012) × (size_of (eqb n 38012) ≡ n)
edition-length n L e =
    let size : n ≡ total L = (edition_says n L e).1 in
    ⊎_elim
    (λ h. let z : n ≡ 3852 = size ∙ sym (ap total h) in (omega arith, ap size_of (ne_eqb n 38012 (omega arith)) ∙ sym z))
    (λ h. let z : n ≡ 38012 = size ∙ sym (ap total h) in (omega arith, ap size_of (eq-eqb n 38012 z) ∙ sym z))
    (known-edition n L e)

module _ (text w d : List ℕ) (n : ℕ) (e : w ≡ word text 1) (p : Puts (take (length {A = ℕ} (replicate 38050 0)) (bytes_of w)) (replicate 38050 0) d n) where
  pub large-kept : (large : Bool) → edition_of n ≡ None → large ≡ large_in text large
  large-kept large f = sym (ap (λ (x : Option Limits). large_by x (length (bytes_in text 1)) large) (ap edition_of (sym (bytes_counted text w d 1 n e p)) ∙ f))

  pub large-taken : (large : Bool) (L : Limits) → edition_of n ≡ Some L → eqb n 38012 ≡ large_in text large
  large-taken large L f =
      let c : n ≡ length (bytes_in text 1) = bytes_counted text w d 1 n e p in
      ap (λ (k : ℕ). eqb k 38012) c ∙ sym (ap (λ (x : Option Limits). large_by x (length (bytes_in text 1)) large) (ap edition_of (sym c) ∙ f))

  pub store_kept : (old : List ℕ) → edition_of n ≡ None → old ≡ store_in text old
  store_kept old f = sym (ap (λ (x : Option Limits). taken_in x (bytes_in text 1) old) (ap edition_of (sym (bytes_counted text w d 1 n e p)) ∙ f))

  pub store-taken : (old new rest : List ℕ) (L : Limits) → edition_of n ≡ Some L → new ≡ take n d → store_of (eqb n 38012) (new ++ rest) ≡ store_in text old
  store-taken old new rest L f q =
      let v : List ℕ = bytes_in text 1 in
      let r : new ≡ v = q ∙ bytes_read text w d 1 n e p in
      let c : n ≡ length v = bytes_counted text w d 1 n e p in
      ap (λ (k : ℕ). take k (new ++ rest)) (edition-length n L f).1
      ∙ take_at new rest n (ap length r ∙ sym c)
      ∙ r
      ∙ sym (ap (λ (x : Option Limits). taken_in x v old) (ap edition_of (sym c) ∙ f))

-- ---- the store that is converted

module _ (large : Bool) (n : ℕ) (s to new : List ℕ) (h : (n ≡ size_of (not large)) × (n ≤ 38012)) (l : n ≡ length to) where
  target-long : length to ≡ length (target_of large)
  target-long = sym l ∙ h.0 ∙ sym (length-replicate {A = ℕ} (size_of (not large)) 0)

  answer_is : answered (limits_of large) (limits_of (not large)) s to ≡ conversion large s
  answer_is = same_answer (limits_of large) (limits_of (not large)) s to (target_of large) target-long

  pub held-refused : (g : Refusal) → Converts (limits_of large) (limits_of (not large)) s to new (Err g) → (large ≡ large_then (conversion large s) large) × (s ≡ store_then large s)
  held-refused g c =
      let e : house (house_number g) ≡ conversion large s = c.answer ∙ answer_is in
      (ap (λ (x : Answer). large_then x large) e, buffer-kept (house_number g) (converted (limits_of large) (limits_of (not large)) s (target_of large)) s e)

  pub held-converted : Converts (limits_of large) (limits_of (not large)) s to new (Ok tt) → length new ≡ length to
      → (rest copied behind : List ℕ) → copied ≡ take n (new ++ rest)
      → (not large ≡ large_then (conversion large s) large) × (store_of (not large) (copied ++ behind) ≡ store_then large s)
  held-converted c k rest copied behind q =
      let e : gives 0 ≡ conversion large s = c.answer ∙ answer_is in
      let made : List ℕ = converted (limits_of large) (limits_of (not large)) s (target_of large) in
      let r : copied ≡ new = q ∙ take_at new rest n (k ∙ sym l) in (
        ap (λ (x : Answer). large_then x large) e,
        ap (λ (m : ℕ). take m (copied ++ behind)) (sym h.0)
            ∙ take_at copied behind n (ap length r ∙ k ∙ sym l)
            ∙ r
            ∙ c.target ∙ same_target (limits_of large) (limits_of (not large)) s to (target_of large) target-long (sym c.answer)
            ∙ ap (λ (x : Answer). unless_refused x made s) e,
      )

-- ---- the line that is read

pub line_fits : (line : List ℕ) (n : ℕ) (more : List ℕ) → n + length more ≤ length line → splice line n more ≡ line_by line n more
line_fits line n more h = simp (le-leb (n + length more) (length line) h)

-- ---- the session keys that are held

-- no KMAC, no session keys: those before stay
pub none-derived : (kmac : List ℕ) (ra rb : ℕ) (held : Option (List ℕ)) → kmac ≡ [] → held ≡ keys_by kmac ra rb held
unfolding derived
none-derived kmac ra rb held e = rw e
