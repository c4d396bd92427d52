-- Laws of the search for a class of bytes, and of words.
-- Assumes nothing.
use Rattle.std.proofs.Common.{◌≡◌, ℕ, suc, ◌+◌, ◌-◌, ◌≤◌, Bool, true, false, not, cond, List, [], ◌∷◌, Option, Some, None, length, take, drop, length-drop, take_all, refl, sym, ap, ◌∙◌, add-one, arith}
use Rattle.std.specs.Prelude.{nat_lt}
use Rattle.std.specs.List.{position, position_or_len}
use Rattle.std.proofs.lemmas.Option.{cond_some}
use borrow.Author.Tests.{ltb-false}
use Rattle.octets.specs.Bytes.{part}
use Rattle.lines.specs.Words.{in_class, before, first_from, First, word_start, word}
use Rattle.lines.specs.declared.words.Class.{Class}
use Rattle.lines.specs.declared.words.Class.TheVariants.{Blank, Letter}

-- ---- the first element of a class

before_is : (c : Class) (s : List ℕ) → before c s ≡ position_or_len (in_class c) s
unfolding before
before_is c [] = refl
before_is c (b ∷ s) = one_more (in_class c b) (before_is c s)
  where
    one_more : (t : Bool) {m n : ℕ} → m ≡ n → cond t 0 (suc m) ≡ cond (not t) (1 + n) 0
    one_more true e = refl
    one_more false e = omega arith

before_most : (c : Class) (s : List ℕ) → before c s ≤ length s
unfolding before
before_most c [] = omega arith
before_most c (b ∷ s) = one_more (in_class c b) (before_most c s)
  where
    one_more : (t : Bool) {m n : ℕ} → m ≤ n → cond t 0 (suc m) ≤ suc n
    one_more true h = omega arith
    one_more false h = omega arith

cond_none : {A : Type 0} (b : Bool) (x : A) → cond b (Some x) None ≡ None → b ≡ false
cond_none true x e = cc
cond_none false x e = refl

-- what is found from index i on
module _ (c : Class) (s : List ℕ) (i : ℕ) (h : i ≤ length s) where
  from_i : (r : Option ℕ) → r ≡ position (in_class c) (take (length s - i) (drop i s)) → position (in_class c) (drop i s) ≡ r
  from_i r e = ap (position (in_class c)) (sym (take_all (length s - i) (drop i s) (omega (arith, length-drop i s)))) ∙ sym e

  pub first_found : (n : ℕ) → Some n ≡ position (in_class c) (take (length s - i) (drop i s)) → First c s i (i + n)
  unfolding first_from
  first_found n e =
      let p = cond_some (nat_lt (position_or_len (in_class c) (drop i s)) (length (drop i s))) (position_or_len (in_class c) (drop i s)) n (from_i (Some n) e) in
      let b : before c (drop i s) ≡ n = before_is c (drop i s) ∙ p.1 in
      record { is = omega arith; least = omega arith; most = omega (arith, before_most c (drop i s), length-drop i s) }

  pub first_none : None ≡ position (in_class c) (take (length s - i) (drop i s)) → First c s i (length s)
  unfolding first_from
  first_none e =
      let p = ltb-false (position_or_len (in_class c) (drop i s)) (length (drop i s)) (cond_none _ (position_or_len (in_class c) (drop i s)) (from_i None e)) in
      let b = before_is c (drop i s) in
      record { is = omega (arith, before_most c (drop i s), length-drop i s); least = h; most = omega arith }

-- ---- words

pub next_word : (s : List ℕ) (j at e next : ℕ) → at ≡ word_start s j → e ≡ first_from Blank s at → next ≡ first_from Letter s e → next ≡ word_start s (j + 1)
unfolding word_start
next_word s j at e next p q r =
    r ∙ ap (λ (x : ℕ). first_from Letter s x) (q ∙ ap (λ (x : ℕ). first_from Blank s x) p) ∙ ap (word_start s) (sym (add-one j))

pub first_word : (s : List ℕ) (at : ℕ) → at ≡ first_from Letter s 0 → at ≡ word_start s 0
unfolding word_start
first_word s at e = e

pub this_word : (s : List ℕ) (k j at e : ℕ) → j ≡ k → at ≡ word_start s j → e ≡ first_from Blank s at → take (e - at) (drop at s) ≡ word s k
unfolding word part
this_word s k j at e p q r = simp (r, q, p)
