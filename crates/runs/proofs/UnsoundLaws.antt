-- No call finds a sound store unsound.
-- Assumes nothing.
use mathlib.Core.Path.{◌≡◌, refl, sym, ap, ◌∙◌}
use mathlib.Core.Bool.{Bool, true, false, not, ◌&&◌}
use mathlib.Core.List.{List}
use Prim.Native.Nat.{ℕ, ◌≤◌}
use native.Mathlib.Omega.{arith}
use lib.Dec.{eqb, leb}
use lib.ListN.{length, get_or, take}
use lib.Seq.{get_or-take}
use borrow.Author.Tests.{eqb-true, ne_eqb, leb-true}
use Rattle.std.specs.Prelude.{Some}
use Rattle.octets.proofs.BoolLaws.{clash, and_left, and_right}
use Rattle.store.specs.declared.Limits.{Limits}
use Rattle.store.specs.Layout.{edition_of}
use Rattle.store.specs.Store.{sound}
use Rattle.store.specs.Search.{Finding, found, unfound, find}
use Rattle.store.proofs.Theorems.{unsound-exactly}
use Rattle.session.specs.declared.Session.{Session}
use Rattle.session.specs.Sessions.{begins, or_refuse, begin}
use Rattle.session.specs.Rules.{Answered, reply, opened, ended, refused, refuse, respond, receive}
use Rattle.session.proofs.RuleLaws.{apart, obeyed-apart, receive-ends}
use Rattle.session.proofs.Theorems.{reply-length}
use Rattle.session.proofs.StoreTestLaws.{six_is_the_store_test}
use Rattle.runs.specs.Calls.{begun, received, searched, reply_of}
use Rattle.runs.specs.Sound.{says_unsound}

-- a begin refuses H2 and H6 alone
pub begin-never : (own peer start : ℕ) (out after : List ℕ) → says_unsound (begun (begin own peer start out) after) ≡ false
unfolding begin
begin-never own peer start out after = go (leb 1032 (length out)) (not (eqb own peer)) _
  where
    go : (a b : Bool) (e : Session) → says_unsound (begun (or_refuse a 2 (or_refuse b 6 (begins e 23))) after) ≡ false
    go true true e = refl
    go true false e = refl
    go false b e = refl

-- a message H1 to H5
refused-few : (e : Session) (m s out : List ℕ) (n : ℕ) → (receive e m s out).answer ≡ refused n → n ≤ 5
unfolding refuse respond
refused-few e m s out n =
    receive-ends (λ o. o.answer ≡ refused n → n ≤ 5) e m s out (λ k h q. let j : k ≡ n = cc in let g = leb-true k 4 h in omega arith)
    (λ q. let j : 5 ≡ n = cc in omega arith) (λ q. absurd (apart opened (refused n) refl q)) (λ L t response then v q. absurd (apart (reply 23) (refused n) refl q))
    (λ L t task v q. absurd (obeyed-apart _ m s out L task (refused n) refl refl q))

module _ (L : Limits) (s : List ℕ) (d : edition_of (length s) ≡ Some L) (h : sound L s ≡ true) where
  -- the store is unsound in no edition of its length
  not-unsound : {A : Type 0} (M : Limits) → edition_of (length s) ≡ Some M → sound M s ≡ false → A
  not-unsound M k u = let j : M ≡ L = cc in clash (sound L s) h (ap (λ (N : Limits). sound N s) (sym j) ∙ u)

  pub message-never : (e : Session) (m out : List ℕ)
      → let o = receive e m s out in says_unsound (received o.answer (reply_of o.answer o.output) o.output) ≡ false
  message-never e m out = go (receive e m s out).answer refl
    where
      o : List ℕ
      o = (receive e m s out).output

      six : (n : ℕ) → (receive e m s out).answer ≡ reply n → (b : Bool) → eqb (get_or (take n o) 19 0) 11 && eqb (get_or (take n o) 20 0) 6 ≡ b → b ≡ false
      six n q true z =
          let long = reply-length.from e m s out n q in
          let type = eqb (get_or (take n o) 19 0) 11 in
          let response = eqb (get_or (take n o) 20 0) 6 in
          let p = six_is_the_store_test.only e m s out n q
          (sym (get_or-take n o 19 0 (omega arith)) ∙ eqb-true (get_or (take n o) 19 0) 11 (and_left type response z))
          (sym (get_or-take n o 20 0 (omega arith)) ∙ eqb-true (get_or (take n o) 20 0) 6 (and_right type response z)) in
          not-unsound p.0 p.1.tested.edition_is p.2
      six n q false z = refl

      go : (a : Answered) → (receive e m s out).answer ≡ a → says_unsound (received a (reply_of a o) o) ≡ false
      go (reply n) q = six n q (eqb (get_or (take n o) 19 0) 11 && eqb (get_or (take n o) 20 0) 6) refl
      go opened q = refl
      go ended q = refl
      go (refused n) q = let few = refused-few e m s out n q in ne_eqb n 12 (λ z. omega arith)

  pub search-never : (peer t size : ℕ) → says_unsound (searched (find s peer t) size) ≡ false
  search-never peer t size = go (find s peer t) refl
    where
      twelve : (n : ℕ) → find s peer t ≡ unfound n → (b : Bool) → eqb n 12 ≡ b → b ≡ false
      twelve n q true z = let p = unsound-exactly.only s peer t (q ∙ ap unfound (eqb-true n 12 z)) in not-unsound p.0 p.1 p.2
      twelve n q false z = refl

      go : (f : Finding) → find s peer t ≡ f → says_unsound (searched f size) ≡ false
      go (found p end) q = refl
      go (unfound n) q = twelve n q (eqb n 12) refl
