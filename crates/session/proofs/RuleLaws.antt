-- What a verdict tells of its message, and the ways that a message can take.
-- Assumes nothing.
use Rattle.std.proofs.Common.{◌≡◌, ℕ, suc, ◌≤◌, Bool, true, false, cond, not, ◌&&◌, ◌||◌, eqb, leb, List, [], ◌∷◌, length, get_or, sym, refl, ap, ◌∙◌, subst, arith, eqb-true, leb-true, Option, Some, None}
use borrow.Author.Tests.{eqb-false, not-true}
use Rattle.octets.specs.Bytes.{splice}
use Rattle.octets.proofs.BoolLaws.{and_left, and_right, clash}
use Rattle.store.specs.declared.Limits.{Limits}
use Rattle.store.specs.Layout.{edition_of}
use Rattle.store.specs.Store.{sound}
use Rattle.message.specs.declared.Task.{Task}
use Rattle.message.specs.declared.Task.TheVariants.{Requests, DeleteAll, EndOfUpdate}
use Rattle.message.specs.declared.Kind.{Kind}
use Rattle.message.specs.declared.Kind.TheVariants.{Asks, SessionInit, Other}
use Rattle.message.specs.Header.{transaction, sequence, kind}
use Rattle.message.specs.Body.{body_ok}
use Rattle.session.specs.declared.Session.{Session}
use Rattle.session.specs.Sessions.{State, Closed, Waiting, Open, state_of, closing, opening}
use Rattle.session.specs.Rules.{Answered, reply, ended, opened, refused, Outcome, refuse, respond, Test, test, length_ok, header_tests, repeats, transaction_tests, asks_store, store_test, body_tests, Verdict, failed, passed, first_failed, all_pass, type_test, verdict, heard, obey, judged, opens, while_waiting, in_state, receive_in, receive}
use Rattle.session.specs.Claims.{Tested, HasResponse, AtStoreTest}

-- ---- answers

-- answers of two kinds are two answers
abbrev pub rank : Answered → ℕ
rank (reply n) = 0
rank ended = 1
rank opened = 2
rank (refused n) = 3

pub apart : (a b : Answered) → eqb (rank a) (rank b) ≡ false → a ≡ b → ⊥
apart a b h q = eqb-false (rank a) (rank b) h (ap rank q)

-- the reply to a test that fails
pub has_response : (response : ℕ) (then : State) (e : Session) (m s out : List ℕ) → HasResponse response 0 then (respond response [] then e m s out)
unfolding respond splice
has_response response then e m s out = record { answer_is = refl; type_is = refl; response_is = refl; state_is = refl }

-- a message past all tests is answered with a reply or ended
pub obeyed-apart : (e : Session) (m s out : List ℕ) (L : Limits) (task : Task) (b : Answered) → eqb 0 (rank b) ≡ false → eqb 1 (rank b) ≡ false → (obey L task e m s out).answer ≡ b → ⊥
unfolding respond obey
obeyed-apart e m s out L (Requests k) b h g = apart _ b h
obeyed-apart e m s out L DeleteAll b h g = apart _ b h
obeyed-apart e m s out L EndOfUpdate b h g = apart _ b g

-- its reply has RESPONSE 0
obeyed-zero : (e : Session) (m s out : List ℕ) (L : Limits) (task : Task) (n r : ℕ) → (obey L task e m s out).answer ≡ reply n → get_or (obey L task e m s out).output 20 0 ≡ suc r → ⊥
unfolding respond obey splice
obeyed-zero e m s out L (Requests k) n r q z = omega arith
obeyed-zero e m s out L DeleteAll n r q z = omega arith
obeyed-zero e m s out L EndOfUpdate n r q z = apart ended (reply n) refl q

-- ---- a verdict

abbrev is_passed : Verdict → Bool
is_passed (passed task) = true
is_passed (failed r then) = false

-- no message both passes and fails
not-both : {A : Type 0} (task : Task) (r : ℕ) (then : State) → passed task ≡ failed r then → A
not-both task r then q = clash true refl (ap is_passed q)

-- a test with this RESPONSE does not give the verdict
abbrev other : ℕ → Verdict → Bool
other response (failed r then) = not (eqb response r)
other response (passed task) = true

-- nor does any of a list
lacks : List Test → Verdict → Bool
lacks [] w = true
lacks (test b response then ∷ ts) w = other response w && lacks ts w

-- then all of them hold, and it is what stands behind them
behind : (ts : List Test) (v w : Verdict) → lacks ts w ≡ true → first_failed ts v ≡ w → (all_pass ts ≡ true) × (v ≡ w)
unfolding lacks all_pass first_failed
behind [] v w h q = (refl, q)
behind (test true response then ∷ ts) v w h q = behind ts v w (and_right (other response w) (lacks ts w) h) q
behind (test false response then ∷ ts) v w h q = absurd (itself response then (ap (other response) q ∙ and_left (other response w) (lacks ts w) h))
  where
    itself : (response : ℕ) (then : State) → other response (failed response then) ≡ true → ⊥
    itself response then h = eqb-false response response (not-true (eqb response response) h) refl

-- a message past all tests
pub record Passed (m : List ℕ) (task : Task) : Type 0 where
  pub length_ok_lem : length_ok m ≡ true
  pub kind_is : kind m ≡ Asks task
  pub body_fits : body_ok task m ≡ true

module _ (L : Limits) (e : Session) (m s : List ℕ) where
  -- no test behind the transaction number has this RESPONSE
  not-typed : (k : Kind) (r : ℕ) (then : State) → other 1 (failed r then) ≡ true → other 11 (failed r then) && (other 6 (failed r then) && true) ≡ true
      → type_test k L m s ≡ failed r then → ⊥
  unfolding lacks
  not-typed (Asks task) r then h g q = not-both task r then (behind (body_tests task L m s) (passed task) (failed r then) g q).1
  not-typed SessionInit r then h g q = let p : 1 ≡ r = cc in eqb-false 1 r (not-true (eqb 1 r) h) p
  not-typed Other r then h g q = let p : 1 ≡ r = cc in eqb-false 1 r (not-true (eqb 1 r) h) p

  -- the verdict is that of the type, where no test before it gives it
  to_type : (w : Verdict) → lacks (header_tests e m) w ≡ true → lacks (transaction_tests e m) w ≡ true → verdict L e m s ≡ w
      → (all_pass (header_tests e m) ≡ true) × (all_pass (transaction_tests e m) ≡ true) × (type_test (kind m) L m s ≡ w)
  unfolding verdict
  to_type w h g q =
      let p = behind (header_tests e m) (first_failed (transaction_tests e m) (type_test (kind m) L m s)) w h q in
      let r = behind (transaction_tests e m) (type_test (kind m) L m s) w g p.1 in
      (p.0, r.0, r.1)

  pub verdict-passed : (task : Task) → verdict L e m s ≡ passed task → Passed m task
  unfolding lacks all_pass
  verdict-passed task q = let p = to_type (passed task) refl refl q in go (kind m) refl (and_left (length_ok m) _ p.0) p.2
    where
      go : (k : Kind) → kind m ≡ k → length_ok m ≡ true → type_test k L m s ≡ passed task → Passed m task
      go (Asks t) is l q =
          let p = behind (body_tests t L m s) (passed t) (passed task) refl q in
          let same : t ≡ task = cc in
          subst (Passed m) same (record { length_ok_lem = l; kind_is = is; body_fits = and_left (body_ok t m) _ p.0 })
      go SessionInit is l q = not-both task 1 Open (sym q)
      go Other is l q = not-both task 1 Open (sym q)

  -- no test has RESPONSE 0
  pub verdict-zero : (response : ℕ) (then : State) → verdict L e m s ≡ failed response then → eqb response 0 ≡ false
  unfolding lacks
  verdict-zero response then q = go (eqb response 0) refl
    where
      go : (b : Bool) → eqb response 0 ≡ b → b ≡ false
      go true z =
          let p : verdict L e m s ≡ failed 0 then = q ∙ ap (λ (r : ℕ). failed r then) (eqb-true response 0 z) in
          absurd (not-typed (kind m) 0 then refl refl (to_type (failed 0 then) refl refl p).2)
      go false z = refl

  -- RESPONSE 10 is that of a repeated transaction number behind a right header
  pub verdict_ten : (then : State) → verdict L e m s ≡ failed 10 then → (all_pass (header_tests e m) ≡ true) × (repeats e (transaction m) ≡ true)
  unfolding verdict lacks first_failed
  verdict_ten then q =
      let p = behind (header_tests e m) (first_failed (transaction_tests e m) (type_test (kind m) L m s)) (failed 10 then) refl q in
      (p.0, go (repeats e (transaction m)) refl p.1)
    where
      go : (b : Bool) → repeats e (transaction m) ≡ b → first_failed (test (not b) 10 Closed ∷ []) (type_test (kind m) L m s) ≡ failed 10 then → b ≡ true
      go true is q = refl
      go false is q = absurd (not-typed (kind m) 10 then refl refl q)

  -- RESPONSE 6 is that of the store test
  pub verdict-six : (out : List ℕ) → Tested L e m s out → (then : State) → verdict L e m s ≡ failed 6 then → AtStoreTest L e m s out × (sound L s ≡ false)
  unfolding lacks all_pass first_failed
  verdict-six out x then q = let p = to_type (failed 6 then) refl refl q in typed p.0 p.1 (kind m) refl p.2
    where
      stored : (a b : Bool) (task : Task) → first_failed (test (not a || b) 6 Open ∷ []) (passed task) ≡ failed 6 then → (a ≡ true) × (b ≡ false)
      stored true true task q = not-both task 6 then q
      stored true false task q = (refl, refl)
      stored false b task q = not-both task 6 then q

      typed : all_pass (header_tests e m) ≡ true → all_pass (transaction_tests e m) ≡ true → (k : Kind) → kind m ≡ k → type_test k L m s ≡ failed 6 then
          → AtStoreTest L e m s out × (sound L s ≡ false)
      typed h n (Asks task) is q =
          let p = behind (test (body_ok task m) 11 Closed ∷ []) (first_failed (store_test task L s ∷ []) (passed task)) (failed 6 then) refl q in
          let t = stored (asks_store task) (sound L s) task p.1 in
          (record { tested = x; header_right = h; number_new = n; task = task; type_is = is; body_right = and_left (body_ok task m) true p.0; asks = t.0 }, t.1)
      typed h n SessionInit is q = let z : ◌≡◌ {A = ℕ} 1 6 = cc in absurd (omega arith)
      typed h n Other is q = let z : ◌≡◌ {A = ℕ} 1 6 = cc in absurd (omega arith)

-- ---- the ways of a message: what holds at the end of each holds of what the message leaves

open_code : (n : ℕ) → state_of n ≡ Open → n ≡ 2
open_code n h = go (eqb n 1) (eqb n 2) refl refl h
  where
    go : (a b : Bool) → eqb n 1 ≡ a → eqb n 2 ≡ b → cond a Waiting (cond b Open Closed) ≡ Open → n ≡ 2
    go true b p q h = cc
    go false true p q h = eqb-true n 2 q
    go false false p q h = cc

module _ (P : Outcome → Type 0) (e : Session) (m s out : List ℕ)
    (at-refusal : (n : ℕ) → leb n 4 ≡ true → P (refuse n e s out))
    (at-no-init : P (refuse 5 (closing e) s out))
    (at-opened : P (record { answer = opened; session = opening e (sequence m); store = s; output = out }))
    (at-failed : (L : Limits) → Tested L e m s out → (response : ℕ) (then : State) → verdict L e m s ≡ failed response then → P (respond response [] then (heard e m) m s out))
    (at-passed : (L : Limits) → Tested L e m s out → (task : Task) → verdict L e m s ≡ passed task → P (obey L task (heard e m) m s out)) where
  either : (b : Bool) (x y : Outcome) → (b ≡ true → P x) → P y → P (cond b x y)
  either true x y p q = p refl
  either false x y p q = q

  by-verdict : (L : Limits) → Tested L e m s out → (v : Verdict) → verdict L e m s ≡ v → P (judged v L (heard e m) m s out)
  by-verdict L t (failed response then) q = at-failed L t response then q
  by-verdict L t (passed task) q = at-passed L t task q

  by_state : (L : Limits) → edition_of (length s) ≡ Some L → 1032 ≤ length out → (t : State) → state_of e.state ≡ t → P (in_state t L e m s out)
  unfolding in_state while_waiting
  by_state L d r Closed is = at-refusal 3 refl
  by_state L d r Waiting is =
      either (leb 20 (length m)) (while_waiting e m s out) (refuse 4 e s out)
      (λ l. either (opens e m) (record { answer = opened; session = opening e (sequence m); store = s; output = out }) (refuse 5 (closing e) s out) (λ o. at-opened) at-no-init)
      (at-refusal 4 refl)
  by_state L d r Open is =
      either (leb 20 (length m)) (judged (verdict L e m s) L (heard e m) m s out) (refuse 4 e s out)
      (λ l. by-verdict L (record { edition_is = d; room = r; is_open = open_code e.state is; whole_header = leb-true 20 (length m) l }) (verdict L e m s) refl)
      (at-refusal 4 refl)

  by-edition : (E : Option Limits) → edition_of (length s) ≡ E → P (receive_in E e m s out)
  unfolding receive_in
  by-edition None d = at-refusal 1 refl
  by-edition (Some L) d =
      either (leb 1032 (length out)) (in_state (state_of e.state) L e m s out) (refuse 2 e s out)
      (λ l. by_state L d (leb-true 1032 (length out) l) (state_of e.state) refl) (at-refusal 2 refl)

  pub receive-ends : P (receive e m s out)
  unfolding receive
  receive-ends = by-edition (edition_of (length s)) refl

-- a reply with a RESPONSE other than 0 tells the verdict
pub reply_fails : (e : Session) (m s out : List ℕ) (n r : ℕ) → (receive e m s out).answer ≡ reply n → get_or (receive e m s out).output 20 0 ≡ suc r
    → (L : Limits) × Tested L e m s out × (then : State) × (verdict L e m s ≡ failed (suc r) then)
unfolding refuse respond splice
reply_fails e m s out n r =
    receive-ends (λ o. o.answer ≡ reply n → get_or o.output 20 0 ≡ suc r → (L : Limits) × Tested L e m s out × (then : State) × (verdict L e m s ≡ failed (suc r) then)) e m s out
    (λ k h q z. absurd (apart (refused k) (reply n) refl q)) (λ q z. absurd (apart (refused 5) (reply n) refl q)) (λ q z. absurd (apart opened (reply n) refl q))
    (λ L t response then v q z. (L, t, then, v ∙ ap (λ (x : ℕ). failed x then) z))
    (λ L t task v q z. absurd (obeyed-zero (heard e m) m s out L task n r q z))
