-- What is remembered of a message's transaction number: the claims of specs/Claims.antt on it, proved.
-- Assumes nothing.
use Rattle.std.proofs.Common.{◌≡◌, ℕ, Bool, true, false, cond, eqb, leb, List, [], length, sym, refl, ap, ◌∙◌, subst, eq-eqb, eqb-true, Option, Some, None}
use borrow.Author.Tests.{eqb-false}
use Rattle.octets.specs.Bytes.{splice}
use Rattle.octets.proofs.BoolLaws.{and_left, and_right, and_both}
use Rattle.store.specs.declared.Limits.{Limits}
use Rattle.store.specs.Layout.{edition_of}
use Rattle.message.specs.declared.Task.{Task}
use Rattle.message.specs.declared.Task.TheVariants.{Requests, DeleteAll, EndOfUpdate}
use Rattle.message.specs.Header.{transaction}
use Rattle.session.specs.declared.Session.{Session}
use Rattle.session.specs.Sessions.{State, Closed, Waiting, Open, state_of, remembering}
use Rattle.session.specs.Rules.{reply, opened, refused, Outcome, refuse, respond, header_tests, all_pass, Verdict, passed, failed, verdict, first_failed, judged, heard, obey, opens, while_waiting, in_state, receive_in, receive}
use Rattle.session.specs.Claims.{Recalls, beside, SameBeside, HeardIsRemembered, NotHeard, OpeningForgets, NoneIsNone, HasResponse, RepeatedIsTen, TenIsRepeated}
use Rattle.session.proofs.SessionLaws.{begin-made}
use Rattle.session.proofs.OutcomeLaws.{transaction-judged, tested-receive}
use Rattle.session.proofs.TestLaws.{heard-old, heard-new}
use Rattle.session.proofs.RuleLaws.{apart, has_response, obeyed-apart, verdict_ten, receive-ends, reply_fails}
use Rattle.session.proofs.Theorems.{refusal_leaves_session}

-- ---- what a session remembers

module _ (e : Session) (m : List ℕ) where
  heard_recalls : all_pass (header_tests e m) ≡ true → Recalls true (transaction m) (heard e m)
  heard_recalls h = subst (Recalls true (transaction m)) (sym (heard-new e m h)) (record { remembered_is = refl; number_is = refl })

  old_recalls : all_pass (header_tests e m) ≡ false → Recalls e.remembered e.transaction (heard e m)
  old_recalls h = subst (Recalls e.remembered e.transaction) (sym (heard-old e m h)) (record { remembered_is = refl; number_is = refl })

-- neither a reply nor end of update changes it
module _ (m s out : List ℕ) (d : Session) {remembered : Bool} {number : ℕ} (r : Recalls remembered number d) where
  replied_recalls : (response : ℕ) (then : State) → Recalls remembered number (respond response [] then d m s out).session
  unfolding respond
  replied_recalls response then = record { remembered_is = r.remembered_is; number_is = r.number_is }

  obeyed_recalls : (L : Limits) (task : Task) → Recalls remembered number (obey L task d m s out).session
  unfolding respond obey
  obeyed_recalls L (Requests k) = record { remembered_is = r.remembered_is; number_is = r.number_is }
  obeyed_recalls L DeleteAll = record { remembered_is = r.remembered_is; number_is = r.number_is }
  obeyed_recalls L EndOfUpdate = record { remembered_is = r.remembered_is; number_is = r.number_is }

pub heard_is_remembered : HeardIsRemembered
unfolding refuse
heard_is_remembered =
    record {
      recalled = λ e m s out h.
          let r = heard_recalls e m h in
          receive-ends (λ o. ((n : ℕ) → o.answer ≡ refused n → ⊥) → (o.answer ≡ opened → ⊥) → Recalls true (transaction m) o.session) e m s out
          (λ n k f g. absurd (f n refl)) (λ f g. absurd (f 5 refl)) (λ f g. absurd (g refl))
          (λ L t response then k f g. replied_recalls m s out (heard e m) r response then) (λ L t task k f g. obeyed_recalls m s out (heard e m) r L task);
    }

refused_recalls : (e : Session) (m s out : List ℕ) (n : ℕ) → (receive e m s out).answer ≡ refused n → (b : Bool) → eqb n 5 ≡ b
    → Recalls e.remembered e.transaction (receive e m s out).session
refused_recalls e m s out n q true h =
    subst (Recalls e.remembered e.transaction) (sym (refusal_leaves_session.closed e m s out (q ∙ ap refused (eqb-true n 5 h)))) (record { remembered_is = refl; number_is = refl })
refused_recalls e m s out n q false h =
    subst (Recalls e.remembered e.transaction) (sym (refusal_leaves_session.as_it_was e m s out n q (eqb-false n 5 h))) (record { remembered_is = refl; number_is = refl })

pub not-heard : NotHeard
unfolding refuse respond
not-heard =
    record {
      after_fault = λ e m s out h.
          let r = old_recalls e m h in
          receive-ends (λ o. (o.answer ≡ opened → ⊥) → Recalls e.remembered e.transaction o.session) e m s out
          (λ n k g. record { remembered_is = refl; number_is = refl }) (λ g. record { remembered_is = refl; number_is = refl }) (λ g. absurd (g refl))
          (λ L t response then k g. replied_recalls m s out (heard e m) r response then) (λ L t task k g. obeyed_recalls m s out (heard e m) r L task);
      after_refusal = λ e m s out n q. refused_recalls e m s out n q (eqb n 5) refl;
    }

pub opening_forgets : OpeningForgets
unfolding refuse respond
opening_forgets =
    record {
      of_begin = λ own peer start out e n q. subst (Recalls false 0) (begin-made own peer start out e n q).0 (record { remembered_is = refl; number_is = refl });
      of_message = λ e m s out.
          receive-ends (λ o. o.answer ≡ opened → Recalls false 0 o.session) e m s out
          (λ n h q. absurd (apart (refused n) opened refl q)) (λ q. absurd (apart (refused 5) opened refl q)) (λ q. record { remembered_is = refl; number_is = refl })
          (λ L t response then k q. absurd (apart (reply 23) opened refl q)) (λ L t task k q. absurd (obeyed-apart (heard e m) m s out L task opened refl refl q));
    }

-- ---- a number beside none

-- whatever becomes of two outcomes, one beside the other
beside-either : (b : Bool) (o x o' x' : Outcome) → SameBeside o o' → SameBeside x x' → SameBeside (cond b o x) (cond b o' x')
beside-either true o x o' x' p q = p
beside-either false o x o' x' p q = q

module _ (m s out : List ℕ) where
  beside-refused : (e : Session) (n k : ℕ) → SameBeside (refuse k (beside e n) s out) (refuse k e s out)
  unfolding refuse
  beside-refused e n k = record { same_answer = refl; same_session = refl; same_store = refl; same_output = refl }

  beside-judged : (L : Limits) (v : Verdict) (d : Session) (n : ℕ) → SameBeside (judged v L (beside d n) m s out) (judged v L d m s out)
  unfolding respond obey
  beside-judged L (failed response then) d n = record { same_answer = refl; same_session = refl; same_store = refl; same_output = refl }
  beside-judged L (passed (Requests k)) d n = record { same_answer = refl; same_session = refl; same_store = refl; same_output = refl }
  beside-judged L (passed DeleteAll) d n = record { same_answer = refl; same_session = refl; same_store = refl; same_output = refl }
  beside-judged L (passed EndOfUpdate) d n = record { same_answer = refl; same_session = refl; same_store = refl; same_output = refl }

  module _ (e : Session) (n : ℕ) (h : e.remembered ≡ false) where
    beside-verdict : (L : Limits) → verdict L (beside e n) m s ≡ verdict L e m s
    unfolding verdict
    beside-verdict L = simp h

    beside-heard : (b : Bool) (L : Limits) (v : Verdict)
        → SameBeside (judged v L (cond b (remembering (beside e n) (transaction m)) (beside e n)) m s out) (judged v L (cond b (remembering e (transaction m)) e) m s out)
    beside-heard true L v = beside-judged L v (remembering e (transaction m)) (transaction m)
    beside-heard false L v = beside-judged L v e n

    beside_open : (L : Limits) → SameBeside (judged (verdict L (beside e n) m s) L (heard (beside e n) m) m s out) (judged (verdict L e m s) L (heard e m) m s out)
    unfolding heard
    beside_open L =
        subst (λ (v : Verdict). SameBeside (judged v L (heard (beside e n) m) m s out) (judged (verdict L e m s) L (heard e m) m s out)) (sym (beside-verdict L))
        (beside-heard (all_pass (header_tests e m)) L (verdict L e m s))

    beside-waiting : SameBeside (while_waiting (beside e n) m s out) (while_waiting e m s out)
    unfolding while_waiting opens refuse
    beside-waiting =
        beside-either (opens e m) _ _ _ _ (record { same_answer = refl; same_session = refl; same_store = refl; same_output = refl })
        (record { same_answer = refl; same_session = refl; same_store = refl; same_output = refl })

    beside-state : (L : Limits) (t : State) → SameBeside (in_state t L (beside e n) m s out) (in_state t L e m s out)
    unfolding in_state
    beside-state L Closed = beside-refused e n 3
    beside-state L Waiting = beside-either (leb 20 (length m)) _ _ _ _ beside-waiting (beside-refused e n 4)
    beside-state L Open = beside-either (leb 20 (length m)) _ _ _ _ (beside_open L) (beside-refused e n 4)

    beside-edition : (E : Option Limits) → SameBeside (receive_in E (beside e n) m s out) (receive_in E e m s out)
    unfolding receive_in
    beside-edition None = beside-refused e n 1
    beside-edition (Some L) = beside-either (leb 1032 (length out)) _ _ _ _ (beside-state L (state_of e.state)) (beside-refused e n 2)

pub none-is-none : NoneIsNone
unfolding receive
none-is-none = record { any_number = λ e n m s out h. beside-edition m s out e n h (edition_of (length s)) }

-- ---- RESPONSE 10

pub repeated_is_ten : RepeatedIsTen
unfolding first_failed respond splice
repeated_is_ten =
    record {
      second = λ e m s out h f g e' q L m' s' out' t h' n.
          let r = subst (Recalls true (transaction m)) (sym q) (heard_is_remembered.recalled e m s out h f g) in
          let both = and_both e'.remembered (eqb (transaction m') e'.transaction) r.remembered_is (eq-eqb (transaction m') e'.transaction (n ∙ sym r.number_is)) in
          let d = remembering e' (transaction m') in
          subst (λ o. HasResponse 10 0 Closed o × (o.store ≡ s')) (transaction-judged L e' m' s' out' h' d refl true both ∙ tested-receive L e' m' s' out' t)
          (has_response 10 Closed d m' s' out', refl);
    }

pub ten_is_repeated : TenIsRepeated
ten_is_repeated =
    record {
      only = λ e m s out n q y z.
          let f = reply_fails e m s out n 9 q z in
          let p = verdict_ten f.0 e m s f.2 f.3 in
          let is = eqb (transaction m) e.transaction in
          (p.0, record { remembered_is = and_left e.remembered is p.1; number_is = sym (eqb-true (transaction m) e.transaction (and_right e.remembered is p.1)) });
    }
