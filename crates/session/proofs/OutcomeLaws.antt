-- What a message leaves, step by step from the work of a command to the call.
-- Assumes nothing.
use Rattle.std.proofs.Common.{◌≡◌, ℕ, ◌+◌, ◌≤◌, ◌<◌, Bool, true, false, not, List, [], ◌∷◌, ◌++◌, length, sym, refl, ap, ◌∙◌, subst, ap₂, arith, le-leb, Result, Ok, Err, Some}
use Rattle.std.proofs.lemmas.Bool.{lt-leb}
use Rattle.octets.specs.Bytes.{splice}
use Rattle.octets.proofs.SpliceLaws.{splice-head}
use Rattle.refusal.specs.declared.Refusal.{Refusal}
use Rattle.store.specs.declared.Limits.{Limits}
use Rattle.store.specs.Store.{encode, entries, sound}
use Rattle.store.specs.Request.{Work, work}
use Rattle.command.specs.Works.{Works}
use Rattle.command.proofs.WorkLaws.{results-length}
use Rattle.message.specs.declared.Command.{Command}
use Rattle.message.specs.declared.Task.{Task}
use Rattle.message.specs.declared.Task.TheVariants.{Requests, DeleteAll, EndOfUpdate}
use Rattle.message.specs.declared.Kind.TheVariants.{Asks}
use Rattle.message.specs.Header.{transaction, kind}
use Rattle.message.specs.Body.{body_ok, requests, requests_from, request_number}
use Rattle.message.specs.Written.{reply_head}
use Rattle.session.specs.declared.Session.{Session}
use Rattle.session.specs.declared.Received.{Received}
use Rattle.session.specs.declared.Received.TheVariants.{Reply}
use Rattle.session.specs.declared.response.Response.{Response}
use Rattle.session.specs.Sessions.{Closed, Open, remembering, replied}
use Rattle.session.specs.Rules.{Outcome, refuse, respond, test, header_tests, transaction_tests, repeats, Verdict, first_failed, all_pass, type_test, verdict, heard, obey, judged, received_as, in_state, receive_in, receive, reply, Does}
use Rattle.session.specs.Parts.{response_number, Faults, Reports, work_if_sound}
use Rattle.session.specs.Claims.{Tested}
use Rattle.session.proofs.TestLaws.{tests_pass, header_fails, heard-old, heard-new}

-- the same outcome under another name
pub does_as : {o o' : Outcome} {answer : Result Received Refusal} {session : Session} {store output : List ℕ} → o ≡ o' → Does o answer session store output → Does o' answer session store output
does_as {answer = answer} {session = session} {store = store} {output = output} e d = subst (λ (x : Outcome). Does x answer session store output) e d

-- ---- a reply's head before its RESULTs

pub reports : (n : ℕ) (e : Session) (m written after : List ℕ) (answer : Result Received Refusal) (session : Session) → answer ≡ Ok (Reply (23 + n)) → session ≡ replied e Open
    → after ≡ splice written 0 (reply_head e.own e.peer (transaction m) e.next 0 n) → Reports n e m written after answer session
unfolding respond
reports n e m written after answer session en es ea =
    record {
      by = λ s out rs el h ew.
          let head = reply_head e.own e.peer (transaction m) e.next 0 n in
          record {
            answer_is = ap received_as en ∙ ap (λ (k : ℕ). reply (23 + k)) (sym el);
            session_is = es;
            store_is = refl;
            output_is = ea ∙ ap (λ (x : List ℕ). splice x 0 head) ew ∙ splice-head out 0 head rs 23 refl (omega arith)
                ∙ ap (λ (k : ℕ). splice out 0 (reply_head e.own e.peer (transaction m) e.next 0 k ++ rs)) (sym el);
          };
    }

-- ---- the work of a command

module _ (L : Limits) (k : Command) (e : Session) (m s out : List ℕ) where
  pub worked : (answer : Result Received Refusal) (session : Session) (after written output : List ℕ) (n : ℕ) → n ≡ request_number m → 23 + n ≤ length out
      → Works L e.own k m n s after out written → Reports n e m written output answer session → Does (obey L (Requests k) e m s out) answer session after output
  unfolding obey requests
  worked answer session after written output n en ho w r =
      let es = entries L s in
      let rs = work L e.own (requests k m) es in
      let ew : work L e.own (requests_from k m 22 n) es ≡ rs = ap (λ (x : ℕ). work L e.own (requests_from k m 22 x) es) en in
      let d = r.by after out (work L e.own (requests_from k m 22 n) es).results (results-length L e.own k m n 22 es) ho w.output_is in
      does_as (ap₂ (λ (x : Work) (t : List ℕ). respond 0 x.results Open e m t out) ew (w.store_is ∙ ap (λ (x : Work). encode L x.left) ew)) d

-- ---- the tests behind the type

module _ (L : Limits) (e : Session) (m s out : List ℕ) where
  pub body_wrong : (task : Task) → body_ok task m ≡ false → respond 11 [] Closed e m s out ≡ judged (type_test (Asks task) L m s) L e m s out
  unfolding first_failed
  body_wrong task h = simp h

  pub list_judged : (k : Command) → body_ok (Requests k) m ≡ true → work_if_sound L k e m s out ≡ judged (type_test (Asks (Requests k)) L m s) L e m s out
  unfolding first_failed
  list_judged k h = simp h

  pub all-judged : body_ok DeleteAll m ≡ true → obey L DeleteAll e m s out ≡ judged (type_test (Asks DeleteAll) L m s) L e m s out
  unfolding first_failed
  all-judged h = simp h

  pub end-judged : body_ok EndOfUpdate m ≡ true → obey L EndOfUpdate e m s out ≡ judged (type_test (Asks EndOfUpdate) L m s) L e m s out
  unfolding first_failed
  end-judged h = simp h

  pub work-unsound : (k : Command) → sound L s ≡ false → respond 6 [] Open e m s out ≡ work_if_sound L k e m s out
  unfolding first_failed
  work-unsound k h = simp h

  pub work-sound : (k : Command) → sound L s ≡ true → obey L (Requests k) e m s out ≡ work_if_sound L k e m s out
  unfolding first_failed
  work-sound k h = simp h

  pub in_waiting_short : 1032 ≤ length out → e.state ≡ 1 → length m < 20 → refuse 4 e s out ≡ receive_in (Some L) e m s out
  unfolding receive_in in_state
  in_waiting_short h st l = simp (le-leb 1032 (length out) h, st, lt-leb 20 (length m) l)

-- ---- the tests before the type

module _ (L : Limits) (e : Session) (m s out : List ℕ) where
  pub open_long : 20 ≤ length m → judged (verdict L e m s) L (heard e m) m s out ≡ in_state Open L e m s out
  unfolding in_state
  open_long h = simp (le-leb 20 (length m) h)

  pub fault_judged : (r : Response) → Faults e m (Err r) → respond (response_number r) [] Closed e m s out ≡ judged (verdict L e m s) L (heard e m) m s out
  unfolding verdict
  fault_judged r f = sym (ap₂ (λ (v : Verdict) (d : Session). judged v L d m s out) (f.by _) (heard-old e m (header_fails e m r f)))

  -- a message past the header tests; d is the session with its number remembered
  module _ (h : all_pass (header_tests e m) ≡ true) (d : Session) (q : d ≡ remembering e (transaction m)) where
    pub transaction-judged : (b : Bool) → repeats e (transaction m) ≡ b
        → judged (first_failed (test (not b) 10 Closed ∷ []) (type_test (kind m) L m s)) L d m s out ≡ judged (verdict L e m s) L (heard e m) m s out
    unfolding verdict
    transaction-judged b n =
        ap₂ (λ (v : Verdict) (x : Session). judged v L x m s out)
        (ap (λ (c : Bool). first_failed (test (not c) 10 Closed ∷ []) (type_test (kind m) L m s)) (sym n) ∙ sym (tests_pass (header_tests e m) h (first_failed (transaction_tests e m) (type_test (kind m) L m s))))
        (q ∙ sym (heard-new e m h))

-- a message that comes to the table of tests
pub tested-receive : (L : Limits) (e : Session) (m s out : List ℕ) → Tested L e m s out → judged (verdict L e m s) L (heard e m) m s out ≡ receive e m s out
unfolding receive_in receive
tested-receive L e m s out t = open_long L e m s out t.whole_header ∙ simp (t.edition_is, le-leb 1032 (length out) t.room, t.is_open)
