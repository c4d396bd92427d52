-- RESPONSE 6 is the store test's alone: the claim of specs/Claims.antt on it, proved.
-- Assumes nothing.
use Rattle.std.proofs.Common.{◌≡◌, ℕ, ◌+◌, Bool, true, false, cond, List, sym, refl, ap, ◌∙◌, subst}
use Rattle.octets.specs.Bytes.{splice}
use Rattle.octets.proofs.BoolLaws.{clash}
use Rattle.store.specs.declared.Limits.{Limits}
use Rattle.store.specs.Store.{entries, sound}
use Rattle.message.specs.declared.Task.{Task}
use Rattle.message.specs.declared.Task.TheVariants.{Requests, DeleteAll, EndOfUpdate}
use Rattle.message.specs.declared.Kind.{Kind}
use Rattle.message.specs.Header.{kind}
use Rattle.message.specs.Body.{request_number, requests}
use Rattle.command.proofs.WorkLaws.{results-length}
use Rattle.session.specs.declared.Session.{Session}
use Rattle.session.specs.Sessions.{Open}
use Rattle.session.specs.Rules.{reply, respond, asks_store, header_tests, transaction_tests, Verdict, passed, failed, first_failed, type_test, verdict, heard, obey, judged, receive}
use Rattle.session.specs.Claims.{HasResponse, AtStoreTest, SixIsTheStoreTest}
use Rattle.session.proofs.TestLaws.{tests_pass}
use Rattle.session.proofs.OutcomeLaws.{tested-receive}
use Rattle.session.proofs.RuleLaws.{has_response, verdict-six, reply_fails}

module _ (L : Limits) (e : Session) (m s out : List ℕ) (a : AtStoreTest L e m s out) where
  -- what the store test decides
  at-verdict : (b : Bool) → sound L s ≡ b → verdict L e m s ≡ cond b (passed a.task) (failed 6 Open)
  unfolding verdict first_failed
  at-verdict b h =
      tests_pass (header_tests e m) a.header_right (first_failed (transaction_tests e m) (type_test (kind m) L m s))
      ∙ tests_pass (transaction_tests e m) a.number_new (type_test (kind m) L m s)
      ∙ ap (λ (k : Kind). type_test k L m s) a.type_is
      ∙ simp (a.body_right, a.asks, h)

  at-receive : (v : Verdict) → verdict L e m s ≡ v → judged v L (heard e m) m s out ≡ receive e m s out
  at-receive v q = ap (λ (w : Verdict). judged w L (heard e m) m s out) (sym q) ∙ tested-receive L e m s out a.tested

-- the work of a task that asks the store
worked-told : (L : Limits) (task : Task) → asks_store task ≡ true → (e : Session) (m s out : List ℕ) → HasResponse 0 (request_number m) Open (obey L task e m s out)
unfolding respond obey splice requests
worked-told L (Requests k) h e m s out =
    record {
      answer_is = ap (λ (n : ℕ). reply (23 + n)) (results-length L e.own k m (request_number m) 22 (entries L s));
      type_is = refl;
      response_is = refl;
      state_is = refl;
    }
worked-told L DeleteAll h e m s out = clash false h refl
worked-told L EndOfUpdate h e m s out = clash false h refl

pub six_is_the_store_test : SixIsTheStoreTest
unfolding respond
six_is_the_store_test =
    record {
      only = λ e m s out n q y z.
          let f = reply_fails e m s out n 5 q z in
          let p = verdict-six f.0 e m s out f.1 f.2 f.3 in
          (f.0, p.0, p.1);
      unsound = λ L e m s out a h.
          subst (λ o. HasResponse 6 0 Open o × (o.store ≡ s)) (at-receive L e m s out a (failed 6 Open) (at-verdict L e m s out a false h)) (has_response 6 Open (heard e m) m s out, refl);
      is_sound_lem = λ L e m s out a h.
          subst (HasResponse 0 (request_number m) Open) (at-receive L e m s out a (passed a.task) (at-verdict L e m s out a true h)) (worked-told L a.task a.asks (heard e m) m s out);
    }
