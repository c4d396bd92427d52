-- A message to twin stores: the same answer, session and output, and twin stores by the tally.
-- Assumes nothing.
use mathlib.Core.Path.{◌≡◌, refl, sym, ap, ◌∙◌, subst}
use mathlib.Core.Bool.{Bool, true, false, cond}
use mathlib.Core.List.{List, []}
use Prim.Native.Nat.{ℕ, ◌+◌}
use native.Mathlib.Omega.{arith}
use lib.Dec.{leb}
use lib.ListN.{length, take}
use Rattle.octets.specs.Bytes.{splice}
use Rattle.octets.proofs.SpliceLaws.{splice_front}
use Rattle.store.specs.declared.Limits.{Limits}
use Rattle.store.specs.Store.{encode, entries}
use Rattle.store.specs.WellFormed.{WellFormed}
use Rattle.store.specs.Request.{Work, work}
use Rattle.store.proofs.WellFormedLaws.{none-well_formed}
use Rattle.store.proofs.RequestLaws.{work-well_formed}
use Rattle.message.specs.declared.Command.{Command}
use Rattle.message.specs.declared.Task.{Task}
use Rattle.message.specs.declared.Task.TheVariants.{Requests, DeleteAll, EndOfUpdate}
use Rattle.message.specs.declared.Kind.{Kind}
use Rattle.message.specs.declared.Kind.TheVariants.{Asks, SessionInit, Other}
use Rattle.message.specs.Header.{transaction, sequence, kind}
use Rattle.message.specs.Body.{body_ok, requests, list_ok}
use Rattle.message.specs.Written.{reply_bytes}
use Rattle.session.specs.declared.Session.{Session}
use Rattle.session.specs.Sessions.{State, Closed, Waiting, Open, state_of, closing, opening}
use Rattle.session.specs.Rules.{reply, opened, Outcome, refuse, respond, header_tests, type_test, first_failed, Verdict, passed, failed, verdict, all_pass, heard, transaction_tests, obey, judged, opens, while_waiting, in_state, receive_in, receive}
use Rattle.session.proofs.RuleLaws.{Passed, verdict-passed, verdict-zero}
use Rattle.runs.specs.Calls.{reply_of}
use Rattle.runs.specs.Alike.{AlikeMessages}
use Rattle.runs.specs.Tally.{Tag, obeyed, tallied}
use Rattle.runs.proofs.EntryLaws.{no-entries}
use Rattle.runs.proofs.RequestLaws.{AlikeRequests, results-alike, work-alike}
use Rattle.message.proofs.ReadableLaws.{requests-readable}
use Rattle.runs.proofs.MessageLaws.{Reading, reading}
use Rattle.runs.proofs.TwinLaws.{Twins, encode-twins, twins_bounded, total-edition, well_formed, well_formed'}

pub record SameStep (L : Limits) (m m' : List ℕ) (ts : List Tag) (o o' : Outcome) : Type 0 where
  pub answer_is : o.answer ≡ o'.answer
  pub session_is : o.session ≡ o'.session
  pub output_is : o.output ≡ o'.output
  pub twins : Twins L (tallied m m' (reply_of o.answer o.output) ts) o.store o'.store

module _ (L : Limits) (m m' : List ℕ) (ts : List Tag) where
  refuse-same : (n : ℕ) (e : Session) (s s' out : List ℕ) → Twins L ts s s' → SameStep L m m' ts (refuse n e s out) (refuse n e s' out)
  unfolding refuse
  refuse-same n e s s' out v = record { answer_is = refl; session_is = refl; output_is = refl; twins = v }

  respond-same : (response : ℕ) (rs rs' : List ℕ) (then : State) (e : Session) (s s' out : List ℕ) → rs ≡ rs' → transaction m ≡ transaction m'
      → Twins L (tallied m m' (reply_bytes e.own e.peer (transaction m) e.next response rs) ts) s s'
      → SameStep L m m' ts (respond response rs then e m s out) (respond response rs' then e m' s' out)
  unfolding respond
  respond-same response rs rs' then e s s' out q t v =
      let W : List ℕ = reply_bytes e.own e.peer (transaction m) e.next response rs in
      let r : take (23 + length rs) (splice out 0 W) ≡ W = splice_front out W (23 + length rs) (omega arith) in
      record {
        answer_is = ap (λ (x : List ℕ). reply (23 + length x)) q;
        session_is = refl;
        output_is =
            ap (λ (x : List ℕ). splice out 0 (reply_bytes e.own e.peer (transaction m) e.next response x)) q
            ∙ ap (λ (x : ℕ). splice out 0 (reply_bytes e.own e.peer x e.next response rs')) t;
        twins = subst (λ (x : List ℕ). Twins L (tallied m m' x ts) s s') (sym r) v;
      }

  either_same : (b b' : Bool) (x y x' y' : Outcome) → b ≡ b' → SameStep L m m' ts x x' → SameStep L m m' ts y y' → SameStep L m m' ts (cond b x y) (cond b' x' y')
  either_same b b' x y x' y' q h k = subst (λ (c : Bool). SameStep L m m' ts (cond b x y) (cond c x' y')) q (go b)
    where
      go : (c : Bool) → SameStep L m m' ts (cond c x y) (cond c x' y')
      go true = h
      go false = k

module _ (L : Limits) (m m' : List ℕ) (ts : List Tag) (a : AlikeMessages m m') (s s' out : List ℕ) (v : Twins L ts s s') where
  x : Reading m m'
  x = reading m m' a

  -- ---- a message past all tests

  requests-same : (e : Session) (k : Command) → kind m ≡ Asks (Requests k) → body_ok (Requests k) m ≡ true → SameStep L m m' ts (obey L (Requests k) e m s out) (obey L (Requests k) e m' s' out)
  unfolding obey body_ok
  requests-same e k q h =
      let r : AlikeRequests (requests k m) (requests k m') = x.requests_are k q h in
      let h' : list_ok k m' ≡ true = sym (x.body_is (Requests k) q) ∙ h in
      let w : Work = work L e.own (requests k m) (entries L s) in
      let w' : Work = work L e.own (requests k m') (entries L s') in
      let W : List ℕ = reply_bytes e.own e.peer (transaction m) e.next 0 w.results in
      respond-same L m m' ts 0 w.results w'.results Open e (encode L w.left) (encode L w'.left) out (results-alike L e.own r v.alike) x.transaction_is
      (subst (λ (j : Kind). Twins L (obeyed j m m' W ts) (encode L w.left) (encode L w'.left)) (sym q)
      (encode-twins L (twins_bounded L v) (total-edition L v)
      (work-well_formed L e.own (requests k m) (entries L s) (requests-readable.readable k m a.bytes h) (well_formed L v))
      (work-well_formed L e.own (requests k m') (entries L s') (requests-readable.readable k m' a.bytes' h') (well_formed' L v))
      (work-alike L e.own r v.alike)))

  obey-same : (e : Session) (task : Task) → Passed m task → SameStep L m m' ts (obey L task e m s out) (obey L task e m' s' out)
  unfolding obey
  obey-same e (Requests k) h = requests-same e k h.kind_is h.body_fits
  obey-same e DeleteAll h =
      let W : List ℕ = reply_bytes e.own e.peer (transaction m) e.next 0 [] in
      let g : WellFormed L [] = none-well_formed L in
      respond-same L m m' ts 0 [] [] Open e (encode L []) (encode L []) out refl x.transaction_is
      (subst (λ (j : Kind). Twins L (obeyed j m m' W ts) (encode L []) (encode L [])) (sym h.kind_is) (encode-twins L (twins_bounded L v) (total-edition L v) g g no-entries))
  obey-same e EndOfUpdate h = record { answer_is = refl; session_is = refl; output_is = refl; twins = v }

  -- ---- the tests

  type_test-same : (k : Kind) → kind m ≡ k → type_test k L m s ≡ type_test k L m' s'
  type_test-same (Asks task) q = rw (x.body_is task q, v.sound_is, v.sound_is')
  type_test-same SessionInit q = refl
  type_test-same Other q = refl

  verdict-same : (e : Session) → verdict L e m s ≡ verdict L e m' s'
  unfolding verdict
  verdict-same e =
      rw (x.length_ok_lem, x.version_is, x.receiver_is, x.sender_is, x.sequence_is, x.transaction_is)
      (ap (λ (w : Verdict). first_failed (header_tests e m') (first_failed (transaction_tests e m') w)) (type_test-same (kind m) refl ∙ ap (λ (k : Kind). type_test k L m' s') x.kind_is))

  heard-same : (e : Session) → heard e m ≡ heard e m'
  unfolding heard all_pass
  heard-same e = rw (x.length_ok_lem, x.version_is, x.receiver_is, x.sender_is, x.sequence_is, x.transaction_is)

  -- the verdict on a session e, told by the session d
  judged-same : (e d : Session) (w : Verdict) → verdict L e m s ≡ w → SameStep L m m' ts (judged w L d m s out) (judged w L d m' s' out)
  judged-same e d (passed task) h = obey-same d task (verdict-passed L e m s task h)
  judged-same e d (failed response then) h =
      respond-same L m m' ts response [] [] then d s s' out refl x.transaction_is
      (subst (λ (b : Bool). Twins L (cond b (obeyed (kind m) m m' (reply_bytes d.own d.peer (transaction m) d.next response []) ts) ts) s s') (sym (verdict-zero L e m s response then h)) v)

  open_same : (e : Session) → SameStep L m m' ts (judged (verdict L e m s) L (heard e m) m s out) (judged (verdict L e m' s') L (heard e m') m' s' out)
  open_same e =
      let w = verdict L e m s in
      subst (λ (w' : Verdict). SameStep L m m' ts (judged w L (heard e m) m s out) (judged w' L (heard e m') m' s' out)) (verdict-same e)
      (subst (λ (d : Session). SameStep L m m' ts (judged w L (heard e m) m s out) (judged w L d m' s' out)) (heard-same e)
      (judged-same e (heard e m) w refl))

  -- ---- the states

  waiting-same : (e : Session) → SameStep L m m' ts (while_waiting e m s out) (while_waiting e m' s' out)
  unfolding while_waiting
  waiting-same e =
      either_same L m m' ts (opens e m) (opens e m')
      (record { answer = opened; session = opening e (sequence m); store = s; output = out }) (refuse 5 (closing e) s out)
      (record { answer = opened; session = opening e (sequence m'); store = s'; output = out }) (refuse 5 (closing e) s' out)
      (x.opens_is e)
      (record { answer_is = refl; session_is = ap (opening e) x.sequence_is; output_is = refl; twins = v })
      (refuse-same L m m' ts 5 (closing e) s s' out v)

  -- a message of a header's length at least
  long_same : (e : Session) (o o' : Outcome) → SameStep L m m' ts o o' → SameStep L m m' ts (cond (leb 20 (length m)) o (refuse 4 e s out)) (cond (leb 20 (length m')) o' (refuse 4 e s' out))
  long_same e o o' h =
      either_same L m m' ts (leb 20 (length m)) (leb 20 (length m')) o (refuse 4 e s out) o' (refuse 4 e s' out) (ap (leb 20) x.long) h (refuse-same L m m' ts 4 e s s' out v)

  state-same : (e : Session) (t : State) → SameStep L m m' ts (in_state t L e m s out) (in_state t L e m' s' out)
  unfolding in_state
  state-same e Closed = refuse-same L m m' ts 3 e s s' out v
  state-same e Waiting = long_same e (while_waiting e m s out) (while_waiting e m' s' out) (waiting-same e)
  state-same e Open = long_same e (judged (verdict L e m s) L (heard e m) m s out) (judged (verdict L e m' s') L (heard e m') m' s' out) (open_same e)

  pub receive-same : (e : Session) → SameStep L m m' ts (receive e m s out) (receive e m' s' out)
  unfolding receive receive_in
  receive-same e =
      rw (v.edition, v.edition')
      (either_same L m m' ts (leb 1032 (length out)) (leb 1032 (length out)) (in_state (state_of e.state) L e m s out) (refuse 2 e s out)
      (in_state (state_of e.state) L e m' s' out) (refuse 2 e s' out) refl (state-same e (state_of e.state)) (refuse-same L m m' ts 2 e s s' out v))
