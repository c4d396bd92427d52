-- The claims of specs/Claims.antt, proved.
-- Assumes nothing.
use Rattle.std.proofs.Common.{◌≡◌, ℕ, ◌+◌, ◌<◌, ◌≤◌, eqb, leb, List, [], length, get_or, take, sym, refl, ap, ◌∙◌, arith, lit≤, length-take-le, get_or-take, eqb-true, leb-true}
use Rattle.octets.specs.Bytes.{splice}
use Rattle.octets.proofs.BoolLaws.{and_left}
use Rattle.store.specs.declared.Limits.{Limits}
use Rattle.message.specs.declared.Task.{Task}
use Rattle.message.specs.declared.Task.TheVariants.{Requests, DeleteAll, EndOfUpdate}
use Rattle.store.specs.Store.{entries}
use Rattle.message.specs.Header.{message_length}
use Rattle.message.specs.Body.{request_number, requests}
use Rattle.message.proofs.BodyLaws.{listed}
use Rattle.command.proofs.WorkLaws.{results-length}
use Rattle.session.specs.declared.Session.{Session}
use Rattle.session.specs.Sessions.{closing, Beginning, begin_output}
use Rattle.session.specs.Rules.{Answered, reply, opened, ended, refused, Outcome, refuse, respond, heard, obey, receive}
use Rattle.session.specs.Claims.{RefusalWritesNothing, OnlyZeroChangesStore, TornLeavesStore, RefusalLeavesSession, OnlyRepliesWrite, ReplyLength}
use Rattle.session.proofs.RuleLaws.{apart, Passed, verdict-passed, receive-ends}

-- ---- what is no reply writes nothing

-- what is no reply leaves the store, and the output
record Quiet (s out : List ℕ) (o : Outcome) : Type 0 where
  pub store_kept : ((n : ℕ) → o.answer ≡ reply n → ⊥) → o.store ≡ s
  pub output_kept : ((n : ℕ) → o.answer ≡ reply n → ⊥) → o.output ≡ out

replies : (s out : List ℕ) (o : Outcome) (n : ℕ) → o.answer ≡ reply n → Quiet s out o
replies s out o n q = record { store_kept = λ f. absurd (f n q); output_kept = λ f. absurd (f n q) }

quiet : (e : Session) (m s out : List ℕ) → Quiet s out (receive e m s out)
unfolding refuse respond obey
quiet e m s out =
    receive-ends (Quiet s out) e m s out (λ n h. record { store_kept = λ f. refl; output_kept = λ f. refl })
    (record { store_kept = λ f. refl; output_kept = λ f. refl }) (record { store_kept = λ f. refl; output_kept = λ f. refl })
    (λ L t response then h. replies s out (respond response [] then (heard e m) m s out) 23 refl) (λ L t task h. obeyed (heard e m) L task)
  where
    obeyed : (d : Session) (L : Limits) (task : Task) → Quiet s out (obey L task d m s out)
    obeyed d L (Requests k) = replies s out (obey L (Requests k) d m s out) _ refl
    obeyed d L DeleteAll = replies s out (obey L DeleteAll d m s out) 23 refl
    obeyed d L EndOfUpdate = record { store_kept = λ f. refl; output_kept = λ f. refl }

pub only_replies_write : OnlyRepliesWrite
only_replies_write = record { of_store = λ e m s out. (quiet e m s out).store_kept; of_output = λ e m s out. (quiet e m s out).output_kept }

-- a refusal is no reply
no-reply : (a : Answered) (k n : ℕ) → a ≡ refused k → a ≡ reply n → ⊥
no-reply a k n p q = apart (refused k) (reply n) refl (sym p ∙ q)

pub refusal_writes_nothing : RefusalWritesNothing
refusal_writes_nothing =
    record {
      of_begin = λ own peer start out n q. ap (λ (b : Beginning). begin_output b own peer start out) q;
      of_store = λ e m s out n q. (quiet e m s out).store_kept (λ k. no-reply (receive e m s out).answer n k q);
      of_output = λ e m s out n q. (quiet e m s out).output_kept (λ k. no-reply (receive e m s out).answer n k q);
    }

-- ---- RESPONSE 0

-- where byte 20 of a reply is not 0, the store is as it was
record Kept (s : List ℕ) (n : ℕ) (o : Outcome) : Type 0 where
  pub kept : o.answer ≡ reply n → (get_or o.output 20 0 ≡ 0 → ⊥) → o.store ≡ s

obey-zero : (e : Session) (m s out : List ℕ) (n : ℕ) (L : Limits) (task : Task) → Kept s n (obey L task e m s out)
unfolding obey respond splice
obey-zero e m s out n L (Requests k) = record { kept = λ q f. absurd (f refl) }
obey-zero e m s out n L DeleteAll = record { kept = λ q f. absurd (f refl) }
obey-zero e m s out n L EndOfUpdate = record { kept = λ q f. refl }

pub only_zero_changes_store : OnlyZeroChangesStore
unfolding refuse respond
only_zero_changes_store =
    record {
      kept = λ e m s out n.
          (receive-ends (Kept s n) e m s out (λ k h. record { kept = λ q f. refl }) (record { kept = λ q f. refl }) (record { kept = λ q f. refl })
          (λ L t response then h. record { kept = λ q f. refl }) (λ L t task h. obey-zero (heard e m) m s out n L task)).kept;
    }

-- ---- a torn message

-- the store is as it was where no command is obeyed
store-left : (e : Session) (m s out : List ℕ) → (20 ≤ length m → message_length m ≡ length m → ⊥) → (receive e m s out).store ≡ s
unfolding refuse respond
store-left e m s out f =
    receive-ends (λ o. o.store ≡ s) e m s out (λ n h. refl) refl refl (λ L t response then h. refl)
    (λ L t task h. absurd (f t.whole_header (eqb-true (message_length m) (length m) (and_left (eqb (message_length m) (length m)) (leb (length m) 5000) (verdict-passed L e m s task h).length_ok_lem))))

-- a prefix with a whole length field has the message's
prefix-length : (m : List ℕ) (k : ℕ) → 4 ≤ k → message_length (take k m) ≡ message_length m
prefix-length m k h =
    let h0 : 0 < k = omega arith in
    let h1 : 1 < k = omega arith in
    let h2 : 2 < k = omega arith in
    let h3 : 3 < k = omega arith in
    rw (get_or-take k m 0 0 h0, get_or-take k m 1 0 h1, get_or-take k m 2 0 h2, get_or-take k m 3 0 h3)

pub torn_leaves_store : TornLeavesStore
torn_leaves_store =
    record {
      wrong_length = λ e m s out f. store-left e m s out (λ l q. f q);
      prefix = λ e m s out k h q.
          let n : length (take k m) ≡ k = length-take-le k m (omega arith) in
          store-left e (take k m) s out (λ l p.
          let b : message_length (take k m) ≡ message_length m = prefix-length m k (omega arith) in
          let c : length m ≡ k = sym q ∙ sym b ∙ p ∙ n in
          omega arith);
    }

-- ---- the session that a refusal leaves

record Leaves (e : Session) (n : ℕ) (o : Outcome) : Type 0 where
  pub as_it_was : o.answer ≡ refused n → (n ≡ 5 → ⊥) → o.session ≡ e
  pub closed : o.answer ≡ refused n → n ≡ 5 → o.session ≡ closing e

not-refused : (e : Session) (n : ℕ) (o : Outcome) → (o.answer ≡ refused n → ⊥) → Leaves e n o
not-refused e n o f = record { as_it_was = λ q g. absurd (f q); closed = λ q g. absurd (f q) }

leaves : (e : Session) (m s out : List ℕ) (n : ℕ) → Leaves e n (receive e m s out)
unfolding refuse respond obey
leaves e m s out n =
    receive-ends (Leaves e n) e m s out
    (λ k h. record { as_it_was = λ q f. refl; closed = λ q f. let j : k ≡ n = cc in absurd (let g : k ≤ 4 = leb-true k 4 h in omega arith) })
    (record { as_it_was = λ q f. let j : 5 ≡ n = cc in absurd (f (sym j)); closed = λ q f. refl })
    (not-refused e n _ (apart opened (refused n) refl))
    (λ L t response then h. not-refused e n (respond response [] then (heard e m) m s out) (λ q. no-reply _ n 23 q refl))
    (λ L t task h. obeyed (heard e m) L task)
  where
    obeyed : (d : Session) (L : Limits) (task : Task) → Leaves e n (obey L task d m s out)
    obeyed d L (Requests k) = not-refused e n (obey L (Requests k) d m s out) (λ q. no-reply _ n _ q refl)
    obeyed d L DeleteAll = not-refused e n (obey L DeleteAll d m s out) (λ q. no-reply _ n 23 q refl)
    obeyed d L EndOfUpdate = not-refused e n (obey L EndOfUpdate d m s out) (apart ended (refused n) refl)

pub refusal_leaves_session : RefusalLeavesSession
refusal_leaves_session =
    record { as_it_was = λ e m s out n. (leaves e m s out n).as_it_was; closed = λ e m s out q. (leaves e m s out 5).closed q refl }

-- ---- the length of a reply

record Long (n : ℕ) (o : Outcome) : Type 0 where
  pub from : o.answer ≡ reply n → 23 ≤ n
  pub to : o.answer ≡ reply n → n ≤ 523

-- a reply with few RESULTs, and an answer that is no reply
few-results : (n k : ℕ) (o : Outcome) → o.answer ≡ reply (23 + k) → k ≤ 500 → Long n o
few-results n k o p h =
    record { from = λ q. let j : 23 + k ≡ n = cc in omega arith; to = λ q. let j : 23 + k ≡ n = cc in omega arith }

not-replied : (n : ℕ) (o : Outcome) → (o.answer ≡ reply n → ⊥) → Long n o
not-replied n o f = record { from = λ q. absurd (f q); to = λ q. absurd (f q) }

long : (e : Session) (m s out : List ℕ) (n : ℕ) → Long n (receive e m s out)
unfolding refuse respond obey requests
long e m s out n =
    receive-ends (Long n) e m s out (λ k h. not-replied n (refuse k e s out) (no-reply _ k n refl))
    (not-replied n (refuse 5 (closing e) s out) (no-reply _ 5 n refl))
    (not-replied n _ (apart opened (reply n) refl))
    (λ L t response then h. few-results n 0 (respond response [] then (heard e m) m s out) refl (lit≤ tt))
    (λ L t task h. obeyed (heard e m) L task (verdict-passed L e m s task h))
  where
    obeyed : (d : Session) (L : Limits) (task : Task) → Passed m task → Long n (obey L task d m s out)
    obeyed d L (Requests k) h =
        let c = request_number m in
        few-results n c (obey L (Requests k) d m s out) (ap (λ (x : ℕ). reply (23 + x)) (results-length L d.own k m c 22 (entries L s))) (listed k m h.body_fits).few
    obeyed d L DeleteAll h = few-results n 0 (obey L DeleteAll d m s out) refl (lit≤ tt)
    obeyed d L EndOfUpdate h = not-replied n (obey L EndOfUpdate d m s out) (apart ended (reply n) refl)

pub reply-length : ReplyLength
reply-length = record { from = λ e m s out n. (long e m s out n).from; to = λ e m s out n. (long e m s out n).to }
