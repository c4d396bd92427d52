-- The proofs of what specs/Claims.antt claims.
-- Assumes nothing.
use mathlib.Core.Path.{◌≡◌, refl, sym, ap, ◌∙◌, subst}
use mathlib.Core.Bool.{Bool, true, false, cond}
use mathlib.Core.List.{List, [], ◌∷◌, ◌++◌}
use Prim.Native.Nat.{ℕ, ◌<◌}
use native.Mathlib.Omega.{arith}
use lib.Dec.{lit<, eqb}
use lib.ListN.{replicate}
use borrow.Author.Tests.{eqb-false, ne_eqb}
use Rattle.octets.specs.Bytes.{Bytes, be16, be32, nonzero}
use Rattle.octets.proofs.WordLaws.{get16-fits, get32-fits, get16-be16, get32-be32}
use Rattle.session.specs.declared.Session.{Session}
use Rattle.session.specs.Sessions.{State, Closed, Waiting, Open, up, closing, opening, remembering, replied, Beginning, begins, begin}
use Rattle.session.specs.Rules.{Answered, reply, opened, ended, refused, Outcome, receive}
use Rattle.session.proofs.SessionLaws.{begin-made}
use Rattle.session.proofs.StateLaws.{session-ends}
use Rattle.session.proofs.Theorems.{refusal_leaves_session}
use Rattle.session_buffer.specs.SessionBuffer.{flag, session_bytes, session_of, begun_buffer, writes_session, session_after}
use Rattle.session_buffer.specs.Claims.{ReadAsWritten, ZerosAreClosed, RefusalLeavesBuffer, SessionsChain}

-- ---- a session as bytes

alike : (state : ℕ) {own own' peer peer' next next' expected expected' transaction transaction' : ℕ} {remembered remembered' : Bool}
    → own ≡ own' → peer ≡ peer' → next ≡ next' → expected ≡ expected' → remembered ≡ remembered' → transaction ≡ transaction'
    → ◌≡◌ {A = Session} (record { state = state; own = own; peer = peer; next = next; expected = expected; remembered = remembered; transaction = transaction })
    (record { state = state; own = own'; peer = peer'; next = next'; expected = expected'; remembered = remembered'; transaction = transaction' })
alike state p q r t u v = cc

nonzero-flag : (b : Bool) → nonzero (flag b) ≡ b
nonzero-flag true = refl
nonzero-flag false = refl

pub read_as_written : ReadAsWritten
read_as_written =
    record {
      same = λ e a b c d f g.
          let zeros : List ℕ = replicate 14 0 in
          let t = be32 e.transaction ++ zeros in
          let p = be32 e.peer ++ t in
          let o = be32 e.own ++ p in
          let x = be16 e.expected ++ o in
          let head : List ℕ = e.state ∷ flag e.remembered ∷ [] in
          let n1 = get16-be16 head x e.next 2 refl b in
          let n2 = get16-be16 (head ++ be16 e.next) o e.expected 4 refl c in
          let n3 = get32-be32 (head ++ (be16 e.next ++ be16 e.expected)) p e.own 6 refl d in
          let n4 = get32-be32 (head ++ (be16 e.next ++ (be16 e.expected ++ be32 e.own))) t e.peer 10 refl f in
          let n5 = get32-be32 (head ++ (be16 e.next ++ (be16 e.expected ++ (be32 e.own ++ be32 e.peer)))) zeros e.transaction 14 refl g in
          alike e.state n3 n4 n1 n2 (nonzero-flag e.remembered) n5;
    }

pub zeros_are_closed : ZerosAreClosed
zeros_are_closed = record { closed = refl }

pub refusal_leaves_buffer : RefusalLeavesBuffer
refusal_leaves_buffer =
    record {
      as_it_was = λ e m s out before n q f. ap (λ (a : Answered). cond (writes_session a) (session_bytes (receive e m s out).session) before) q ∙ unwritten e m s out before n f;
      closed = λ e m s out before q.
          ap (λ (a : Answered). cond (writes_session a) (session_bytes (receive e m s out).session) before) q ∙ ap session_bytes (refusal_leaves_session.closed e m s out q);
    }
  where
    unwritten : (e : Session) (m s out before : List ℕ) (n : ℕ) → (n ≡ 5 → ⊥) → cond (eqb n 5) (session_bytes (receive e m s out).session) before ≡ before
    unwritten e m s out before n f = ap (λ (b : Bool). cond b (session_bytes (receive e m s out).session) before) (ne_eqb n 5 f)

-- ---- calls chain

-- the fields fit their bytes
record Fitting (e : Session) : Type 0 where
  state_fits : e.state < 256
  next_fits : e.next < 65536
  expected_fits : e.expected < 65536
  own_fits : e.own < 4294967296
  peer_fits : e.peer < 4294967296
  transaction_fits : e.transaction < 4294967296

session_of-session_bytes : (e : Session) → Fitting e → session_of (session_bytes e) ≡ e
session_of-session_bytes e f = read_as_written.same e f.state_fits f.next_fits f.expected_fits f.own_fits f.peer_fits f.transaction_fits

session_of-fits : (b : List ℕ) → Bytes b → Fitting (session_of b)
session_of-fits b h =
    record {
      state_fits = h 0;
      next_fits = get16-fits b h 2;
      expected_fits = get16-fits b h 4;
      own_fits = get32-fits b h 6;
      peer_fits = get32-fits b h 10;
      transaction_fits = get32-fits b h 14;
    }

module _ (e : Session) (f : Fitting e) where
  -- whatever becomes of the state and the numbers, they fit, and the identities stay
  moved-fits : (state next expected : ℕ) (remembered : Bool) (transaction : ℕ) → state < 256 → next < 65536 → expected < 65536 → transaction < 4294967296
      → Fitting (record { state = state; own = e.own; peer = e.peer; next = next; expected = expected; remembered = remembered; transaction = transaction })
  moved-fits state next expected remembered transaction a b c d =
      record { state_fits = a; next_fits = b; expected_fits = c; own_fits = f.own_fits; peer_fits = f.peer_fits; transaction_fits = d }

  replied-fits : (then : State) → Fitting (replied e then)
  replied-fits Closed = moved-fits 0 (up e.next) e.expected e.remembered e.transaction (lit< tt) (omega arith) f.expected_fits f.transaction_fits
  replied-fits Waiting = moved-fits 1 (up e.next) e.expected e.remembered e.transaction (lit< tt) (omega arith) f.expected_fits f.transaction_fits
  replied-fits Open = moved-fits 2 (up e.next) (up e.expected) e.remembered e.transaction (lit< tt) (omega arith) (omega arith) f.transaction_fits

  closing-fits : Fitting (closing e)
  closing-fits = moved-fits 0 e.next e.expected e.remembered e.transaction (lit< tt) f.next_fits f.expected_fits f.transaction_fits

  opening-fits : (n : ℕ) → Fitting (opening e n)
  opening-fits n = moved-fits 2 e.next (up n) false 0 (lit< tt) f.next_fits (omega arith) (lit< tt)

  remembering-fits : (n : ℕ) → n < 4294967296 → Fitting (remembering e n)
  remembering-fits n h = moved-fits e.state e.next e.expected true n f.state_fits f.next_fits f.expected_fits h

receive-fits : (e : Session) → Fitting e → (m s out : List ℕ) → Bytes m → Fitting (receive e m s out).session
receive-fits e f m s out h =
    session-ends Fitting e m s out f (remembering-fits e f _ (get32-fits m h _)) closing-fits (opening-fits e f) (λ d then g. replied-fits d g then)

-- the buffer after an outcome is read as its session: where it is written, and where a refusal leaves both
session_of-session_after : (o : Outcome) (b : List ℕ) → Fitting o.session → (a : Answered) → o.answer ≡ a → ((n : ℕ) → o.answer ≡ refused n → (n ≡ 5 → ⊥) → o.session ≡ session_of b)
    → session_of (session_after o b) ≡ o.session
session_of-session_after o b f (reply n) q k = rw q (session_of-session_bytes o.session f)
session_of-session_after o b f opened q k = rw q (session_of-session_bytes o.session f)
session_of-session_after o b f ended q k = rw q (session_of-session_bytes o.session f)
session_of-session_after o b f (refused n) q k = rw q (go (eqb n 5) refl)
  where
    go : (five : Bool) → eqb n 5 ≡ five → session_of (cond five (session_bytes o.session) b) ≡ o.session
    go true h = session_of-session_bytes o.session f
    go false h = sym (k n q (eqb-false n 5 h))

begin-fits : (own peer number : ℕ) (out : List ℕ) (e : Session) (n : ℕ) → own < 4294967296 → peer < 4294967296 → begin own peer number out ≡ begins e n → Fitting e
begin-fits own peer number out e n h k q =
    subst Fitting (begin-made own peer number out e n q).0
    (record { state_fits = lit< tt; next_fits = omega arith; expected_fits = lit< tt; own_fits = h; peer_fits = k; transaction_fits = lit< tt })

pub sessions_chain : SessionsChain
sessions_chain =
    record {
      of_message = chained;
      of_receive = λ b m s out h k told after store output t. ap session_of t.session_is ∙ chained b m s out h k;
      of_begin = λ own peer number out b h k e n q. ap (λ (x : Beginning). session_of (begun_buffer x b)) q ∙ session_of-session_bytes e (begin-fits own peer number out e n h k q);
      of_refused_begin = λ own peer number out b n q. ap (λ (x : Beginning). session_of (begun_buffer x b)) q;
    }
  where
    chained : (b m s out : List ℕ) → Bytes b → Bytes m → session_of (session_after (receive (session_of b) m s out) b) ≡ (receive (session_of b) m s out).session
    chained b m s out h k =
        let e : Session = session_of b in
        session_of-session_after (receive e m s out) b (receive-fits e (session_of-fits b h) m s out k) (receive e m s out).answer refl (refusal_leaves_session.as_it_was e m s out)
