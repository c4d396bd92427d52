-- What refuses a step: the output's length, the length of user data to send, and the search where the table starts set-up.
-- Assumes nothing.
use Rattle.std.specs.Prelude.{Ok}
use mathlib.Core.Path.{◌≡◌, refl, sym, ap, ◌∙◌}
use mathlib.Core.Bool.{Bool, true, false, ◌&&◌}
use mathlib.Core.List.{List}
use mathlib.Core.Logic.{◌⊎◌, inl, inr}
use Prim.Native.Nat.{ℕ, ◌<◌}
use native.Mathlib.Omega.{arith}
use lib.Dec.{leb, ltb}
use lib.ListN.{length}
use borrow.Author.Tests.{le-leb, lt-leb}
use Rattle.octets.specs.Bytes.{between}
use Rattle.octets.proofs.BoolLaws.{clash, and_both, and_false_left, and_false_right, between-true, is-between}
use Rattle.refusal.specs.House.{house, gives}
use Rattle.store.specs.declared.Limits.{Limits}
use Rattle.std.specs.Prelude.{Option, Some, None}
use Rattle.store.specs.Layout.{edition_of}
use Rattle.store.specs.Store.{entries, sound}
use Rattle.store.specs.Search.{Finding, place_in, or_else, chosen, find_in}
use Rattle.store.specs.Search as Held
use Rattle.store.proofs.Theorems.{unsound-exactly, no-key-exactly}
use Rattle.units.specs.Units.{Fault, type_of, sender_of, random, au1_fault}
use Rattle.table.specs.declared.Connection.{Connection}
use Rattle.table.specs.declared.State.{State}
use Rattle.table.specs.declared.State.TheVariants.{IDLE, WFTC, WFAU3}
use Rattle.table.specs.declared.ToTransport.{ToTransport}
use Rattle.table.specs.declared.ToTransport.TheVariants.{Quiet, TConnReq, TConnResp, TDiscReq, TDiscReqDi, SendAu3, SendAr, SendDt}
use Rattle.table.specs.declared.Timer.TheVariants.{Keep}
use Rattle.table.specs.Table.{SaConnReq, TConnInd, ok, no, to, square_of, a5, table, state_of, row_in, square}
use Rattle.table.specs.Steps.{calling, called, unless, typed, found, if_types, Input, connect_request, connect_response, data_request, disconnect_request, connect_indication, connect_confirmation, disconnect_indication, unit_indication, time_out, asked, sendable, starts_set_up, refused, Outcome, perform}
use Rattle.table.specs.Claims.{Calls, CalledBy, Unsendable, RefusedFirst, SearchDecides, SearchRefuses, RefusalLeaves}
use Rattle.table.proofs.StepLaws.{meets, step-short, step-unsendable, step-performs, step-unfound}
use Rattle.table.proofs.EndLaws.{Ends, short, unsendable, unfound, performed, step-ends, step-refused}
use Rattle.table.proofs.JudgeLaws.{au1_sent, au2_sent}

-- ---- the search

-- H1, H12 and H11 alone
found-numbers : (store : List ℕ) (own peer t n : ℕ) → found store own peer t ≡ house n → (n ≡ 1) ⊎ ((n ≡ 12) ⊎ (n ≡ 11))
unfolding found Held.find find_in
found-numbers store own peer t n e = of_edition (edition_of (length store)) (leb (type_of own) 7 && leb (type_of peer) 7) e
  where
    of_tests : (x y b : Bool) (place end : ℕ) → if_types b (place_in (or_else x 12 (or_else y 11 (Held.found place end)))) ≡ house n → (n ≡ 1) ⊎ ((n ≡ 12) ⊎ (n ≡ 11))
    of_tests false y b place end e = inr (inl (cc))
    of_tests true false b place end e = inr (inr (cc))
    of_tests true true false place end e = inr (inr (cc))
    of_tests true true true place end e = let z : ◌≡◌ {A = ℕ} 0 1 = cc in absurd (omega arith)

    of_edition : (E : Option Limits) (b : Bool) → if_types b (place_in (find_in E store peer t)) ≡ house n → (n ≡ 1) ⊎ ((n ≡ 12) ⊎ (n ≡ 11))
    of_edition None b e = inl (cc)
    of_edition (Some L) b e = of_tests (sound L store) (ltb (chosen peer t (entries L store)).place (length (entries L store))) b _ _ e

found-unfound : (store : List ℕ) (own peer t n : ℕ) → Held.find store peer t ≡ Held.unfound n → found store own peer t ≡ house n
unfolding found
found-unfound store own peer t n e = ap (λ (f : Finding). if_types (leb (type_of own) 7 && leb (type_of peer) 7) (place_in f)) e

unknown-store : (store : List ℕ) (peer t : ℕ) → edition_of (length store) ≡ None → Held.find store peer t ≡ Held.unfound 1
unfolding Held.find find_in
unknown-store store peer t e = ap (λ (E : Option Limits). find_in E store peer t) e

-- over a sound store a type over 7 is H11 whether a key serves or not
type_over : (L : Limits) (store : List ℕ) (own peer t : ℕ) → edition_of (length store) ≡ Some L → sound L store ≡ true → (leb (type_of own) 7 && leb (type_of peer) 7) ≡ false
    → found store own peer t ≡ house 11
unfolding found Held.find find_in
type_over L store own peer t e s b =
    ap (λ (b : Bool). if_types b (place_in (Held.find store peer t))) b ∙ ap (λ (E : Option Limits). if_types false (place_in (find_in E store peer t))) e
    ∙ of_tests (sound L store) (ltb (chosen peer t (entries L store)).place (length (entries L store))) _ _ s
  where
    of_tests : (x y : Bool) (place end : ℕ) → x ≡ true → if_types false (place_in (or_else x 12 (or_else y 11 (Held.found place end)))) ≡ house 11
    of_tests true true place end h = refl
    of_tests true false place end h = refl
    of_tests false y place end h = clash false h refl

-- ---- the two events that start set-up

request-row : square SaConnReq IDLE ok ≡ square_of no TConnReq a5 (to WFTC)
unfolding square row_in table
request-row = refl

indication-row : square TConnInd IDLE ok ≡ square_of no TConnResp Keep (to WFAU3)
unfolding square row_in table
indication-row = refl

of_caller : (own peer t : ℕ) (rb store : List ℕ)
    → SearchDecides (connect_request true own peer t rb store) (found store own peer t) (calling own peer rb (Held.key store peer t))
unfolding asked perform
of_caller own peer t rb store =
    let i = connect_request true own peer t rb store in
    let q = square_of no TConnReq a5 (to WFTC) in
    record {
      refused_by = λ c out n e l f. step-unfound i c out q n l refl (ap (λ (s : State). square SaConnReq s ok) e ∙ request-row) f;
      starts = λ c out place e l f.
          ap (λ (o : Outcome). o.connection) (step-performs i c out q place l refl (ap (λ (s : State). square SaConnReq s ok) e ∙ request-row) f);
    }

of_called : (own t : ℕ) (ra unit store : List ℕ) → au1_fault unit ≡ Ok tt
    → SearchDecides (connect_indication true own t ra unit store) (found store own (sender_of unit) t)
    (called own (sender_of unit) ra (random unit) (Held.key store (sender_of unit) t))
unfolding asked perform
of_called own t ra unit store g =
    let i = connect_indication true own t ra unit store in
    let q = square_of no TConnResp Keep (to WFAU3) in
    record {
      refused_by = λ c out n e l f. step-unfound i c out q n l refl (meets-row (state_of c.state) e) f;
      starts = λ c out place e l f. ap (λ (o : Outcome). o.connection) (step-performs i c out q place l refl (meets-row (state_of c.state) e) f);
    }
  where
    meets-row : (s : State) → s ≡ IDLE → square TConnInd s (unless 1 (typed true (au1_fault unit))).when ≡ square_of no TConnResp Keep (to WFAU3)
    meets-row s e =
        ap (λ (s : State). square TConnInd s (unless 1 (typed true (au1_fault unit))).when) e
        ∙ ap (λ (f : Fault). square TConnInd IDLE (unless 1 (typed true f)).when) g ∙ indication-row

-- no other event starts set-up, and so none else is refused by a search
started : (i : Input) (c : Connection) (down : ToTransport) → (meets i c).down ≡ down → starts_set_up down ≡ true → Calls i c ⊎ CalledBy i c
started i c TConnReq e h = inl (au1_sent i c e)
started i c TConnResp e h = inr (au2_sent i c e)
started i c Quiet e h = clash false h refl
started i c TDiscReq e h = clash false h refl
started i c TDiscReqDi e h = clash false h refl
started i c SendAu3 e h = clash false h refl
started i c SendAr e h = clash false h refl
started i c SendDt e h = clash false h refl

only_there : (i : Input) (c : Connection) (out : List ℕ) {o : Outcome} → Ends i c out o → (n : ℕ) → o.answer ≡ refused n
    → (n ≡ 2) ⊎ ((n ≡ 10) ⊎ (Calls i c ⊎ CalledBy i c))
unfolding perform
only_there i c out (short h) n e = inl (cc)
only_there i c out (unsendable h) n e = inr (inl (cc))
only_there i c out (unfound m h f) n e = inr (inr (started i c (meets i c).down refl h))
only_there i c out (performed f) n e = let z : ◌≡◌ {A = ℕ} 0 1 = cc in absurd (omega arith)

pub search-refuses : SearchRefuses
unfolding found
search-refuses =
    record {
      of_caller = of_caller;
      of_called = of_called;
      h1 = λ store own peer t e. found-unfound store own peer t 1 (unknown-store store peer t e);
      h12 = λ L store own peer t e s. found-unfound store own peer t 12 (unsound-exactly.unsound L store peer t e s);
      h11 = λ L store own peer t e s f. found-unfound store own peer t 11 (no-key-exactly.no_key L store peer t e s f);
      h11_types = λ L store own peer t e s h. type_over L store own peer t e s (over own peer h);
      only = found-numbers;
      searched = λ store own peer t place end e p q.
          ap (λ (f : Finding). if_types (leb (type_of own) 7 && leb (type_of peer) 7) (place_in f)) e
          ∙ ap (λ (b : Bool). if_types b (gives place)) (and_both (leb (type_of own) 7) (leb (type_of peer) 7) (le-leb (type_of own) 7 p) (le-leb (type_of peer) 7 q));
      only_there = λ i c out. only_there i c out (step-ends i c out);
    }
  where
    over : (own peer : ℕ) → (7 < type_of own) ⊎ (7 < type_of peer) → (leb (type_of own) 7 && leb (type_of peer) 7) ≡ false
    over own peer (inl h) = and_false_left (leb (type_of own) 7) (leb (type_of peer) 7) (lt-leb (type_of own) 7 h)
    over own peer (inr h) = and_false_right (leb (type_of own) 7) (leb (type_of peer) 7) (lt-leb (type_of peer) 7 h)

-- ---- H2 and H10, and the search alone after them

asked-numbers : (i : Input) (c : Connection) (n : ℕ) → (asked i c).search ≡ house n → (n ≡ 1) ⊎ ((n ≡ 12) ⊎ (n ≡ 11))
unfolding asked
asked-numbers (connect_request acceptable own peer t rb store) c n e = found-numbers store own peer t n e
asked-numbers connect_response c n e = let z : ◌≡◌ {A = ℕ} 0 1 = cc in absurd (omega arith)
asked-numbers (data_request sent) c n e = let z : ◌≡◌ {A = ℕ} 0 1 = cc in absurd (omega arith)
asked-numbers (disconnect_request reason sub) c n e = let z : ◌≡◌ {A = ℕ} 0 1 = cc in absurd (omega arith)
asked-numbers (connect_indication acceptable own t ra unit store) c n e = found-numbers store own (sender_of unit) t n e
asked-numbers (connect_confirmation unit) c n e = let z : ◌≡◌ {A = ℕ} 0 1 = cc in absurd (omega arith)
asked-numbers (disconnect_indication reason unit) c n e = let z : ◌≡◌ {A = ℕ} 0 1 = cc in absurd (omega arith)
asked-numbers (unit_indication kind unit) c n e = let z : ◌≡◌ {A = ℕ} 0 1 = cc in absurd (omega arith)
asked-numbers time_out c n e = let z : ◌≡◌ {A = ℕ} 0 1 = cc in absurd (omega arith)

neither : {A : Type 0} (n m : ℕ) → n ≡ m → (m ≡ 1 → ⊥) → (m ≡ 12 → ⊥) → (m ≡ 11 → ⊥) → (n ≡ 1) ⊎ ((n ≡ 12) ⊎ (n ≡ 11)) → A
neither n m e a b c (inl h) = absurd (a (sym e ∙ h))
neither n m e a b c (inr (inl h)) = absurd (b (sym e ∙ h))
neither n m e a b c (inr (inr h)) = absurd (c (sym e ∙ h))

only-short : (i : Input) (c : Connection) (out : List ℕ) {o : Outcome} → Ends i c out o → o.answer ≡ refused 2 → length out < 1032
unfolding perform
only-short i c out (short h) e = h
only-short i c out (unsendable h) e = let z : ◌≡◌ {A = ℕ} 10 2 = cc in absurd (omega arith)
only-short i c out (unfound n h f) e = neither n 2 (cc) (λ p. omega arith) (λ p. omega arith) (λ p. omega arith) (asked-numbers i c n f)
only-short i c out (performed f) e = let z : ◌≡◌ {A = ℕ} 0 1 = cc in absurd (omega arith)

wrong_length : (i : Input) → sendable i ≡ false → Unsendable i
wrong_length (data_request sent) e =
    record { sent = sent; event_is = refl; length_wrong = λ h. clash (between 1 1023 (length sent)) (is-between 1 1023 (length sent) h.0 h.1) e }
wrong_length (connect_request acceptable own peer t rb store) e = clash true refl e
wrong_length connect_response e = clash true refl e
wrong_length (disconnect_request reason sub) e = clash true refl e
wrong_length (connect_indication acceptable own t ra unit store) e = clash true refl e
wrong_length (connect_confirmation unit) e = clash true refl e
wrong_length (disconnect_indication reason unit) e = clash true refl e
wrong_length (unit_indication kind unit) e = clash true refl e
wrong_length time_out e = clash true refl e

only-unsendable : (i : Input) (c : Connection) (out : List ℕ) {o : Outcome} → Ends i c out o → o.answer ≡ refused 10 → Unsendable i
unfolding perform
only-unsendable i c out (short h) e = let z : ◌≡◌ {A = ℕ} 2 10 = cc in absurd (omega arith)
only-unsendable i c out (unsendable h) e = wrong_length i h
only-unsendable i c out (unfound n h f) e = neither n 10 (cc) (λ p. omega arith) (λ p. omega arith) (λ p. omega arith) (asked-numbers i c n f)
only-unsendable i c out (performed f) e = let z : ◌≡◌ {A = ℕ} 0 1 = cc in absurd (omega arith)

not-sendable : (i : Input) → Unsendable i → sendable i ≡ false
not-sendable i u = ap sendable u.event_is ∙ go (between 1 1023 (length u.sent)) refl
  where
    go : (b : Bool) → between 1 1023 (length u.sent) ≡ b → b ≡ false
    go true e = absurd (u.length_wrong (between-true 1 1023 (length u.sent) e))
    go false e = refl

pub refused-first : RefusedFirst
refused-first =
    record {
      h2 = step-short;
      h10 = λ i c out l u. step-unsendable i c out l (not-sendable i u);
      only_h2 = λ i c out. only-short i c out (step-ends i c out);
      only_h10 = λ i c out. only-unsendable i c out (step-ends i c out);
    }

pub refusal_leaves : RefusalLeaves
refusal_leaves =
    record {
      connection_left = λ i c out n e. ap (λ (o : Outcome). o.connection) (step-refused i c out n e);
      output_left = λ i c out n e. ap (λ (o : Outcome). o.output) (step-refused i c out n e);
    }
