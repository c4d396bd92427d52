-- Laws of the two sides: the search and the key where set-up starts, and from the facts of the code to the contracts of Sa-CONN.req, T-CONN.ind, T-CONN.conf and Sa-CONN.resp.
-- Assumes nothing.
use Rattle.std.specs.Prelude.{IsOk, Result, Ok, Err}
use mathlib.Core.Path.{◌≡◌, refl, sym, ap, ◌∙◌}
use mathlib.Core.Bool.{Bool, true, false, ◌&&◌, not}
use mathlib.Core.List.{List}
use Prim.Native.Nat.{ℕ, ◌-◌, ◌≤◌}
use native.Mathlib.Omega.{arith}
use lib.Dec.{leb}
use lib.ListN.{length}
use borrow.Author.Tests.{leb-true, eq-eqb}
use Rattle.octets.specs.Bytes.{splice}
use Rattle.octets.proofs.BoolLaws.{clash}
use Rattle.refusal.specs.declared.Refusal.{Refusal}
use Rattle.refusal.specs.House.{Answer, house, gives, asks, house_number}
use Rattle.store.specs.Store.{HasPlace, kmac_at}
use Rattle.store.specs.Search.{Finding, place_in}
use Rattle.store.specs.Search as Held
use Rattle.store.proofs.Theorems.{whole-key}
use Rattle.authentication.specs.Keys.{derived, Derives}
use Rattle.units.specs.declared.Code.{Code}
use Rattle.units.specs.Units.{Fault, code, type_of, sender_of, random, au1_unit, au2_unit, au3_unit, ar_unit, di_unit, au1_fault, au2_fault, au2_fields, au2_seal, or_next}
use Rattle.units.proofs.UnitLaws.{length-au1, length-au2, length-au3, length-ar, length-di}
use Rattle.units.proofs.Theorems.{two-halves}
use Rattle.table.specs.declared.Connection.{Connection}
use Rattle.table.specs.declared.Actions.{Actions}
use Rattle.table.specs.declared.State.TheVariants.{IDLE, WFTC, WFAR, DATA, WFAU3, WFRESP}
use Rattle.table.specs.declared.ToUser.TheVariants as User
use Rattle.table.specs.declared.ToTransport.TheVariants.{Quiet, TConnReq, TConnResp, TDiscReq, TDiscReqDi, SendAu3, SendAr}
use Rattle.table.specs.declared.Timer.TheVariants.{Keep, Set, StopAll}
use Rattle.table.specs.Table.{TConnInd, TConnConf, no, SaDiscInd, to, square_of, state_code, state_of, square, row_in, table}
use Rattle.table.specs.Steps.{idle, calling, called, confirmed, unless, typed, if_types, found, connect_request, connect_response, connect_indication, connect_confirmation, asked, carried, to_user, with_state, acts, step, Does}
use Rattle.table.specs.Parts.{searched_as}
use Rattle.table.proofs.StepLaws.{does-refused, step-unfound, does-performed}
use Rattle.table.proofs.CallLaws.{in_state_lem, quiet_in, sent_in}

-- ---- the search

-- what it answers, in the paper's numbers
pub searched : {r s : Result ℕ Refusal} {a : Answer} → searched_as r ≡ a → r ≡ s → a ≡ searched_as s
searched p q = sym p ∙ ap searched_as q

module _ (store : List ℕ) (own peer t : ℕ) where
  -- where set-up starts, the own type has three bits
  served : (f : Finding) (a b : Bool) (n : ℕ) → if_types (a && b) (place_in f) ≡ gives n → a ≡ true
  served f true b n e = refl
  served (Held.found place end) false b n e = let z : ◌≡◌ {A = ℕ} 0 1 = cc in absurd (omega arith)
  served (Held.unfound m) false b n e = let z : ◌≡◌ {A = ℕ} 0 1 = cc in absurd (omega arith)

  type_served : (n : ℕ) → found store own peer t ≡ gives n → type_of own ≤ 7
  unfolding found
  type_served n e = leb-true (type_of own) 7 (served (Held.find store peer t) (leb (type_of own) 7) (leb (type_of peer) 7) n e)

  -- and so has that of the connection that was made
  pub made_type : {made about : Connection} (n : ℕ) → found store own peer t ≡ gives n → made ≡ about → about.own ≡ own → type_of made.own ≤ 7
  made_type n f e o = omega (arith, type_served n f, ap (λ (m : Connection). m.own) e)

  -- and the store's search gave the place
  placed_by : (f : Finding) (b : Bool) (n : ℕ) → if_types b (place_in f) ≡ gives n → (end : ℕ) × (f ≡ Held.found n end)
  placed_by (Held.found place end) true n e = (end, cc)
  placed_by (Held.found place end) false n e = let z : ◌≡◌ {A = ℕ} 0 1 = cc in absurd (omega arith)
  placed_by (Held.unfound m) b n e = let z : ◌≡◌ {A = ℕ} 0 1 = cc in absurd (omega arith)

  place_found : (n : ℕ) → found store own peer t ≡ gives n → (end : ℕ) × (Held.find store peer t ≡ Held.found n end)
  unfolding found
  place_found n e = placed_by (Held.find store peer t) (leb (type_of own) 7 && leb (type_of peer) 7) n e

  -- it lies in the store, and the key is the KMAC there
  pub place_inside : (n : ℕ) → found store own peer t ≡ gives n → HasPlace store n
  place_inside n e = let p = place_found n e in whole-key.inside store peer t n p.0 p.1

  pub key-there : (n : ℕ) → found store own peer t ≡ gives n → Held.key store peer t ≡ kmac_at store (n - 1)
  key-there n e = let p = place_found n e in whole-key.there store peer t n p.0 p.1

  pub key-whole : (n : ℕ) → found store own peer t ≡ gives n → length (Held.key store peer t) ≡ 24
  key-whole n e = let p = place_found n e in whole-key.long store peer t n p.0 p.1

-- ---- keys

-- of a whole KMAC the session keys are made
pub keys_made : (kmac ra rb : List ℕ) (r : Result (List ℕ) Refusal) → length kmac ≡ 24 → Derives kmac ra rb r → IsOk r
unfolding derived
keys_made kmac ra rb (Ok key) l d = refl
keys_made kmac ra rb (Err h) l d =
    let e : house (house_number h) ≡ gives 0 = d.said ∙ ap (λ (b : Bool). asks b 13 (gives 0)) (eq-eqb (length kmac) 24 l) in
    let z : ◌≡◌ {A = ℕ} 0 1 = cc in absurd (omega arith)

-- ---- Sa-CONN.req in IDLE

-- no application type, or a wrong one
pub request_untyped : (acceptable : Bool) (own peer t : ℕ) (rb store : List ℕ) (c : Connection) (out : List ℕ) {answer : Result Actions Refusal} {then : Connection} → 1032 ≤ length out
    → state_of c.state ≡ IDLE → not acceptable ≡ true → answer ≡ Ok (acts (User.DisconnectIndication (code 3 127)) Quiet Keep 0) → then ≡ idle
    → Does (step (connect_request acceptable own peer t rb store) c out) answer then out
unfolding asked carried square row_in table
request_untyped true own peer t rb store c out room at wrong p e = clash false wrong refl
request_untyped false own peer t rb store c out room at wrong p e =
    quiet_in (connect_request false own peer t rb store) IDLE (square_of SaDiscInd Quiet Keep (to IDLE)) c out room refl refl at refl refl refl p e

-- the search refuses
pub request-refused : (acceptable : Bool) (own peer t : ℕ) (rb store : List ℕ) (c : Connection) (out : List ℕ) (h : Refusal) {answer : Result Actions Refusal} {then : Connection} → 1032 ≤ length out
    → state_of c.state ≡ IDLE → not acceptable ≡ false → found store own peer t ≡ house (house_number h) → answer ≡ Err h → then ≡ c
    → Does (step (connect_request acceptable own peer t rb store) c out) answer then out
unfolding asked square row_in table
request-refused false own peer t rb store c out h room at right f p e = clash true refl right
request-refused true own peer t rb store c out h {answer} {then} room at right f p e =
    let i = connect_request true own peer t rb store in
    does-refused h (step i c out) c out answer then (step-unfound i c out (square_of no TConnReq Set (to WFTC)) (house_number h) room refl (in_state_lem i c IDLE refl at) f) p e

-- AU1 goes out
pub request-sent : (acceptable : Bool) (own peer t : ℕ) (rb store : List ℕ) (c : Connection) (out : List ℕ) (n : ℕ) {answer : Result Actions Refusal} {then made : Connection} {kmac written : List ℕ}
    → 1032 ≤ length out → state_of c.state ≡ IDLE → not acceptable ≡ false → length rb ≡ 8 → found store own peer t ≡ gives n → kmac ≡ kmac_at store (n - 1)
    → made ≡ calling own peer rb kmac → answer ≡ Ok (acts User.Nothing TConnReq Set 13) → then ≡ made → written ≡ splice out 0 (au1_unit made.own made.rb)
    → Does (step (connect_request acceptable own peer t rb store) c out) answer then written
unfolding asked carried square row_in table
request-sent false own peer t rb store c out n room at right l f k m p e w = clash true refl right
request-sent true own peer t rb store c out n {answer} {then} {made} {kmac} {written} room at right l f k m p e w =
    let i = connect_request true own peer t rb store in
    let about : made ≡ calling own peer rb (Held.key store peer t) = m ∙ ap (λ (k : List ℕ). calling own peer rb k) (k ∙ sym (key-there store own peer t n f)) in
    does-performed i c out (square_of no TConnReq Set (to WFTC)) n answer then written room refl (in_state_lem i c IDLE refl at) f
    (p ∙ ap (λ (n : ℕ). Ok (acts User.Nothing TConnReq Set n)) (sym (length-au1 own rb l)))
    (e ∙ about) (w ∙ ap (λ (m : Connection). splice out 0 (au1_unit m.own m.rb)) about)

-- ---- T-CONN.ind in IDLE

-- nothing is wrong: neither the application type nor the AU1
pub typed-fine : (acceptable : Bool) (f : Fault) → typed acceptable f ≡ Ok tt → (acceptable ≡ true) × (f ≡ Ok tt)
typed-fine true f e = (refl, e)
typed-fine false f e = let z : ◌≡◌ {A = ℕ} 0 1 = cc in absurd (omega arith)

-- the application type, or the AU1, is wrong
pub indication_faulty : (acceptable : Bool) (own t : ℕ) (ra unit store : List ℕ) (c : Connection) (out : List ℕ) (why : Code) {answer : Result Actions Refusal} {then : Connection} {written : List ℕ}
    → 1032 ≤ length out → state_of c.state ≡ IDLE → typed acceptable (au1_fault unit) ≡ Err why → answer ≡ Ok (acts User.Nothing TDiscReqDi Keep 3) → then ≡ idle
    → written ≡ splice out 0 (di_unit true why.reason why.sub) → Does (step (connect_indication acceptable own t ra unit store) c out) answer then written
unfolding asked carried square row_in table
indication_faulty acceptable own t ra unit store c out why room at f p e w =
    let di : Fault → List ℕ = λ f. di_unit true (unless 1 f).why.reason (unless 1 f).why.sub in
    sent_in (connect_indication acceptable own t ra unit store) IDLE (square_of no TDiscReqDi Keep (to IDLE)) c out room refl refl at
    (ap (λ (f : Fault). square TConnInd IDLE (unless 1 f).when) f) refl
    (p ∙ ap (λ (n : ℕ). Ok (acts User.Nothing TDiscReqDi Keep n)) (sym (length-di true why.reason why.sub) ∙ sym (ap (λ (f : Fault). length (di f)) f)))
    e (w ∙ sym (ap (λ (f : Fault). splice out 0 (di f)) f))

module _ (own t : ℕ) (ra unit store : List ℕ) (c : Connection) (out : List ℕ) (room : 1032 ≤ length out) (at : state_of c.state ≡ IDLE) (fine : au1_fault unit ≡ Ok tt) where
  -- the search refuses
  pub indication-refused : (h : Refusal) {answer : Result Actions Refusal} {then : Connection} {peer : ℕ} → peer ≡ sender_of unit → found store own peer t ≡ house (house_number h)
      → answer ≡ Err h → then ≡ c → Does (step (connect_indication true own t ra unit store) c out) answer then out
  unfolding asked square row_in table
  indication-refused h {answer} {then} s f p e =
      let i = connect_indication true own t ra unit store in
      does-refused h (step i c out) c out answer then
      (step-unfound i c out (square_of no TConnResp Keep (to WFAU3)) (house_number h) room refl
      (in_state_lem i c IDLE refl at ∙ ap (λ (f : Fault). square TConnInd IDLE (unless 1 f).when) fine)
      (sym (ap (λ (x : ℕ). found store own x t) s) ∙ f))
      p e

  -- AU2 goes out
  pub indication-answered : (n : ℕ) {answer : Result Actions Refusal} {then made : Connection} {rb kmac written : List ℕ} {peer : ℕ} → length ra ≡ 8 → peer ≡ sender_of unit → found store own peer t ≡ gives n
      → rb ≡ random unit → kmac ≡ kmac_at store (n - 1) → made ≡ called own peer ra rb kmac → answer ≡ Ok (acts User.Nothing TConnResp Keep 21) → then ≡ made
      → written ≡ splice out 0 (au2_unit made.key made.own made.peer made.ra made.rb) → Does (step (connect_indication true own t ra unit store) c out) answer then written
  unfolding asked carried square row_in table
  indication-answered n {answer} {then} {made} {rb} {kmac} {written} {peer} l s f r k m p e w =
      let i = connect_indication true own t ra unit store in
      let keyed : made ≡ called own peer ra rb (Held.key store peer t) = m ∙ ap (λ (k : List ℕ). called own peer ra rb k) (k ∙ sym (key-there store own peer t n f)) in
      let read : made ≡ called own peer ra (random unit) (Held.key store peer t) = keyed ∙ ap (λ (r : List ℕ). called own peer ra r (Held.key store peer t)) r in
      let about : made ≡ called own (sender_of unit) ra (random unit) (Held.key store (sender_of unit) t) = read ∙ ap (λ (x : ℕ). called own x ra (random unit) (Held.key store x t)) s in
      does-performed i c out (square_of no TConnResp Keep (to WFAU3)) n answer then written room refl
      (in_state_lem i c IDLE refl at ∙ ap (λ (f : Fault). square TConnInd IDLE (unless 1 f).when) fine)
      (sym (ap (λ (x : ℕ). found store own x t) s) ∙ f)
      (p ∙ ap (λ (n : ℕ). Ok (acts User.Nothing TConnResp Keep n)) (sym (length-au2 _ own (sender_of unit) ra (random unit) l)))
      (e ∙ about) (w ∙ ap (λ (m : Connection). splice out 0 (au2_unit m.key m.own m.peer m.ra m.rb)) about)

-- ---- T-CONN.conf in WFTC

-- the AU2 as a whole, and its fields and the rest
abbrev au2 : List ℕ → Connection → Fault
au2 unit c = au2_fault (confirmed c (random unit)).key c.own c.peer c.rb unit

abbrev seal : Connection → List ℕ → Fault
seal m unit = au2_seal m.key m.own m.rb unit

module _ (unit : List ℕ) (c : Connection) where
  pub by-fields : (why : Code) → au2_fields c.peer unit ≡ Err why → au2 unit c ≡ Err why
  by-fields why e = two-halves.au2 _ c.own c.peer c.rb unit ∙ ap (λ (f : Fault). or_next f (seal (confirmed c (random unit)) unit)) e

  pub by-seal : {made : Connection} {ra : List ℕ} {f g : Fault} → au2_fields c.peer unit ≡ Ok tt → ra ≡ random unit → made ≡ confirmed c ra → f ≡ seal made unit → f ≡ g → au2 unit c ≡ g
  by-seal e r m s d =
      two-halves.au2 _ c.own c.peer c.rb unit
      ∙ ap (λ (f : Fault). or_next f (seal (confirmed c (random unit)) unit)) e
      ∙ sym (ap (λ (m : Connection). seal m unit) (m ∙ ap (λ (r : List ℕ). confirmed c r) r))
      ∙ sym s
      ∙ d

module _ (unit : List ℕ) (c : Connection) (out : List ℕ) (room : 1032 ≤ length out) (at : state_of c.state ≡ WFTC) where
  -- the AU2 is wrong
  pub confirmation_faulty : (why : Code) {answer : Result Actions Refusal} {then : Connection} → au2 unit c ≡ Err why → answer ≡ Ok (acts (User.DisconnectIndication why) TDiscReq StopAll 0)
      → then ≡ idle → Does (step (connect_confirmation unit) c out) answer then out
  unfolding asked carried square row_in table
  confirmation_faulty why f p e =
      quiet_in (connect_confirmation unit) WFTC (square_of SaDiscInd TDiscReq StopAll (to IDLE)) c out room refl refl at (ap (λ (f : Fault). square TConnConf WFTC (unless 2 f).when) f) refl refl
      (p ∙ sym (ap (λ (f : Fault). Ok (acts (to_user SaDiscInd (unless 2 f)) TDiscReq StopAll 0)) f))
      e

  -- AU3 goes out
  pub confirmation_answered : {answer : Result Actions Refusal} {then made : Connection} {ra written : List ℕ} → au2 unit c ≡ Ok tt → ra ≡ random unit → made ≡ confirmed c ra
      → answer ≡ Ok (acts User.Nothing SendAu3 Keep 9) → then ≡ with_state made (state_code WFAR) → written ≡ splice out 0 (au3_unit made.key made.peer made.ra made.rb)
      → Does (step (connect_confirmation unit) c out) answer then written
  unfolding asked carried square row_in table
  confirmation_answered {answer} {then} {made} f r m p e w =
      let about : made ≡ confirmed c (random unit) = m ∙ ap (λ (r : List ℕ). confirmed c r) r in
      sent_in (connect_confirmation unit) WFTC (square_of no SendAu3 Keep (to WFAR)) c out room refl refl at (ap (λ (f : Fault). square TConnConf WFTC (unless 2 f).when) f) refl
      (p ∙ ap (λ (n : ℕ). Ok (acts User.Nothing SendAu3 Keep n)) (sym (length-au3 _ c.peer (random unit) c.rb)))
      (e ∙ ap (λ (m : Connection). with_state m (state_code WFAR)) about)
      (w ∙ ap (λ (m : Connection). splice out 0 (au3_unit m.key m.peer m.ra m.rb)) about)

-- ---- Sa-CONN.resp in WFRESP: AR goes out

pub response_sent : (c : Connection) (out : List ℕ) {answer : Result Actions Refusal} {then : Connection} {written : List ℕ} → 1032 ≤ length out → state_of c.state ≡ WFRESP
    → answer ≡ Ok (acts User.Nothing SendAr Keep 9) → then ≡ with_state c (state_code DATA) → written ≡ splice out 0 (ar_unit c.key c.peer) → Does (step connect_response c out) answer then written
unfolding asked carried square row_in table
response_sent c out room at p e w =
    sent_in connect_response WFRESP (square_of no SendAr Keep (to DATA)) c out room refl refl at refl refl
    (p ∙ ap (λ (n : ℕ). Ok (acts User.Nothing SendAr Keep n)) (sym (length-ar c.key c.peer))) e w
