-- Two sides that deliver units unaltered: set-up completes, and user data arrive.
-- Assumes nothing.
use mathlib.Core.Path.{◌≡◌, refl, sym, ap, ap₂, ◌∙◌, subst, subst₂}
use mathlib.Core.Bool.{Bool, true, false, ◌&&◌, not, cond}
use mathlib.Core.List.{List, []}
use Prim.Native.Nat.{ℕ, ◌≤◌}
use lib.Dec.{leb}
use lib.ListN.{length}
use borrow.Author.Tests.{leb-true}
use Rattle.octets.proofs.BoolLaws.{is-between}
use Rattle.octets.proofs.SpliceLaws.{splice_front}
use Rattle.refusal.specs.House.{Answer, house, gives}
use Rattle.refusal.proofs.Laws.{not-both}
use Rattle.store.specs.Search.{place_in}
use Rattle.store.specs.Search as Held
use Rattle.authentication.specs.Keys.{session_keys}
use Rattle.authentication.specs.Unit.{unit_of, data_of}
use Rattle.authentication.specs.Claims.{Accepts}
use Rattle.authentication.proofs.KeyLaws.{length-keys}
use Rattle.authentication.proofs.Theorems.{accepted-exactly-built}
use Rattle.units.specs.Units.{Fault, type_of, etcs_id, sender_of, random, au1_unit, au2_unit, au3_unit, ar_unit, au2_fault}
use Rattle.units.proofs.Theorems.{built_are_fine, fields_are_told}
use Rattle.table.specs.declared.Connection.{Connection}
use Rattle.table.specs.declared.Kind.TheVariants.{Au3, Ar, Dt}
use Rattle.table.specs.declared.State.{State}
use Rattle.table.specs.declared.State.TheVariants.{IDLE, WFTC, WFAR, DATA, WFAU3, WFRESP}
use Rattle.table.specs.declared.ToUser.{ToUser}
use Rattle.table.specs.declared.ToUser.TheVariants as User
use Rattle.table.specs.declared.ToTransport.TheVariants.{Quiet, TConnReq, TConnResp, SendAu3, SendAr, SendDt}
use Rattle.table.specs.declared.Timer.TheVariants.{Keep}
use Rattle.table.specs.Table.{SaDataReq, TConnInd, TConnConf, AU3, AR, ok, no, SaConnInd, SaConnConf, to, Square, square_of, a5, a6, table, state_code, state_of, row_in, square}
use Rattle.table.specs.Steps.{idle, calling, unless, typed, judged_unit, found, if_types, Input, connect_request, connect_response, data_request, connect_indication, connect_confirmation, unit_indication, asked, sendable, carried, starts_set_up, to_user, with_state, after, acts, done, Outcome, perform, step, handed_up, kind_of}
use Rattle.table.proofs.StepLaws.{meets, step-performs}
use Rattle.table.proofs.Theorems.{kind_of_lem, counted_as}
use Rattle.connections.specs.Runs.{Sides, unit_sent, step1, step2, step3, step4, step5, step6}
use Rattle.connections.specs.Claims.{Ready, shared_key, Partners, Completes, Arrived, DataArrives}

-- ---- a step that is not refused

-- what it hands to the user, the square that it is in, the connection that it leaves, and the unit that it sends
pub record Sends (o : Outcome) (up : ToUser) (q : Square) (c : Connection) (unit : List ℕ) : Type 0 where
  pub answer_is : o.answer ≡ done (acts up q.down q.timer (length unit))
  pub connection_is : o.connection ≡ c
  pub unit_is : unit_sent o ≡ unit

performs : (i : Input) (c : Connection) (out : List ℕ) (q : Square) (n : ℕ) → 1032 ≤ length out → sendable i ≡ true → meets i c ≡ q
    → cond (starts_set_up q.down) (asked i c).search (gives 0) ≡ gives n
    → Sends (step i c out) (to_user q.up (asked i c).verdict) q (after q.next c (asked i c).about) (carried q.down (asked i c))
unfolding perform
performs i c out q n l s e f =
    let p : step i c out ≡ perform q (asked i c) c out = step-performs i c out q n l s e f in
    record {
      answer_is = ap (λ (o : Outcome). o.answer) p;
      connection_is = ap (λ (o : Outcome). o.connection) p;
      unit_is = ap unit_sent p ∙ splice_front out (carried q.down (asked i c)) _ refl;
    }

-- ---- set-up, step by step

-- where the search gave a place, both types are at most 7
types : (store : List ℕ) (own peer t n : ℕ) → found store own peer t ≡ gives n → (type_of own ≤ 7) × (type_of peer ≤ 7)
unfolding found
types store own peer t n e = go (leb (type_of own) 7) (leb (type_of peer) 7) refl refl (place_in (Held.find store peer t)) e
  where
    go : (x y : Bool) → leb (type_of own) 7 ≡ x → leb (type_of peer) 7 ≡ y → (a : Answer) → if_types (x && y) a ≡ gives n → (type_of own ≤ 7) × (type_of peer ≤ 7)
    go x y p q (house m) e = not-both m n e
    go true true p q (gives m) e = (leb-true (type_of own) 7 p, leb-true (type_of peer) 7 q)
    go true false p q (gives m) e = not-both 11 n e
    go false y p q (gives m) e = not-both 11 n e

abbrev pub first_row : Square
first_row = square_of no TConnReq a5 (to WFTC)

abbrev pub second_row : Square
second_row = square_of no TConnResp Keep (to WFAU3)

abbrev pub third_row : Square
third_row = square_of no SendAu3 Keep (to WFAR)

abbrev fourth_row : Square
fourth_row = square_of SaConnInd Quiet Keep (to WFRESP)

abbrev pub fifth_row : Square
fifth_row = square_of no SendAr Keep (to DATA)

abbrev sixth_row : Square
sixth_row = square_of SaConnConf Quiet a6 (to DATA)

-- the KMAC of both, and the two sides with the session key
abbrev pub kmac_for : Sides → List ℕ
kmac_for x = Held.key x.store_a x.b x.ta

abbrev pub called_in : State → Sides → Connection
called_in s x = record { state = state_code s; responder = true; own = x.a; peer = x.b; ra = x.ra; rb = x.rb; key = shared_key x }

abbrev pub caller_in : State → Sides → Connection
caller_in s x = record { state = state_code s; responder = false; own = x.b; peer = x.a; ra = x.ra; rb = x.rb; key = shared_key x }

abbrev pub second_unit : Sides → List ℕ
second_unit x = au2_unit (shared_key x) x.a x.b x.ra x.rb

abbrev pub third_unit : Sides → List ℕ
third_unit x = au3_unit (shared_key x) x.a x.ra x.rb

module _ (x : Sides) (r : Ready x) where
  type_a : type_of x.a ≤ 7
  type_a = (types x.store_a x.a x.b x.ta r.place_a r.found_a).0

  type_b : type_of x.b ≤ 7
  type_b = (types x.store_a x.a x.b x.ta r.place_a r.found_a).1

  pub first : Sends (step1 x) User.Nothing first_row (calling x.b x.a x.rb (kmac_for x)) (au1_unit x.b x.rb)
  unfolding step1 asked square row_in table carried
  first =
      subst (λ (k : List ℕ). Sends (step1 x) User.Nothing first_row (calling x.b x.a x.rb k) (au1_unit x.b x.rb)) r.shared
      (performs (connect_request true x.b x.a x.tb x.rb x.store_b) idle x.out_b first_row r.place_b r.room_b refl refl r.found_b)

  -- the called side reads the caller and RB from the AU1
  second_on : Sends (step (connect_indication true x.a x.ta x.ra (au1_unit x.b x.rb) x.store_a) idle x.out_a) User.Nothing second_row (called_in WFAU3 x) (second_unit x)
  unfolding asked square row_in table carried
  second_on =
      let u = au1_unit x.b x.rb in
      let i = connect_indication true x.a x.ta x.ra u x.store_a in
      let sender : sender_of u ≡ x.b = fields_are_told.au1_sender x.b x.rb type_b in
      let number : random u ≡ x.rb = fields_are_told.au1_random x.b x.rb r.eight_b in
      let p =
      performs i idle x.out_a second_row r.place_a r.room_a refl
      (ap (λ (f : Fault). square TConnInd IDLE (unless 1 (typed true f)).when) (built_are_fine.au1 x.b x.rb type_b r.eight_b))
      (ap (λ (v : ℕ). found x.store_a x.a v x.ta) sender ∙ r.found_a)
      in
      subst₂ (λ (v : ℕ) (w : List ℕ).
      let key = session_keys (Held.key x.store_a v x.ta) x.ra w in
      Sends (step i idle x.out_a) User.Nothing second_row (record { state = state_code WFAU3; responder = true; own = x.a; peer = v; ra = x.ra; rb = w; key = key })
      (au2_unit key x.a v x.ra w)) sender number p

  pub second : Sends (step2 x) User.Nothing second_row (called_in WFAU3 x) (second_unit x)
  unfolding step2
  second =
      subst (λ (u : List ℕ). Sends (step (connect_indication true x.a x.ta x.ra u x.store_a) idle x.out_a) User.Nothing second_row (called_in WFAU3 x) (second_unit x))
      (sym first.unit_is) second_on

  -- the caller reads RA from the AU2
  third_on : Sends (step (connect_confirmation (second_unit x)) (calling x.b x.a x.rb (kmac_for x)) x.out_b) User.Nothing third_row (caller_in WFAR x) (third_unit x)
  unfolding asked square row_in table carried
  third_on =
      let c = calling x.b x.a x.rb (kmac_for x) in
      let o = step (connect_confirmation (second_unit x)) c x.out_b in
      let number : random (second_unit x) ≡ x.ra = fields_are_told.au2_random (shared_key x) x.a x.b x.ra x.rb r.eight_a in
      let fine = built_are_fine.au2 (shared_key x) x.a x.b x.ra x.rb type_a r.eight_a in
      let p =
      performs (connect_confirmation (second_unit x)) c x.out_b third_row 0 r.room_b refl
      (ap (λ (w : List ℕ). square TConnConf WFTC (unless 2 (au2_fault (session_keys (kmac_for x) w x.rb) x.b x.a x.rb (second_unit x))).when) number
      ∙ ap (λ (f : Fault). square TConnConf WFTC (unless 2 f).when) fine) refl
      in
      subst (λ (w : List ℕ).
      let key = session_keys (kmac_for x) w x.rb in
      Sends o User.Nothing third_row (record { state = state_code WFAR; responder = false; own = x.b; peer = x.a; ra = w; rb = x.rb; key = key }) (au3_unit key x.a w x.rb)) number p

  pub third : Sends (step3 x) User.Nothing third_row (caller_in WFAR x) (third_unit x)
  unfolding step3
  third =
      subst₂ (λ (u : List ℕ) (c : Connection). Sends (step (connect_confirmation u) c x.out_b) User.Nothing third_row (caller_in WFAR x) (third_unit x))
      (sym second.unit_is) (sym first.connection_is) third_on

  fourth_on : Sends (step (unit_indication Au3 (third_unit x)) (called_in WFAU3 x) x.out_a) User.ConnectIndication fourth_row (called_in WFRESP x) []
  unfolding asked judged_unit square row_in table carried
  fourth_on =
      performs (unit_indication Au3 (third_unit x)) (called_in WFAU3 x) x.out_a fourth_row 0 r.room_a refl
      (ap (λ (f : Fault). square AU3 WFAU3 (unless 3 f).when) (built_are_fine.au3 (shared_key x) x.a x.ra x.rb)) refl

  fourth : Sends (step4 x) User.ConnectIndication fourth_row (called_in WFRESP x) []
  unfolding step4
  fourth =
      subst₂ (λ (u : List ℕ) (c : Connection). Sends (step (unit_indication Au3 u) c x.out_a) User.ConnectIndication fourth_row (called_in WFRESP x) [])
      (sym third.unit_is) (sym second.connection_is) fourth_on

  fifth_on : Sends (step connect_response (called_in WFRESP x) x.out_a) User.Nothing fifth_row (called_in DATA x) (ar_unit (shared_key x) x.b)
  unfolding asked square row_in table carried
  fifth_on = performs connect_response (called_in WFRESP x) x.out_a fifth_row 0 r.room_a refl refl refl

  pub fifth : Sends (step5 x) User.Nothing fifth_row (called_in DATA x) (ar_unit (shared_key x) x.b)
  unfolding step5
  fifth =
      subst (λ (c : Connection). Sends (step connect_response c x.out_a) User.Nothing fifth_row (called_in DATA x) (ar_unit (shared_key x) x.b)) (sym fourth.connection_is) fifth_on

  sixth_on : Sends (step (unit_indication Ar (ar_unit (shared_key x) x.b)) (caller_in WFAR x) x.out_b) User.ConnectConfirmation sixth_row (caller_in DATA x) []
  unfolding asked judged_unit square row_in table carried
  sixth_on =
      performs (unit_indication Ar (ar_unit (shared_key x) x.b)) (caller_in WFAR x) x.out_b sixth_row 0 r.room_b refl
      (ap (λ (f : Fault). square AR WFAR (unless 4 f).when) (built_are_fine.ar (shared_key x) x.b)) refl

  sixth : Sends (step6 x) User.ConnectConfirmation sixth_row (caller_in DATA x) []
  unfolding step6
  sixth =
      subst₂ (λ (u : List ℕ) (c : Connection). Sends (step (unit_indication Ar u) c x.out_b) User.ConnectConfirmation sixth_row (caller_in DATA x) [])
      (sym fifth.unit_is) (sym third.connection_is) sixth_on

-- ---- the two sides then

partners : (c d : Connection) → c.state ≡ state_code DATA → d.state ≡ state_code DATA → c.peer ≡ d.own → c.responder ≡ not d.responder → (x : Sides) → c.key ≡ shared_key x → d.key ≡ shared_key x → Partners c d
partners c d s t p q x k l =
    record {
      c_in-DATA = s;
      d_in-DATA = t;
      destination = p;
      roles = q;
      one_key = k ∙ sym l;
      triple = ap length k ∙ length-keys (kmac_for x) x.ra x.rb;
    }

both : (x : Sides) (c d : Connection) → c ≡ called_in DATA x → d ≡ caller_in DATA x → (Partners c d) × (Partners d c)
both x c d p q =
    subst₂ (λ (c d : Connection). (Partners c d) × (Partners d c)) (sym p) (sym q)
    (partners (called_in DATA x) (caller_in DATA x) refl refl refl refl x refl refl, partners (caller_in DATA x) (called_in DATA x) refl refl refl refl x refl refl)

pub completes : Completes
completes =
    record {
      completes = λ x r.
          let links = both x (step5 x).connection (step6 x).connection (fifth x r).connection_is (sixth x r).connection_is in
          record {
            indicated = (fourth x r).answer_is;
            confirmed = (sixth x r).answer_is;
            called_is = (fifth x r).connection_is;
            caller_is = (sixth x r).connection_is;
            to_caller = links.0;
            to_called = links.1;
            au3_told = ap kind_of (third x r).unit_is ∙ kind_of_lem.au3 (shared_key x) x.a x.ra x.rb;
            ar_told = ap kind_of (fifth x r).unit_is ∙ kind_of_lem.ar (shared_key x) x.b;
          };
    }

-- ---- user data

data_row : square SaDataReq DATA ok ≡ square_of no SendDt Keep (to DATA)
unfolding square row_in table
data_row = refl

module _ (c d : Connection) (sent out : List ℕ) (p : Partners c d) (some : 1 ≤ length sent) (most : length sent ≤ 1023) (room : 1032 ≤ length out) where
  sends_data : Sends (step (data_request sent) c out) User.Nothing (square_of no SendDt Keep (to DATA)) c (unit_of c.key (etcs_id c.peer) c.responder sent)
  unfolding asked carried
  sends_data =
      let q = square_of no SendDt Keep (to DATA) in
      subst (λ (n : ℕ). Sends (step (data_request sent) c out) User.Nothing q (with_state c n) (unit_of c.key (etcs_id c.peer) c.responder sent))
      (sym p.c_in-DATA)
      (performs (data_request sent) c out q 0 room (is-between 1 1023 (length sent) some most) (ap (λ (n : ℕ). square SaDataReq (state_of n) ok) p.c_in-DATA ∙ data_row) refl)

  pub unit-there : unit_sent (step (data_request sent) c out) ≡ unit_of d.key (etcs_id d.own) (not d.responder) sent
  unit-there =
      sends_data.unit_is ∙ ap₂ (λ (k : List ℕ) (v : ℕ). unit_of k (etcs_id v) c.responder sent) p.one_key p.destination
      ∙ ap (λ (b : Bool). unit_of d.key (etcs_id d.own) b sent) p.roles

  accepted : Accepts (unit_sent (step (data_request sent) c out)) d.key (etcs_id d.own) (not d.responder) sent
  accepted =
      accepted-exactly-built.built_accepted (unit_sent (step (data_request sent) c out)) d.key (etcs_id d.own) (not d.responder) sent
      (record { triple = ap length (sym p.one_key) ∙ p.triple; some = some; most = most; unit_is = unit-there })

  arrived : (out' : List ℕ) → 1032 ≤ length out'
      → let sending = step (data_request sent) c out in
      Arrived c d sent sending (step (unit_indication Dt (unit_sent sending)) d out') (unit_sent sending)
  arrived out' room' =
      let unit = unit_sent (step (data_request sent) c out) in
      let e = counted_as.accepted d unit out' (length sent) p.d_in-DATA room' accepted.answer in
      record {
        sender_is = sends_data.connection_is;
        answer_is = ap (λ (o : Outcome). o.answer) e;
        receiver_is = ap (λ (o : Outcome). o.connection) e;
        handed = ap (λ (o : Outcome). handed_up o.answer unit) e ∙ sym (ap (λ (a : Answer). data_of a unit) accepted.answer) ∙ accepted.handed;
        dt_told = ap kind_of unit-there ∙ kind_of_lem.dt d.key (etcs_id d.own) (not d.responder) sent;
      }

pub data_arrives : DataArrives
data_arrives = record { arrives = λ c d sent out out' p some most room room'. arrived c d sent out p some most room out' room' }
