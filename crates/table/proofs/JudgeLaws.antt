-- Set-up goes on only where Pre0 to Pre4 do not hold.
-- Assumes nothing.
use Rattle.std.specs.Prelude.{Ok, Err}
use mathlib.Core.Path.{◌≡◌, refl, ap, ◌∙◌, subst}
use mathlib.Core.Bool.{Bool}
use mathlib.Core.List.{List}
use Prim.Native.Nat.{ℕ}
use native.Mathlib.Omega.{arith}
use Rattle.units.specs.Units.{Fault, random, au3_unit, ar_unit, au1_fault, au2_fault, au3_fault, ar_fault}
use Rattle.units.proofs.Theorems.{units_are_built}
use Rattle.table.specs.declared.Connection.{Connection}
use Rattle.table.specs.declared.Kind.TheVariants.{Au3, Ar}
use Rattle.table.specs.declared.State.{State}
use Rattle.table.specs.declared.State.TheVariants.{IDLE, WFTC, WFAR, WFAU3}
use Rattle.table.specs.declared.ToUser.TheVariants as User
use Rattle.table.specs.declared.ToTransport.TheVariants.{TConnReq, TConnResp, SendAu3}
use Rattle.table.specs.Table.{SaConnReq, TConnInd, TConnConf, AU3, AR, table, state_of, row_in, square}
use Rattle.table.specs.Steps.{unless, typed, judged_unit, confirmed, Input, connect_request, connect_indication, unit_indication, asked, to_user}
use Rattle.table.specs.Claims.{Calls, CalledBy, ConfirmedBy, PredicatesJudge}
use Rattle.table.proofs.StepLaws.{meets}
use Rattle.table.proofs.SideLaws.{typed-fine}
use Rattle.table.proofs.OnlyLaws.{input_of, user_is, transport_is, user_in, transport_in}

-- ---- in the square from which set-up goes on, no fault was found

fine-request : (f : Fault) → (square SaConnReq IDLE (unless 0 f).when).down ≡ TConnReq → f ≡ Ok tt
unfolding square row_in table
fine-request (Ok u) e = refl
fine-request (Err x) e = let z : ◌≡◌ {A = ℕ} 0 1 = cc in absurd (omega arith)

fine-au1 : (f : Fault) → (square TConnInd IDLE (unless 1 f).when).down ≡ TConnResp → f ≡ Ok tt
unfolding square row_in table
fine-au1 (Ok u) e = refl
fine-au1 (Err x) e = let z : ◌≡◌ {A = ℕ} 0 1 = cc in absurd (omega arith)

fine-au2 : (f : Fault) → (square TConnConf WFTC (unless 2 f).when).down ≡ SendAu3 → f ≡ Ok tt
unfolding square row_in table
fine-au2 (Ok u) e = refl
fine-au2 (Err x) e = let z : ◌≡◌ {A = ℕ} 0 1 = cc in absurd (omega arith)

fine-au3 : (c : Connection) (unit : List ℕ) (s : State) → s ≡ WFAU3
    → to_user (square AU3 s (judged_unit Au3 s c unit).when).up (judged_unit Au3 s c unit) ≡ User.ConnectIndication → au3_fault c.key c.own c.ra c.rb unit ≡ Ok tt
unfolding judged_unit square row_in table
fine-au3 c unit s h e =
    go (au3_fault c.key c.own c.ra c.rb unit)
    (subst (λ (s : State). to_user (square AU3 s (judged_unit Au3 s c unit).when).up (judged_unit Au3 s c unit) ≡ User.ConnectIndication) h e)
  where
    go : (f : Fault) → to_user (square AU3 WFAU3 (unless 3 f).when).up (unless 3 f) ≡ User.ConnectIndication → f ≡ Ok tt
    go (Ok u) e = refl
    go (Err x) e = let z : ◌≡◌ {A = ℕ} 0 1 = cc in absurd (omega arith)

fine-ar : (c : Connection) (unit : List ℕ) (s : State) → s ≡ WFAR
    → to_user (square AR s (judged_unit Ar s c unit).when).up (judged_unit Ar s c unit) ≡ User.ConnectConfirmation → ar_fault c.key c.own unit ≡ Ok tt
unfolding judged_unit square row_in table
fine-ar c unit s h e =
    go (ar_fault c.key c.own unit)
    (subst (λ (s : State). to_user (square AR s (judged_unit Ar s c unit).when).up (judged_unit Ar s c unit) ≡ User.ConnectConfirmation) h e)
  where
    go : (f : Fault) → to_user (square AR WFAR (unless 4 f).when).up (unless 4 f) ≡ User.ConnectConfirmation → f ≡ Ok tt
    go (Ok u) e = refl
    go (Err x) e = let z : ◌≡◌ {A = ℕ} 0 1 = cc in absurd (omega arith)

-- ---- the events

pub au1_sent : (i : Input) (c : Connection) → (meets i c).down ≡ TConnReq → Calls i c
unfolding asked table
au1_sent i c h =
    let r = transport_in SaConnReq IDLE TConnReq refl i c h in
    let (b, own, peer, t, rb, store, e) = input_of SaConnReq i c r.0 in
    let d : (square SaConnReq (state_of c.state) (unless 0 (typed b (Ok tt))).when).down ≡ TConnReq = subst (λ (i : Input). (meets i c).down ≡ TConnReq) e h in
    let f = typed-fine b (Ok tt) (fine-request (typed b (Ok tt)) (subst (λ (s : State). (square SaConnReq s (unless 0 (typed b (Ok tt))).when).down ≡ TConnReq) r.1 d)) in
    record {
      own = own;
      peer = peer;
      t = t;
      rb = rb;
      store = store;
      event_is = e ∙ ap (λ (b : Bool). connect_request b own peer t rb store) f.0;
      in-IDLE = r.1;
    }

pub au2_sent : (i : Input) (c : Connection) → (meets i c).down ≡ TConnResp → CalledBy i c
unfolding asked table
au2_sent i c h =
    let r = transport_in TConnInd IDLE TConnResp refl i c h in
    let (b, own, t, ra, unit, store, e) = input_of TConnInd i c r.0 in
    let g = typed b (au1_fault unit) in
    let d : (square TConnInd (state_of c.state) (unless 1 g).when).down ≡ TConnResp = subst (λ (i : Input). (meets i c).down ≡ TConnResp) e h in
    let f = typed-fine b (au1_fault unit) (fine-au1 g (subst (λ (s : State). (square TConnInd s (unless 1 g).when).down ≡ TConnResp) r.1 d)) in
    record {
      own = own;
      t = t;
      ra = ra;
      unit = unit;
      store = store;
      event_is = e ∙ ap (λ (b : Bool). connect_indication b own t ra unit store) f.0;
      in-IDLE = r.1;
      built = λ bytes. units_are_built.au1 unit bytes f.1;
    }

au3_sent : (i : Input) (c : Connection) → (meets i c).down ≡ SendAu3 → ConfirmedBy i c
unfolding asked table
au3_sent i c h =
    let r = transport_in TConnConf WFTC SendAu3 refl i c h in
    let (unit, e) = input_of TConnConf i c r.0 in
    let key = (confirmed c (random unit)).key in
    let g = au2_fault key c.own c.peer c.rb unit in
    let d : (square TConnConf (state_of c.state) (unless 2 g).when).down ≡ SendAu3 = subst (λ (i : Input). (meets i c).down ≡ SendAu3) e h in
    let f = fine-au2 g (subst (λ (s : State). (square TConnConf s (unless 2 g).when).down ≡ SendAu3) r.1 d) in
    record { unit = unit; event_is = e; in-WFTC = r.1; built = λ bytes. units_are_built.au2 key c.own c.peer c.rb unit bytes f }

indicated : (i : Input) (c : Connection) → to_user (meets i c).up (asked i c).verdict ≡ User.ConnectIndication
    → (state_of c.state ≡ WFAU3) × (i ≡ unit_indication Au3 (au3_unit c.key c.own c.ra c.rb))
unfolding asked table
indicated i c h =
    let r = user_in AU3 WFAU3 User.ConnectIndication refl i c h in
    let (unit, e) = input_of AU3 i c r.0 in
    let d = subst (λ (i : Input). to_user (meets i c).up (asked i c).verdict ≡ User.ConnectIndication) e h in
    (r.1, e ∙ ap (unit_indication Au3) (units_are_built.au3 c.key c.own c.ra c.rb unit (fine-au3 c unit (state_of c.state) r.1 d)))

answered : (i : Input) (c : Connection) → to_user (meets i c).up (asked i c).verdict ≡ User.ConnectConfirmation
    → (state_of c.state ≡ WFAR) × (i ≡ unit_indication Ar (ar_unit c.key c.own))
unfolding asked table
answered i c h =
    let r = user_in AR WFAR User.ConnectConfirmation refl i c h in
    let (unit, e) = input_of AR i c r.0 in
    let d = subst (λ (i : Input). to_user (meets i c).up (asked i c).verdict ≡ User.ConnectConfirmation) e h in
    (r.1, e ∙ ap (unit_indication Ar) (units_are_built.ar c.key c.own unit (fine-ar c unit (state_of c.state) r.1 d)))

pub predicates_judge : PredicatesJudge
predicates_judge =
    record {
      au1_sent = λ i c out a e h. au1_sent i c (transport_is i c out a TConnReq e h);
      au2_sent = λ i c out a e h. au2_sent i c (transport_is i c out a TConnResp e h);
      au3_sent = λ i c out a e h. au3_sent i c (transport_is i c out a SendAu3 e h);
      indicated = λ i c out a e h. indicated i c (user_is i c out a User.ConnectIndication e h);
      confirmed = λ i c out a e h. answered i c (user_is i c out a User.ConnectConfirmation e h);
    }
