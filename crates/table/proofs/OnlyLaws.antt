-- In which square alone an outgoing event stands, and which input meets it.
-- Assumes nothing.
use mathlib.Core.Path.{◌≡◌, refl, sym, ap, ◌∙◌, subst}
use mathlib.Core.Bool.{Bool, true, false, ◌&&◌, ◌||◌, not}
use mathlib.Core.List.{List}
use Prim.Native.Nat.{ℕ}
use lib.Dec.{eqb}
use borrow.Author.Tests.{eq-eqb}
use Rattle.octets.proofs.BoolLaws.{clash, and_left, and_right}
use Rattle.table.specs.declared.Connection.{Connection}
use Rattle.table.specs.declared.Actions.{Actions}
use Rattle.table.specs.declared.Kind.TheVariants.{Au3, Ar, Dt}
use Rattle.table.specs.declared.State.{State}
use Rattle.table.specs.declared.ToUser.{ToUser}
use Rattle.table.specs.declared.ToUser.TheVariants as User
use Rattle.table.specs.declared.ToTransport.{ToTransport}
use Rattle.table.specs.declared.ToTransport.TheVariants.{Quiet, TConnReq, TConnResp, TDiscReq, TDiscReqDi, SendAu3, SendAr, SendDt}
use Rattle.table.specs.Table.{Event, SaConnReq, SaConnResp, SaDataReq, SaDiscReq, TConnInd, TConnConf, TDiscInd, AU3, AR, DT, TimeOut, Up, no, SaConnInd, SaConnConf, SaDataInd, SaDiscInd, SaReportInd, Square, state_of, is, event_code}
use Rattle.table.specs.Steps.{Verdict, Input, connect_request, connect_response, data_request, disconnect_request, connect_indication, connect_confirmation, disconnect_indication, unit_indication, time_out, asked, to_user, Answered, done, refused, Outcome, perform, step}
use Rattle.table.proofs.StepLaws.{meets}
use Rattle.table.proofs.TableLaws.{same-event, same-state, every_square, every-square}
use Rattle.table.proofs.EndLaws.{step-done}

-- ---- the square

abbrev only_in : (Square → Bool) → Event → State → Event → State → Square → Bool
only_in p e s e' s' q = not (p q) || (eqb (event_code e') (event_code e) && is s' s)

only_in_lem : (p : Square → Bool) (e : Event) (s : State) → every_square (only_in p e s) ≡ true → (i : Input) (c : Connection) → p (meets i c) ≡ true
    → ((asked i c).event ≡ e) × (state_of c.state ≡ s)
only_in_lem p e s t i c h =
    let x = eqb (event_code (asked i c).event) (event_code e) in
    let y = is (state_of c.state) s in
    let r : (x && y) ≡ true = go (p (meets i c)) (x && y) h (every-square (only_in p e s) t (asked i c).event (state_of c.state) (asked i c).verdict.when) in
    (same-event (asked i c).event e (and_left x y r), same-state (state_of c.state) s (and_right x y r))
  where
    go : (x y : Bool) → x ≡ true → (not x || y) ≡ true → y ≡ true
    go true y p q = q
    go false y p q = clash false p refl

-- ---- the input

-- of the events that a proof asks for
abbrev InputOf : Event → Input → Type 0
InputOf SaConnReq i =
    (acceptable : Bool) × (own : ℕ) × (peer : ℕ) × (t : ℕ) × (rb : List ℕ) × (store : List ℕ) × (i ≡ connect_request acceptable own peer t rb store)
InputOf TConnInd i =
    (acceptable : Bool) × (own : ℕ) × (t : ℕ) × (ra : List ℕ) × (unit : List ℕ) × (store : List ℕ) × (i ≡ connect_indication acceptable own t ra unit store)
InputOf TConnConf i = (unit : List ℕ) × (i ≡ connect_confirmation unit)
InputOf AU3 i = (unit : List ℕ) × (i ≡ unit_indication Au3 unit)
InputOf AR i = (unit : List ℕ) × (i ≡ unit_indication Ar unit)
InputOf DT i = (unit : List ℕ) × (i ≡ unit_indication Dt unit)
InputOf SaConnResp i = Unit
InputOf SaDataReq i = Unit
InputOf SaDiscReq i = Unit
InputOf TDiscInd i = Unit
InputOf TimeOut i = Unit

input : (i : Input) (c : Connection) → InputOf (asked i c).event i
unfolding asked
input (connect_request acceptable own peer t rb store) c = (acceptable, own, peer, t, rb, store, refl)
input (connect_indication acceptable own t ra unit store) c = (acceptable, own, t, ra, unit, store, refl)
input (connect_confirmation unit) c = (unit, refl)
input (unit_indication Au3 unit) c = (unit, refl)
input (unit_indication Ar unit) c = (unit, refl)
input (unit_indication Dt unit) c = (unit, refl)
input connect_response c = tt
input (data_request sent) c = tt
input (disconnect_request reason sub) c = tt
input (disconnect_indication reason unit) c = tt
input time_out c = tt

pub input_of : (e : Event) (i : Input) (c : Connection) → (asked i c).event ≡ e → InputOf e i
input_of e i c h = subst (λ (e : Event). InputOf e i) h (input i c)

-- ---- the outgoing events of a step

abbrev user_of : Answered → ToUser
user_of (done a) = a.user
user_of (refused n) = User.Nothing

abbrev transport_of : Answered → ToTransport
transport_of (done a) = a.transport
transport_of (refused n) = Quiet

pub user_is : (i : Input) (c : Connection) (out : List ℕ) (a : Actions) (u : ToUser) → (step i c out).answer ≡ done a → a.user ≡ u
    → to_user (meets i c).up (asked i c).verdict ≡ u
unfolding perform
user_is i c out a u e h = sym (ap (λ (o : Outcome). user_of o.answer) (step-done i c out a e)) ∙ ap user_of e ∙ h

pub transport_is : (i : Input) (c : Connection) (out : List ℕ) (a : Actions) (d : ToTransport) → (step i c out).answer ≡ done a → a.transport ≡ d → (meets i c).down ≡ d
unfolding perform
transport_is i c out a d e h = sym (ap (λ (o : Outcome). transport_of o.answer) (step-done i c out a e)) ∙ ap transport_of e ∙ h

-- ---- the square of an outgoing event

abbrev pub up_code : Up → ℕ
up_code no = 0
up_code SaConnInd = 1
up_code SaConnConf = 2
up_code SaDataInd = 3
up_code SaDiscInd = 4
up_code SaReportInd = 5

abbrev pub user_code : ToUser → ℕ
user_code User.Nothing = 0
user_code User.ConnectIndication = 1
user_code User.ConnectConfirmation = 2
user_code (User.DataIndication n) = 3
user_code (User.DisconnectIndication why) = 4
user_code (User.ReportIndication why) = 5

up-code : (u : Up) (v : Verdict) → up_code u ≡ user_code (to_user u v)
up-code no v = refl
up-code SaConnInd v = refl
up-code SaConnConf v = refl
up-code SaDataInd v = refl
up-code SaDiscInd v = refl
up-code SaReportInd v = refl

abbrev pub down_code : ToTransport → ℕ
down_code Quiet = 0
down_code TConnReq = 1
down_code TConnResp = 2
down_code TDiscReq = 3
down_code TDiscReqDi = 4
down_code SendAu3 = 5
down_code SendAr = 6
down_code SendDt = 7

pub user_in : (e : Event) (s : State) (u : ToUser) → every_square (only_in (λ q. eqb (up_code q.up) (user_code u)) e s) ≡ true → (i : Input) (c : Connection)
    → to_user (meets i c).up (asked i c).verdict ≡ u → ((asked i c).event ≡ e) × (state_of c.state ≡ s)
user_in e s u t i c h =
    only_in_lem (λ q. eqb (up_code q.up) (user_code u)) e s t i c
    (eq-eqb (up_code (meets i c).up) (user_code u) (up-code (meets i c).up (asked i c).verdict ∙ ap user_code h))

pub transport_in : (e : Event) (s : State) (d : ToTransport) → every_square (only_in (λ q. eqb (down_code q.down) (down_code d)) e s) ≡ true → (i : Input) (c : Connection)
    → (meets i c).down ≡ d → ((asked i c).event ≡ e) × (state_of c.state ≡ s)
transport_in e s d t i c h =
    only_in_lem (λ q. eqb (down_code q.down) (down_code d)) e s t i c (eq-eqb (down_code (meets i c).down) (down_code d) (ap down_code h))
