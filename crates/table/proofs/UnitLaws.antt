-- Units that T-DATA.ind brings: from the facts of the code to the contract of `unit`.
-- Assumes nothing.
use Rattle.std.specs.Prelude.{Result, Ok, Err}
use mathlib.Core.Path.{◌≡◌, refl, sym, ap, ◌∙◌}
use mathlib.Core.Bool.{Bool, true, false, not, cond}
use mathlib.Core.List.{List, [], ◌∷◌}
use mathlib.Core.Logic.{◌⊎◌, inl, inr}
use Prim.Native.Nat.{ℕ, ◌+◌, ◌≤◌, ◌<◌}
use native.Mathlib.Omega.{arith}
use lib.Dec.{eqb}
use lib.ListN.{length}
use Rattle.octets.specs.Bytes.{between, splice}
use borrow.Author.Tests.{ne_eqb, eqb-true, eqb-false, le-leb}
use Rattle.refusal.specs.declared.Refusal.{Refusal}
use Rattle.refusal.specs.House.{Answer, house, gives}
use Rattle.authentication.specs.Unit.{unit_of, built, buffer, built_as, Builds, checked, data_of}
use Rattle.units.specs.declared.Code.{Code}
use Rattle.table.specs.declared.Connection.{Connection}
use Rattle.table.specs.declared.Actions.{Actions}
use Rattle.units.specs.Units.{Fault, code, mti, etcs_id, au3_fault, ar_fault, code, contents_code}
use Rattle.table.specs.declared.Kind.{Kind}
use Rattle.table.specs.declared.Kind.TheVariants.{Au3, Ar, Dt}
use Rattle.table.specs.declared.State.{State}
use Rattle.table.specs.declared.State.TheVariants.{IDLE, WFTC, WFAR, DATA, WFAU3, WFRESP}
use Rattle.table.specs.declared.ToTransport.TheVariants.{Quiet, TDiscReqDi}
use Rattle.table.specs.declared.Timer.TheVariants.{Keep}
use Rattle.table.specs.Table.{Square, square_of, DT, ok, pre, SaDataInd, SaDiscInd, SaReportInd, a19, to, state_code, state_of, is, protocol_error, blank, filled, square, row_in, table}
use Rattle.table.specs.Steps.{Verdict, good, because, unless, out_of_sequence, judged_data, kind_of, plain, kind_event, judged_unit, unit_indication, asked, starts_set_up, carried, acts, to_user, after, perform, step, Outcome, up_data, handed_up, Does}
use Rattle.table.specs.Parts.{unawaited}
use Rattle.table.proofs.StepLaws.{step-short, step-performs, does-perform, does-quiet}
use Rattle.table.proofs.TableLaws.{blank-square}

-- a unit in a state, judged as v, meets the square q
pub unit_steps : (k : Kind) (s : State) (v : Verdict) (q : Square) (c : Connection) (unit out : List ℕ) → 1032 ≤ length out → state_of c.state ≡ s → judged_unit k s c unit ≡ v
    → square (kind_event k) s v.when ≡ q → starts_set_up q.down ≡ false → step (unit_indication k unit) c out ≡ perform q (plain (kind_event k) v c) c out
unfolding asked
unit_steps k s v q c unit out room e j f g =
    let judged : judged_unit k (state_of c.state) c unit ≡ v = ap (λ (s : State). judged_unit k s c unit) e ∙ j in
    let met : square (kind_event k) (state_of c.state) (judged_unit k (state_of c.state) c unit).when ≡ q =
    ap (λ (v : Verdict). square (kind_event k) (state_of c.state) v.when) judged ∙ ap (λ (s : State). square (kind_event k) s v.when) e ∙ f in
    step-performs (unit_indication k unit) c out q 0 room refl met (ap (λ (b : Bool). cond b (gives 0) (gives 0)) g)
    ∙ ap (λ (v : Verdict). perform q (plain (kind_event k) v c) c out) judged

-- and nothing goes out to the transport, or a unit does
pub unit-quiet : (k : Kind) (s : State) (v : Verdict) (q : Square) (c : Connection) (unit out : List ℕ) {answer : Result Actions Refusal} {then : Connection} → 1032 ≤ length out → state_of c.state ≡ s
    → judged_unit k s c unit ≡ v → square (kind_event k) s v.when ≡ q → starts_set_up q.down ≡ false → carried q.down (plain (kind_event k) v c) ≡ []
    → answer ≡ Ok (acts (to_user q.up v) q.down q.timer 0) → then ≡ after q.next c c → Does (step (unit_indication k unit) c out) answer then out
unit-quiet k s v q c unit out room e j f g n p a = does-quiet q (plain (kind_event k) v c) c out (unit_steps k s v q c unit out room e j f g) n p a

pub unit-sent : (k : Kind) (s : State) (v : Verdict) (q : Square) (c : Connection) (unit out : List ℕ) {answer : Result Actions Refusal} {then : Connection} {written : List ℕ} → 1032 ≤ length out
    → state_of c.state ≡ s → judged_unit k s c unit ≡ v → square (kind_event k) s v.when ≡ q → starts_set_up q.down ≡ false
    → answer ≡ Ok (acts (to_user q.up v) q.down q.timer (length (carried q.down (plain (kind_event k) v c)))) → then ≡ after q.next c c
    → written ≡ splice out 0 (carried q.down (plain (kind_event k) v c)) → Does (step (unit_indication k unit) c out) answer then written
unit-sent k s v q c unit out {answer} {then} {written} room e j f g p a w =
    does-perform q (plain (kind_event k) v c) c out (step (unit_indication k unit) c out) answer then written (unit_steps k s v q c unit out room e j f g) p a w

-- ---- kinds

-- nothing at all is taken as a DT
pub empty-is-dt : (unit : List ℕ) → length unit ≡ 0 → Dt ≡ kind_of unit
empty-is-dt [] e = refl
empty-is-dt (b ∷ unit) e = absurd (omega (arith, e))

-- by its MTI
pub kind-by : (unit : List ℕ) (k : Kind) {n : ℕ} → n ≡ mti unit → k ≡ cond (eqb n 3) Au3 (cond (eqb n 9) Ar Dt) → k ≡ kind_of unit
kind-by unit k e p = p ∙ ap (λ (n : ℕ). cond (eqb n 3) Au3 (cond (eqb n 9) Ar Dt)) e

-- ---- protocol errors

-- a blank square of a unit is one
error_blank : (k : Kind) (s : State) → blank (kind_event k) s ≡ protocol_error s
error_blank Au3 s = refl
error_blank Ar s = refl
error_blank Dt s = refl

-- which does not start set-up
error_starts : (s : State) → starts_set_up (protocol_error s).down ≡ false
error_starts IDLE = refl
error_starts WFTC = refl
error_starts WFAR = refl
error_starts DATA = refl
error_starts WFAU3 = refl
error_starts WFRESP = refl

-- and so is the unit treated
pub error_performs : (k : Kind) (c : Connection) (unit out : List ℕ) → 1032 ≤ length out → filled table (kind_event k) (state_of c.state) ≡ false
    → step (unit_indication k unit) c out ≡ perform (protocol_error (state_of c.state)) (asked (unit_indication k unit) c) c out
unfolding asked
error_performs k c unit out room h =
    let s = state_of c.state in
    step-performs (unit_indication k unit) c out (protocol_error s) 0 room refl (blank-square (kind_event k) s (judged_unit k s c unit).when h ∙ error_blank k s)
    (ap (λ (b : Bool). cond b (gives 0) (gives 0)) (error_starts s))

-- the same in a state that does not wait for the unit
unawaited_steps : (k : Kind) (c : Connection) (unit out : List ℕ) → 1032 ≤ length out → filled table (kind_event k) (state_of c.state) ≡ false
    → judged_unit k (state_of c.state) c unit ≡ because ok (out_of_sequence (state_of c.state) k) → step (unit_indication k unit) c out ≡ unawaited k (state_of c.state) c out
unfolding asked
unawaited_steps k c unit out room h j =
    error_performs k c unit out room h ∙ ap (λ (v : Verdict). perform (protocol_error (state_of c.state)) (plain (kind_event k) v c) c out) j

-- what the code hands back for one: without a unit, and with one
pub error_quiet : (k : Kind) (s : State) (c : Connection) (out : List ℕ) {r : State} {answer : Result Actions Refusal} {then : Connection} → r ≡ state_of c.state → r ≡ s
    → carried (protocol_error s).down (plain (kind_event k) (because ok (out_of_sequence s k)) c) ≡ []
    → answer ≡ Ok (acts (to_user (protocol_error s).up (because ok (out_of_sequence s k))) (protocol_error s).down (protocol_error s).timer 0)
    → then ≡ after (protocol_error s).next c c → Does (unawaited k (state_of c.state) c out) answer then out
error_quiet k s c out found told n p a =
    does-quiet (protocol_error s) (plain (kind_event k) (because ok (out_of_sequence s k)) c) c out (ap (λ (s : State). unawaited k s c out) (sym found ∙ told)) n p a

pub error_sent : (k : Kind) (s : State) (c : Connection) (out : List ℕ) {r : State} {answer : Result Actions Refusal} {then : Connection} {written : List ℕ} → r ≡ state_of c.state → r ≡ s
    → answer ≡ Ok (acts (to_user (protocol_error s).up (because ok (out_of_sequence s k))) (protocol_error s).down (protocol_error s).timer
    (length (carried (protocol_error s).down (plain (kind_event k) (because ok (out_of_sequence s k)) c))))
    → then ≡ after (protocol_error s).next c c → written ≡ splice out 0 (carried (protocol_error s).down (plain (kind_event k) (because ok (out_of_sequence s k)) c))
    → Does (unawaited k (state_of c.state) c out) answer then written
error_sent k s c out {r} {answer} {then} {written} found told p a w =
    does-perform (protocol_error s) (plain (kind_event k) (because ok (out_of_sequence s k)) c) c out (unawaited k (state_of c.state) c out) answer then written
    (ap (λ (s : State). unawaited k s c out) (sym found ∙ told)) p a w

-- the code of a state is the connection's, or that of IDLE
code_of : (n : ℕ) → (state_code (state_of n) ≡ n) ⊎ (state_code (state_of n) ≡ 0)
code_of n = go (eqb n 1) (eqb n 2) (eqb n 3) (eqb n 4) (eqb n 5) refl refl refl refl refl
  where
    coded : Bool → Bool → Bool → Bool → Bool → State
    coded a b d e f = cond a WFTC (cond b WFAR (cond d DATA (cond e WFAU3 (cond f WFRESP IDLE))))

    go : (a b d e f : Bool) → eqb n 1 ≡ a → eqb n 2 ≡ b → eqb n 3 ≡ d → eqb n 4 ≡ e → eqb n 5 ≡ f → (state_code (coded a b d e f) ≡ n) ⊎ (state_code (coded a b d e f) ≡ 0)
    go true b d e f p q r s t = inl (sym (eqb-true n 1 p))
    go false true d e f p q r s t = inl (sym (eqb-true n 2 q))
    go false false true e f p q r s t = inl (sym (eqb-true n 3 r))
    go false false false true f p q r s t = inl (sym (eqb-true n 4 s))
    go false false false false true p q r s t = inl (sym (eqb-true n 5 t))
    go false false false false false p q r s t = inr refl

-- a connection whose code is not the one of a state is not in it
pub not_in : (w : State) (n : ℕ) → 0 < state_code w → (n ≡ state_code w → ⊥) → is w (state_of n) ≡ false
not_in w n p h = ne_eqb (state_code w) (state_code (state_of n)) (λ e. go e (code_of n))
  where
    go : state_code w ≡ state_code (state_of n) → (state_code (state_of n) ≡ n) ⊎ (state_code (state_of n) ≡ 0) → ⊥
    go e (inl f) = h (sym (e ∙ f))
    go e (inr f) = omega (arith, p, e, f)

-- and there the unit is a protocol error
pub au3-unawaited : (c : Connection) (unit out : List ℕ) → 1032 ≤ length out → is WFAU3 (state_of c.state) ≡ false → step (unit_indication Au3 unit) c out ≡ unawaited Au3 (state_of c.state) c out
unfolding judged_unit filled table
au3-unawaited c unit out room e =
    unawaited_steps Au3 c unit out room (simp e)
    (ap (λ (b : Bool). cond b (unless 3 (au3_fault c.key c.own c.ra c.rb unit)) (because ok (out_of_sequence (state_of c.state) Au3))) e)

pub ar-unawaited : (c : Connection) (unit out : List ℕ) → 1032 ≤ length out → is WFAR (state_of c.state) ≡ false → step (unit_indication Ar unit) c out ≡ unawaited Ar (state_of c.state) c out
unfolding judged_unit filled table
ar-unawaited c unit out room e =
    unawaited_steps Ar c unit out room (simp e)
    (ap (λ (b : Bool). cond b (unless 4 (ar_fault c.key c.own unit)) (because ok (out_of_sequence (state_of c.state) Ar))) e)

pub dt-unawaited : (c : Connection) (unit out : List ℕ) → 1032 ≤ length out → is DATA (state_of c.state) ≡ false → step (unit_indication Dt unit) c out ≡ unawaited Dt (state_of c.state) c out
unfolding judged_unit filled table
dt-unawaited c unit out room e =
    unawaited_steps Dt c unit out room (simp e)
    (ap (λ (b : Bool). cond b (judged_data (checked unit c.key (etcs_id c.own) (not c.responder)) c.responder unit) (because ok (out_of_sequence (state_of c.state) Dt))) e)

-- ---- a DT in DATA

-- H8 is Pre5
pub dt-reported : (c : Connection) (unit : List ℕ) (m : ℕ) {n : ℕ} → checked unit c.key (etcs_id c.own) (not c.responder) ≡ house m → n ≡ m → n ≡ 8
    → judged_unit Dt DATA c unit ≡ because (pre 5) (code 4 1)
unfolding judged_unit
dt-reported c unit m e p q = ap (λ (a : Answer). judged_data a c.responder unit) (e ∙ ap house (sym p ∙ q))

-- H7 and H9 are Pre6
pub dt_broken : (c : Connection) (unit : List ℕ) (m n : ℕ) (x : Code) → checked unit c.key (etcs_id c.own) (not c.responder) ≡ house m → n ≡ m → (n ≡ 8 → ⊥)
    → x ≡ cond (eqb n 9) (contents_code c.responder unit) (code 10 5) → judged_unit Dt DATA c unit ≡ because (pre 6) x
unfolding judged_unit
dt_broken c unit m n x e p q f =
    ap (λ (a : Answer). judged_data a c.responder unit) (e ∙ ap house (sym p))
    ∙ ap (λ (b : Bool). cond b (because (pre 5) (code 4 1)) (because (pre 6) (cond (eqb n 9) (contents_code c.responder unit) (code 10 5)))) (ne_eqb n 8 q)
    ∙ ap (λ (x : Code). because (pre 6) x) (sym f)

-- and user data go up
pub dt-accepted : (c : Connection) (unit : List ℕ) (n : ℕ) → checked unit c.key (etcs_id c.own) (not c.responder) ≡ gives n
    → judged_unit Dt DATA c unit ≡ record { when = ok; why = code 0 0; count = n }
unfolding judged_unit
dt-accepted c unit n e = ap (λ (a : Answer). judged_data a c.responder unit) e

-- ---- user data that go up

-- a square that hands up no user data, whatever the verdict, and does not start set-up
record Hushed (q : Square) : Type 0 where
  pub mute : (v : Verdict) (unit : List ℕ) → [] ≡ up_data (to_user q.up v) unit
  pub plain : starts_set_up q.down ≡ false

-- none where the call refuses
pub refused-up : (k : Kind) (c : Connection) (unit out : List ℕ) → length out < 1032 → [] ≡ handed_up (step (unit_indication k unit) c out).answer unit
refused-up k c unit out l = sym (ap (λ (o : Outcome). handed_up o.answer unit) (step-short (unit_indication k unit) c out l))

-- none of a protocol error
error_up : (k : Kind) (s : State) (c : Connection) (unit out : List ℕ) → [] ≡ handed_up (unawaited k s c out).answer unit
unfolding perform
error_up k IDLE c unit out = refl
error_up k WFTC c unit out = refl
error_up k WFAR c unit out = refl
error_up k DATA c unit out = refl
error_up k WFAU3 c unit out = refl
error_up k WFRESP c unit out = refl

-- none of an AU3 or AR, whatever its fault
judged-up : (k : Kind) (s : State) (n : ℕ) (f : Fault) (c : Connection) (unit out : List ℕ) → 1032 ≤ length out → state_of c.state ≡ s → judged_unit k s c unit ≡ unless n f
    → Hushed (square (kind_event k) s ok) → Hushed (square (kind_event k) s (pre n)) → [] ≡ handed_up (step (unit_indication k unit) c out).answer unit
unfolding perform
judged-up k s n (Ok u) c unit out room e j a b =
    a.mute good unit ∙ sym (ap (λ (o : Outcome). handed_up o.answer unit) (unit_steps k s good (square (kind_event k) s ok) c unit out room e j refl a.plain))
judged-up k s n (Err x) c unit out room e j a b =
    b.mute (because (pre n) x) unit
    ∙ sym (ap (λ (o : Outcome). handed_up o.answer unit) (unit_steps k s (because (pre n) x) (square (kind_event k) s (pre n)) c unit out room e j refl b.plain))

pub au3-up : (c : Connection) (unit out : List ℕ) → 1032 ≤ length out → [] ≡ handed_up (step (unit_indication Au3 unit) c out).answer unit
unfolding judged_unit square row_in table
au3-up c unit out room = go (state_of c.state) refl
  where
    other : is WFAU3 (state_of c.state) ≡ false → [] ≡ handed_up (step (unit_indication Au3 unit) c out).answer unit
    other e = error_up Au3 (state_of c.state) c unit out ∙ sym (ap (λ (o : Outcome). handed_up o.answer unit) (au3-unawaited c unit out room e))

    go : (s : State) → state_of c.state ≡ s → [] ≡ handed_up (step (unit_indication Au3 unit) c out).answer unit
    go IDLE e = other (ap (is WFAU3) e)
    go WFTC e = other (ap (is WFAU3) e)
    go WFAR e = other (ap (is WFAU3) e)
    go DATA e = other (ap (is WFAU3) e)
    go WFAU3 e =
        judged-up Au3 WFAU3 3 (au3_fault c.key c.own c.ra c.rb unit) c unit out room e refl (record { mute = λ v u. refl; plain = refl }) (record { mute = λ v u. refl; plain = refl })
    go WFRESP e = other (ap (is WFAU3) e)

pub ar-up : (c : Connection) (unit out : List ℕ) → 1032 ≤ length out → [] ≡ handed_up (step (unit_indication Ar unit) c out).answer unit
unfolding judged_unit square row_in table
ar-up c unit out room = go (state_of c.state) refl
  where
    other : is WFAR (state_of c.state) ≡ false → [] ≡ handed_up (step (unit_indication Ar unit) c out).answer unit
    other e = error_up Ar (state_of c.state) c unit out ∙ sym (ap (λ (o : Outcome). handed_up o.answer unit) (ar-unawaited c unit out room e))

    go : (s : State) → state_of c.state ≡ s → [] ≡ handed_up (step (unit_indication Ar unit) c out).answer unit
    go IDLE e = other (ap (is WFAR) e)
    go WFTC e = other (ap (is WFAR) e)
    go WFAR e = judged-up Ar WFAR 4 (ar_fault c.key c.own unit) c unit out room e refl (record { mute = λ v u. refl; plain = refl }) (record { mute = λ v u. refl; plain = refl })
    go DATA e = other (ap (is WFAR) e)
    go WFAU3 e = other (ap (is WFAR) e)
    go WFRESP e = other (ap (is WFAR) e)

-- none of a DT outside DATA
pub dt_elsewhere_up : (c : Connection) (unit out : List ℕ) → 1032 ≤ length out → (c.state ≡ state_code DATA → ⊥) → [] ≡ handed_up (step (unit_indication Dt unit) c out).answer unit
dt_elsewhere_up c unit out room e =
    error_up Dt (state_of c.state) c unit out ∙ sym (ap (λ (o : Outcome). handed_up o.answer unit) (dt-unawaited c unit out room (not_in DATA c.state (omega arith) e)))

-- and in DATA those that check hands out
pub dt-up : (c : Connection) (unit out : List ℕ) → 1032 ≤ length out → state_of c.state ≡ DATA
    → data_of (checked unit c.key (etcs_id c.own) (not c.responder)) unit ≡ handed_up (step (unit_indication Dt unit) c out).answer unit
unfolding perform square row_in table
dt-up c unit out room e = go (checked unit c.key (etcs_id c.own) (not c.responder)) refl
  where
    by : (v : Verdict) (q : Square) → judged_unit Dt DATA c unit ≡ v → square DT DATA v.when ≡ q → starts_set_up q.down ≡ false
        → handed_up (perform q (plain DT v c) c out).answer unit ≡ handed_up (step (unit_indication Dt unit) c out).answer unit
    by v q j f g = sym (ap (λ (o : Outcome). handed_up o.answer unit) (unit_steps Dt DATA v q c unit out room e j f g))

    refused : (n : ℕ) (b : Bool) → eqb n 8 ≡ b → checked unit c.key (etcs_id c.own) (not c.responder) ≡ house n → [] ≡ handed_up (step (unit_indication Dt unit) c out).answer unit
    refused n true p h = by (because (pre 5) (code 4 1)) (square_of SaReportInd Quiet Keep (to DATA)) (dt-reported c unit n h refl (eqb-true n 8 p)) refl refl
    refused n false p h =
        by (because (pre 6) (cond (eqb n 9) (contents_code c.responder unit) (code 10 5))) (square_of SaDiscInd TDiscReqDi a19 (to IDLE))
        (dt_broken c unit n n _ h refl (eqb-false n 8 p) refl) refl refl

    go : (a : Answer) → checked unit c.key (etcs_id c.own) (not c.responder) ≡ a → data_of a unit ≡ handed_up (step (unit_indication Dt unit) c out).answer unit
    go (gives n) h = by (record { when = ok; why = code 0 0; count = n }) (square_of SaDataInd Quiet Keep (to DATA)) (dt-accepted c unit n h) refl refl
    go (house n) h = refused n (eqb n 8) refl h

-- ---- user data to send

-- a DT that build writes, and its length
module _ (key destination : List ℕ) (direction : Bool) (user out : List ℕ) {after : List ℕ} {r : Result ℕ Refusal} (k : length key ≡ 24) (room : 1032 ≤ length out)
    (s : between 1 1023 (length user) ≡ true) (b : Builds key destination direction user out after r) where
  answered : (r : Result ℕ Refusal) (n : ℕ) → built_as r ≡ gives n → r ≡ Ok n
  answered (Ok m) n e = cc
  answered (Err h) n e = let z : ◌≡◌ {A = ℕ} 0 1 = cc in absurd (omega arith)

  builds : built key user out ≡ gives (length user + 9)
  unfolding built
  builds = simp (k, le-leb 1032 (length out) room, s)

  pub unit-long : r ≡ Ok (length user + 9)
  unit-long = answered r (length user + 9) (b.answer ∙ builds)

  pub unit-built : after ≡ splice out 0 (unit_of key destination direction user)
  unit-built = b.written ∙ ap (λ (a : Answer). buffer a (unit_of key destination direction user) out) builds
