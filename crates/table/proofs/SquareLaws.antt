-- What a step does in a blank square, and with a DT unit in DATA.
-- Assumes nothing.
use mathlib.Core.Path.{◌≡◌, refl, sym, ap, ap₂, ◌∙◌}
use mathlib.Core.Bool.{true, false, cond}
use mathlib.Core.List.{List, []}
use Prim.Native.Nat.{ℕ, ◌≤◌}
use native.Mathlib.Omega.{arith}
use lib.Dec.{eqb}
use lib.ListN.{length}
use Rattle.octets.specs.Bytes.{splice}
use Rattle.octets.proofs.SpliceLaws.{splice-none}
use Rattle.refusal.specs.House.{house, gives}
use Rattle.units.specs.Units.{di_unit, code, contents_code}
use Rattle.table.specs.declared.Connection.{Connection}
use Rattle.table.specs.declared.Kind.{Kind}
use Rattle.table.specs.declared.Kind.TheVariants.{Dt}
use Rattle.table.specs.declared.State.{State}
use Rattle.table.specs.declared.State.TheVariants.{IDLE, DATA}
use Rattle.table.specs.declared.ToUser.TheVariants as User
use Rattle.table.specs.declared.ToTransport.TheVariants.{Quiet, TDiscReqDi}
use Rattle.table.specs.declared.Timer.TheVariants.{Keep}
use Rattle.table.specs.Table.{SaConnReq, TConnInd, DT, ok, pre, SaDataInd, SaDiscInd, SaReportInd, to, Square, square_of, a19, table, state_code, state_of, row_in, filled, no_action, protocol_error, blank, square}
use Rattle.table.specs.Steps.{Verdict, because, judged_unit, Input, connect_request, connect_response, data_request, disconnect_request, connect_indication, connect_confirmation, disconnect_indication, unit_indication, time_out, plain, kind_event, asked, sendable, carried, starts_set_up, with_state, moved, acts, Answered, done, Outcome, perform, step}
use Rattle.table.specs.Claims.{Follows, data_answer, closing, CountedAs, unmoved, NoUnit, BlanksFollowed, ExpiryClosesNothing}
use Rattle.table.proofs.StepLaws.{step-performs}
use Rattle.table.proofs.TableLaws.{elsewhere, blank-square}
use Rattle.table.proofs.UnitLaws.{unit_steps, error_performs, dt-reported, dt_broken, dt-accepted}
use Rattle.table.proofs.EndLaws.{performed-follows}

-- ---- blank squares

plain-blank : (i : Input) (c : Connection) → NoUnit i → blank (asked i c).event (state_of c.state) ≡ no_action
unfolding asked
plain-blank (connect_request acceptable own peer t rb store) c f = refl
plain-blank connect_response c f = refl
plain-blank (data_request sent) c f = refl
plain-blank (disconnect_request reason sub) c f = refl
plain-blank (connect_indication acceptable own t ra unit store) c f = refl
plain-blank (connect_confirmation unit) c f = refl
plain-blank (disconnect_indication reason unit) c f = refl
plain-blank (unit_indication kind unit) c f = absurd (f kind unit refl)
plain-blank time_out c f = refl

no_action_lem : (i : Input) (c : Connection) (out : List ℕ) → NoUnit i → filled table (asked i c).event (state_of c.state) ≡ false → 1032 ≤ length out → sendable i ≡ true
    → step i c out ≡ unmoved c out
unfolding perform carried
no_action_lem i c out f h l s =
    step-performs i c out no_action 0 l s (blank-square (asked i c).event (state_of c.state) (asked i c).verdict.when h ∙ plain-blank i c f) refl
    ∙ ap (λ (o : List ℕ). record { answer = done (acts User.Nothing Quiet Keep 0); connection = c; output = o }) (splice-none out 0)

protocol_error_lem : (k : Kind) (unit : List ℕ) (c : Connection) (out : List ℕ) → filled table (kind_event k) (state_of c.state) ≡ false → 1032 ≤ length out
    → Follows (unit_indication k unit) c out (protocol_error (state_of c.state))
protocol_error_lem k unit c out h l =
    performed-follows (unit_indication k unit) c out (protocol_error (state_of c.state)) (error_performs k c unit out l h)

pub blanks-followed : BlanksFollowed
unfolding square row_in table
blanks-followed =
    record {
      blanks = blank-square;
      no_action_lem = no_action_lem;
      unit = protocol_error_lem;
      in-IDLE = refl;
      in-WFTC = refl;
      in-WFAR = refl;
      in-DATA = refl;
      in-WFAU3 = refl;
      in-WFRESP = refl;
    }

-- ---- expiry

request-blank : (s : State) → (s ≡ IDLE → ⊥) → filled table SaConnReq s ≡ false
unfolding table filled
request-blank s f = elsewhere SaConnReq IDLE s refl f

indication-blank : (s : State) → (s ≡ IDLE → ⊥) → filled table TConnInd s ≡ false
unfolding table filled
indication-blank s f = elsewhere TConnInd IDLE s refl f

pub expiry_closes_nothing : ExpiryClosesNothing
unfolding asked
expiry_closes_nothing =
    record {
      of_request = λ acceptable own peer t rb store c out f l.
          no_action_lem (connect_request acceptable own peer t rb store) c out (λ k unit e. let z : ◌≡◌ {A = ℕ} 0 1 = cc in omega arith) (request-blank (state_of c.state) f) l refl;
      of_indication = λ acceptable own t ra unit store c out f l.
          no_action_lem (connect_indication acceptable own t ra unit store) c out (λ k unit e. let z : ◌≡◌ {A = ℕ} 0 1 = cc in omega arith) (indication-blank (state_of c.state) f) l refl;
    }

-- ---- a DT unit in DATA

module _ (c : Connection) (unit out : List ℕ) (running : c.state ≡ state_code DATA) (room : 1032 ≤ length out) where
  in_row : (v : Verdict) (q : Square) → judged_unit Dt DATA c unit ≡ v → square DT DATA v.when ≡ q → starts_set_up q.down ≡ false
      → step (unit_indication Dt unit) c out ≡ perform q (plain DT v c) c out
  in_row v q j f g = unit_steps Dt DATA v q c unit out room (ap state_of running) j f g

  -- the connection goes on
  goes_on_lem : (x : Answered) → ◌≡◌ {A = Outcome} (record { answer = x; connection = moved c DATA; output = splice out 0 [] }) (record { answer = x; connection = c; output = out })
  goes_on_lem x = ap₂ (λ (n : ℕ) (o : List ℕ). record { answer = x; connection = with_state c n; output = o }) (sym running) (splice-none out 0)

  taken : (n : ℕ) → data_answer c unit ≡ gives n
      → step (unit_indication Dt unit) c out ≡ record { answer = done (acts (User.DataIndication n) Quiet Keep 0); connection = c; output = out }
  unfolding square row_in table perform carried
  taken n e = in_row (record { when = ok; why = code 0 0; count = n }) (square_of SaDataInd Quiet Keep (to DATA)) (dt-accepted c unit n e) refl refl ∙ goes_on_lem _

  reported : data_answer c unit ≡ house 8
      → step (unit_indication Dt unit) c out ≡ record { answer = done (acts (User.ReportIndication (code 4 1)) Quiet Keep 0); connection = c; output = out }
  unfolding square row_in table perform carried
  reported e = in_row (because (pre 5) (code 4 1)) (square_of SaReportInd Quiet Keep (to DATA)) (dt-reported c unit 8 e refl refl) refl refl ∙ goes_on_lem _

  closed : (n : ℕ) → data_answer c unit ≡ house n → (n ≡ 8 → ⊥) → step (unit_indication Dt unit) c out ≡ closing c (cond (eqb n 9) (contents_code c.responder unit) (code 10 5)) out
  unfolding square row_in table perform carried di_unit
  closed n e f =
      let why = cond (eqb n 9) (contents_code c.responder unit) (code 10 5) in
      in_row (because (pre 6) why) (square_of SaDiscInd TDiscReqDi a19 (to IDLE)) (dt_broken c unit n n why e refl f refl) refl refl

pub counted_as : CountedAs
counted_as =
    record {
      accepted = λ c unit out n s l e. taken c unit out s l n e;
      h8 = λ c unit out s l e. reported c unit out s l e;
      h7 = λ c unit out s l e. closed c unit out s l 7 e (λ p. omega arith);
      h9 = λ c unit out s l e. closed c unit out s l 9 e (λ p. omega arith);
      others = λ c unit out n s l e f. (cond (eqb n 9) (contents_code c.responder unit) (code 10 5), closed c unit out s l n e f);
    }
