-- How long the unit is that a step writes, and how much user data go up.
-- Assumes nothing.
use Rattle.std.specs.Prelude.{Ok, Err}
use mathlib.Core.Path.{◌≡◌, refl, sym, ap, ◌∙◌}
use mathlib.Core.Bool.{Bool, true, false, not, cond}
use mathlib.Core.List.{List, [], ◌∷◌, ◌++◌}
use Prim.Native.Nat.{ℕ, ◌-◌, ◌≤◌, ◌<◌, ◌^◌}
use native.Mathlib.Nat.{min-le_left}
use native.Mathlib.Omega.{arith}
use lib.Dec.{lit<, lit≤, eqb, leb}
use lib.ListN.{length, length-append}
use Rattle.octets.specs.Bytes.{part}
use Rattle.octets.proofs.BoolLaws.{between-true}
use Rattle.octets.proofs.PartLaws.{part-long}
use Rattle.refusal.specs.House.{Answer, house, gives}
use Rattle.authentication.specs.Unit.{first_byte, checked}
use Rattle.authentication.proofs.MacLaws.{length-mac}
use Rattle.authentication.proofs.UnitLaws.{length-unit}
use Rattle.authentication.proofs.AnswerLaws.{passed}
use Rattle.units.specs.declared.Code.{Code}
use Rattle.units.specs.Units.{Fault, etcs_id, random, au1_unit, au2_text, au2_mac, au2_unit, au3_mac, au3_unit, ar_mac, ar_unit, di_unit, au1_fault, au2_fault, au3_fault, ar_fault, code, contents_code}
use Rattle.table.specs.declared.Connection.{Connection}
use Rattle.table.specs.declared.Kind.{Kind}
use Rattle.table.specs.declared.Kind.TheVariants.{Au3, Ar, Dt}
use Rattle.table.specs.declared.State.{State}
use Rattle.table.specs.declared.State.TheVariants.{DATA, WFAR, WFAU3}
use Rattle.table.specs.declared.Actions.{Actions}
use Rattle.table.specs.declared.ToUser.{ToUser}
use Rattle.table.specs.declared.ToUser.TheVariants.{Nothing, DataIndication}
use Rattle.table.specs.declared.ToTransport.{ToTransport}
use Rattle.table.specs.declared.ToTransport.TheVariants.{Quiet, TConnReq, TConnResp, TDiscReq, TDiscReqDi, SendAu3, SendAr, SendDt}
use Rattle.table.specs.Table.{ok, pre, Up, no, SaConnInd, SaConnConf, SaDataInd, SaDiscInd, SaReportInd, state_of, is}
use Rattle.table.specs.Steps.{confirmed, Verdict, because, unless, typed, out_of_sequence, judged_data, judged_unit, Input, connect_request, connect_response, data_request, disconnect_request, connect_indication, connect_confirmation, disconnect_indication, unit_indication, time_out, Asked, asked, sendable, carried, to_user, Answered, done, refused, refuse, at_table, step}
use Rattle.table.proofs.StepLaws.{meets}
use Rattle.table.proofs.EndLaws.{step_follows}
use Rattle.connection_buffer.specs.ConnectionBuffer.{connection_of, Short}

-- what is not refused is sendable
done-sendable : (i : Input) (c : Connection) (out : List ℕ) (a : Actions) → (step i c out).answer ≡ done a → sendable i ≡ true
unfolding step
done-sendable i c out a e = go (sendable i) refl (leb 1032 (length out)) e
  where
    go : (s : Bool) → sendable i ≡ s → (room : Bool) → (cond room (cond s (at_table (asked i c) c out) (refuse 10 c out)) (refuse 2 c out)).answer ≡ done a → sendable i ≡ true
    go true p room q = p
    go false p true q = let z : ◌≡◌ {A = ℕ} 0 1 = cc in absurd (omega arith)
    go false p false q = let z : ◌≡◌ {A = ℕ} 0 1 = cc in absurd (omega arith)

-- ---- the unit that goes out

-- what a unit is made of: random numbers of at most 8 bytes, user data of at most 1,023
record Sized (a : Asked) : Type 0 where
  ra_most : length a.about.ra ≤ 8
  rb_most : length a.about.rb ≤ 8
  sent_most : length a.sent ≤ 1023

carried-most : (d : ToTransport) (a : Asked) → Sized a → length (carried d a) ≤ 1032
unfolding carried au1_unit au2_unit au2_text au2_mac au3_unit au3_mac ar_unit ar_mac di_unit
carried-most Quiet a h = omega arith
carried-most TConnReq a h = omega (arith, h.rb_most)
carried-most TConnResp a h =
    let text = au2_text a.about.own a.about.ra in
    let sealed = au2_mac a.about.key a.about.peer a.about.rb text in
    omega (arith, h.ra_most, length-append text sealed, length-mac a.about.key (etcs_id a.about.peer) (text ++ (a.about.rb ++ etcs_id a.about.peer)))
carried-most TDiscReq a h = omega arith
carried-most TDiscReqDi a h = omega arith
carried-most SendAu3 a h = omega (arith, length-mac a.about.key (etcs_id a.about.peer) (first_byte 0 3 0 ∷ a.about.rb ++ a.about.ra))
carried-most SendAr a h = omega (arith, length-mac a.about.key (etcs_id a.about.peer) (first_byte 0 9 1 ∷ []))
carried-most SendDt a h = omega (arith, h.sent_most, length-unit a.about.key (etcs_id a.about.peer) a.about.responder a.sent)

part-most : (s : List ℕ) (i n : ℕ) → length (part s i n) ≤ n
part-most s i n = omega (arith, part-long s i n, min-le_left n (length s - i))

-- the length of the random number that an event brings
abbrev pub brought : Input → ℕ
brought (connect_request acceptable own peer t rb store) = length rb
brought connect_response = 0
brought (data_request sent) = 0
brought (disconnect_request reason sub) = 0
brought (connect_indication acceptable own t ra unit store) = length ra
brought (connect_confirmation unit) = 0
brought (disconnect_indication reason unit) = 0
brought (unit_indication kind unit) = 0
brought time_out = 0

sized : (i : Input) (c : Connection) → brought i ≤ 8 → length c.ra ≤ 8 → length c.rb ≤ 8 → sendable i ≡ true → Sized (asked i c)
unfolding asked
sized (connect_request acceptable own peer t rb store) c m p q s = record { ra_most = lit≤ tt; rb_most = m; sent_most = lit≤ tt }
sized connect_response c m p q s = record { ra_most = p; rb_most = q; sent_most = lit≤ tt }
sized (data_request sent) c m p q s = record { ra_most = p; rb_most = q; sent_most = (between-true 1 1023 (length sent) s).1 }
sized (disconnect_request reason sub) c m p q s = record { ra_most = p; rb_most = q; sent_most = lit≤ tt }
sized (connect_indication acceptable own t r unit store) c m p q s = record { ra_most = m; rb_most = part-most unit 5 8; sent_most = lit≤ tt }
sized (connect_confirmation unit) c m p q s = record { ra_most = part-most unit 5 8; rb_most = q; sent_most = lit≤ tt }
sized (disconnect_indication reason unit) c m p q s = record { ra_most = p; rb_most = q; sent_most = lit≤ tt }
sized (unit_indication kind unit) c m p q s = record { ra_most = p; rb_most = q; sent_most = lit≤ tt }
sized time_out c m p q s = record { ra_most = p; rb_most = q; sent_most = lit≤ tt }

abbrev written : Answered → ℕ
written (done a) = a.written
written (refused n) = 0

written-most : (i : Input) (c : Connection) (out : List ℕ) (a : Actions) → brought i ≤ 8 → length c.ra ≤ 8 → length c.rb ≤ 8 → (step i c out).answer ≡ done a → a.written < 2 ^ 31
written-most i c out a m p q e =
    let w : length (carried (meets i c).down (asked i c)) ≡ a.written = ap written (sym (step_follows i c out a e).events_are ∙ e) in
    omega (arith, carried-most (meets i c).down (asked i c) (sized i c m p q (done-sendable i c out a e)))

-- a length that C can be told
pub step-told : (i : Input) (b out : List ℕ) → brought i ≤ 8 → Short (step i (connection_of b) out).answer
step-told i b out m = record { by = λ a e. written-most i (connection_of b) out a m (part-most b 12 8) (part-most b 20 8) e }

-- ---- the user data that go up: two bytes hold their length

unless-count : (n : ℕ) (f : Fault) → (unless n f).count < 65536
unless-count n (Ok u) = lit< tt
unless-count n (Err why) = lit< tt

judged-count : (unit key destination : List ℕ) (direction responder : Bool) → (judged_data (checked unit key destination direction) responder unit).count < 65536
judged-count unit key destination direction responder = go (checked unit key destination direction) refl
  where
    as_pre : (b : Bool) (x : Code) → (cond b (because (pre 5) (code 4 1)) (because (pre 6) x)).count < 65536
    as_pre true x = lit< tt
    as_pre false x = lit< tt

    go : (a : Answer) → checked unit key destination direction ≡ a → (judged_data a responder unit).count < 65536
    go (gives n) e =
        let p = passed unit key destination direction n e in
        omega (arith, p.number, (between-true 9 1032 (length unit) p.long).1)
    go (house n) e = as_pre (eqb n 8) (cond (eqb n 9) (contents_code responder unit) (code 10 5))

-- of two verdicts that are small, the one that is chosen is
chosen-count : (b : Bool) (v w : Verdict) → v.count < 65536 → w.count < 65536 → (cond b v w).count < 65536
chosen-count true v w p q = p
chosen-count false v w p q = q

unit-count : (k : Kind) (s : State) (c : Connection) (unit : List ℕ) → (judged_unit k s c unit).count < 65536
unfolding judged_unit
unit-count Au3 s c unit = chosen-count (is WFAU3 s) (unless 3 (au3_fault c.key c.own c.ra c.rb unit)) (because ok (out_of_sequence s Au3)) (unless-count 3 (au3_fault c.key c.own c.ra c.rb unit)) (lit< tt)
unit-count Ar s c unit = chosen-count (is WFAR s) (unless 4 (ar_fault c.key c.own unit)) (because ok (out_of_sequence s Ar)) (unless-count 4 (ar_fault c.key c.own unit)) (lit< tt)
unit-count Dt s c unit =
    chosen-count (is DATA s) (judged_data (checked unit c.key (etcs_id c.own) (not c.responder)) c.responder unit) (because ok (out_of_sequence s Dt))
    (judged-count unit c.key (etcs_id c.own) (not c.responder) c.responder) (lit< tt)

asked-count : (i : Input) (c : Connection) → (asked i c).verdict.count < 65536
unfolding asked
asked-count (connect_request acceptable own peer t rb store) c = unless-count 0 (typed acceptable (Ok tt))
asked-count connect_response c = lit< tt
asked-count (data_request sent) c = lit< tt
asked-count (disconnect_request reason sub) c = lit< tt
asked-count (connect_indication acceptable own t ra unit store) c = unless-count 1 (typed acceptable (au1_fault unit))
asked-count (connect_confirmation unit) c = unless-count 2 (au2_fault (confirmed c (random unit)).key c.own c.peer c.rb unit)
asked-count (disconnect_indication reason unit) c = lit< tt
asked-count (unit_indication kind unit) c = unit-count kind (state_of c.state) c unit
asked-count time_out c = lit< tt

data_of : (up : Up) (v : Verdict) (n : ℕ) → to_user up v ≡ DataIndication n → v.count ≡ n
data_of no v n e = let z : ◌≡◌ {A = ℕ} 0 1 = cc in absurd (omega arith)
data_of SaConnInd v n e = let z : ◌≡◌ {A = ℕ} 0 1 = cc in absurd (omega arith)
data_of SaConnConf v n e = let z : ◌≡◌ {A = ℕ} 0 1 = cc in absurd (omega arith)
data_of SaDataInd v n e = cc
data_of SaDiscInd v n e = let z : ◌≡◌ {A = ℕ} 0 1 = cc in absurd (omega arith)
data_of SaReportInd v n e = let z : ◌≡◌ {A = ℕ} 0 1 = cc in absurd (omega arith)

abbrev upward : Answered → ToUser
upward (done a) = a.user
upward (refused n) = Nothing

pub data_most : (i : Input) (c : Connection) (out : List ℕ) (a : Actions) (n : ℕ) → (step i c out).answer ≡ done a → a.user ≡ DataIndication n → n < 65536
data_most i c out a n e u =
    let up = ap upward (sym (step_follows i c out a e).events_are ∙ e) ∙ u in
    omega (arith, data_of (meets i c).up (asked i c).verdict n up, asked-count i c)
