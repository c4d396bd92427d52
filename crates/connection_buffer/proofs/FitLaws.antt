-- The fields of a connection fit their bytes, whatever a step does.
-- Assumes nothing.
use Rattle.std.specs.Prelude.{Ok, Err}
use mathlib.Core.Path.{◌≡◌, refl, subst}
use mathlib.Core.Bool.{Bool, true, false}
use mathlib.Core.List.{List, ◌∷◌}
use Prim.Native.Nat.{ℕ, ◌<◌}
use native.Mathlib.Omega.{arith}
use lib.Dec.{lit<, eqb}
use lib.ListN.{length}
use borrow.Author.Tests.{eqb-true}
use Rattle.octets.specs.Bytes.{Bytes}
use Rattle.octets.proofs.PartLaws.{part_length}
use Rattle.octets.proofs.WordLaws.{get32-fits}
use Rattle.refusal.specs.House.{gives}
use Rattle.authentication.proofs.KeyLaws.{length-keys}
use Rattle.units.specs.Units.{Fault, Test, test, sender_of, random, first_fault, au1_fault, au2_fault}
use Rattle.table.specs.declared.Connection.{Connection}
use Rattle.table.specs.declared.State.{State}
use Rattle.table.specs.declared.State.TheVariants.{IDLE, WFTC, WFAR, DATA, WFAU3, WFRESP}
use Rattle.table.specs.Table.{SaConnReq, TConnInd, TConnConf, Next, stays, to, Square, state_of, is, table, row_in, square}
use Rattle.table.specs.Steps.{idle, confirmed, unless, typed, Input, connect_request, connect_response, data_request, disconnect_request, connect_indication, connect_confirmation, disconnect_indication, unit_indication, time_out, asked, starts_set_up, with_state, moved, after, Outcome, perform, step}
use Rattle.table.proofs.StepLaws.{meets}
use Rattle.table.proofs.SideLaws.{key-whole}
use Rattle.table.proofs.EndLaws.{Ends, short, unsendable, unfound, performed, step-ends}
use Rattle.connection_buffer.specs.ConnectionBuffer.{connection_of}
use Rattle.connection_buffer.specs.Claims.{Fitting, Lent}

-- ---- a connection as it is read, and in another state

pub connection_of-fits : (b : List ℕ) → Bytes b → length b ≡ 64 → Fitting (connection_of b)
connection_of-fits b h l =
    record {
      state_fits = h 0;
      own_fits = get32-fits b h 4;
      peer_fits = get32-fits b h 8;
      ra_long = part_length b 12 8 (omega arith);
      rb_long = part_length b 20 8 (omega arith);
      key_long = part_length b 28 24 (omega arith);
    }

idle-fits : Fitting idle
idle-fits = record { state_fits = lit< tt; own_fits = lit< tt; peer_fits = lit< tt; ra_long = refl; rb_long = refl; key_long = refl }

with_state-fits : (c : Connection) (n : ℕ) → n < 256 → Fitting c → Fitting (with_state c n)
with_state-fits c n l f =
    record { state_fits = l; own_fits = f.own_fits; peer_fits = f.peer_fits; ra_long = f.ra_long; rb_long = f.rb_long; key_long = f.key_long }

moved-fits : (about : Connection) (s : State) → (is IDLE s ≡ false → Fitting about) → Fitting (moved about s)
moved-fits about IDLE f = idle-fits
moved-fits about WFTC f = with_state-fits about 1 (lit< tt) (f refl)
moved-fits about WFAR f = with_state-fits about 2 (lit< tt) (f refl)
moved-fits about DATA f = with_state-fits about 3 (lit< tt) (f refl)
moved-fits about WFAU3 f = with_state-fits about 4 (lit< tt) (f refl)
moved-fits about WFRESP f = with_state-fits about 5 (lit< tt) (f refl)

after-fits : (next : Next) (c about : Connection) → Fitting c → ((s : State) → next ≡ to s → is IDLE s ≡ false → Fitting about) → Fitting (after next c about)
after-fits stays c about f g = f
after-fits (to s) c about f g = moved-fits about s (g s refl)

-- ---- what is accepted

first-passed : (b : Bool) (reason sub : ℕ) (ts : List Test) → first_fault (test b reason sub ∷ ts) ≡ Ok tt → b ≡ true
unfolding first_fault
first-passed true reason sub ts e = refl
first-passed false reason sub ts e = let z : ◌≡◌ {A = ℕ} 0 1 = cc in absurd (omega arith)

au1-long : (unit : List ℕ) → au1_fault unit ≡ Ok tt → length unit ≡ 13
unfolding au1_fault
au1-long unit e = eqb-true (length unit) 13 (first-passed (eqb (length unit) 13) 10 1 _ e)

au2-long : (key : List ℕ) (own peer : ℕ) (rb unit : List ℕ) → au2_fault key own peer rb unit ≡ Ok tt → length unit ≡ 21
unfolding au2_fault
au2-long key own peer rb unit e = eqb-true (length unit) 21 (first-passed (eqb (length unit) 21) 10 2 _ e)

-- ---- a square that goes to another state than IDLE starts set-up, and has found no fault

abbrev fine : Fault → Bool
fine (Ok u) = true
fine (Err why) = false

record Goes (q : Square) (b : Bool) : Type 0 where
  when : (s : State) → q.next ≡ to s → is IDLE s ≡ false → b ≡ true

rests : (q : Square) (b : Bool) → q.next ≡ stays → Goes q b
rests q b e = record { when = λ s f g. let z : ◌≡◌ {A = ℕ} 0 1 = cc in absurd (omega arith) }

ends : (q : Square) (b : Bool) → q.next ≡ to IDLE → Goes q b
ends q b e =
    record { when = λ s f g. let i : s ≡ IDLE = cc in let h : is IDLE IDLE ≡ false = subst (λ (s : State). is IDLE s ≡ false) i g in let z : ◌≡◌ {A = ℕ} 0 1 = cc in absurd (omega arith) }

goes : (q : Square) (b : Bool) → b ≡ true → Goes q b
goes q b e = record { when = λ s f g. e }

at-request : (s : State) (f : Fault) → let q = square SaConnReq s (unless 0 f).when in Goes q (starts_set_up q.down)
unfolding square row_in table
at-request IDLE (Ok u) = goes _ _ refl
at-request IDLE (Err why) = ends _ _ refl
at-request WFTC f = rests _ _ refl
at-request WFAR f = rests _ _ refl
at-request DATA f = rests _ _ refl
at-request WFAU3 f = rests _ _ refl
at-request WFRESP f = rests _ _ refl

at-indication : (s : State) (f : Fault) → let q = square TConnInd s (unless 1 f).when in Goes q (fine f)
unfolding square row_in table
at-indication IDLE (Ok u) = goes _ _ refl
at-indication IDLE (Err why) = ends _ _ refl
at-indication WFTC f = rests _ _ refl
at-indication WFAR f = rests _ _ refl
at-indication DATA f = rests _ _ refl
at-indication WFAU3 f = rests _ _ refl
at-indication WFRESP f = rests _ _ refl

at_confirmation : (s : State) (f : Fault) → let q = square TConnConf s (unless 2 f).when in Goes q (fine f)
unfolding square row_in table
at_confirmation IDLE f = rests _ _ refl
at_confirmation WFTC (Ok u) = goes _ _ refl
at_confirmation WFTC (Err why) = ends _ _ refl
at_confirmation WFAR f = rests _ _ refl
at_confirmation DATA f = rests _ _ refl
at_confirmation WFAU3 f = rests _ _ refl
at_confirmation WFRESP f = rests _ _ refl

is-fine : (f : Fault) → fine f ≡ true → f ≡ Ok tt
is-fine (Ok u) e = refl
is-fine (Err why) e = let z : ◌≡◌ {A = ℕ} 0 1 = cc in absurd (omega arith)

typed-fine : (acceptable : Bool) (f : Fault) → typed acceptable f ≡ Ok tt → f ≡ Ok tt
typed-fine true f e = e
typed-fine false f e = let z : ◌≡◌ {A = ℕ} 0 1 = cc in absurd (omega arith)

sender-fits : (unit : List ℕ) → Bytes unit → sender_of unit < 4294967296
sender-fits unit h = omega (arith, h 0, h 1, h 2, h 3)

-- ---- the connection that a square is about fits, where the square goes to another state than IDLE

about-fits : (i : Input) → Lent i → (c : Connection) → Fitting c → (starts_set_up (meets i c).down ≡ true → (place : ℕ) × ((asked i c).search ≡ gives place)) → (s : State) → (meets i c).next ≡ to s → is IDLE s ≡ false → Fitting (asked i c).about
unfolding asked
about-fits (connect_request acceptable own peer t rb store) l c f w s e g =
    let place = w ((at-request (state_of c.state) (typed acceptable (Ok tt))).when s e g) in
    record { state_fits = lit< tt; own_fits = l.0; peer_fits = l.1; ra_long = refl; rb_long = l.2; key_long = key-whole store own peer t place.0 place.1 }
about-fits connect_response l c f w s e g = f
about-fits (data_request sent) l c f w s e g = f
about-fits (disconnect_request reason sub) l c f w s e g = f
about-fits (connect_indication acceptable own t ra unit store) l c f w s e g =
    let good = is-fine (typed acceptable (au1_fault unit)) ((at-indication (state_of c.state) (typed acceptable (au1_fault unit))).when s e g) in
    let long = au1-long unit (typed-fine acceptable (au1_fault unit) good) in
    record {
      state_fits = lit< tt;
      own_fits = l.0;
      peer_fits = sender-fits unit l.2;
      ra_long = l.1;
      rb_long = part_length unit 5 8 (omega arith);
      key_long = length-keys _ ra (random unit);
    }
about-fits (connect_confirmation unit) l c f w s e g =
    let about = confirmed c (random unit) in
    let fault = au2_fault about.key c.own c.peer c.rb unit in
    let long = au2-long about.key c.own c.peer c.rb unit (is-fine fault ((at_confirmation (state_of c.state) fault).when s e g)) in
    record {
      state_fits = f.state_fits;
      own_fits = f.own_fits;
      peer_fits = f.peer_fits;
      ra_long = part_length unit 5 8 (omega arith);
      rb_long = f.rb_long;
      key_long = length-keys c.key (random unit) c.rb;
    }
about-fits (disconnect_indication reason unit) l c f w s e g = f
about-fits (unit_indication kind unit) l c f w s e g = f
about-fits time_out l c f w s e g = f

pub step_fits : (i : Input) → Lent i → (c : Connection) → Fitting c → (out : List ℕ) → Fitting (step i c out).connection
unfolding perform
step_fits i l c f out = ended (step-ends i c out)
  where
    ended : {o : Outcome} → Ends i c out o → Fitting o.connection
    ended (short h) = f
    ended (unsendable h) = f
    ended (unfound n h e) = f
    ended (performed w) = after-fits (meets i c).next c (asked i c).about f (about-fits i l c f w)
