-- The ways in which a step can end, and what is claimed of its refusals and of its square.
-- Assumes nothing.
use mathlib.Core.Path.{◌≡◌, refl, ap, ◌∙◌}
use mathlib.Core.Bool.{Bool, true, false, cond}
use mathlib.Core.List.{List}
use Prim.Native.Nat.{ℕ, ◌<◌}
use native.Mathlib.Omega.{arith}
use lib.Dec.{leb}
use lib.ListN.{length}
use borrow.Author.Tests.{leb-false}
use Rattle.refusal.specs.House.{Answer, house, gives}
use Rattle.table.specs.declared.Connection.{Connection}
use Rattle.table.specs.declared.Actions.{Actions}
use Rattle.table.specs.declared.State.{State}
use Rattle.table.specs.declared.State.TheVariants.{IDLE, WFTC, WFAR, DATA, WFAU3, WFRESP}
use Rattle.table.specs.Table.{Next, Square, state_code}
use Rattle.table.specs.Steps.{Input, asked, sendable, starts_set_up, moved, after, done, refused, Outcome, refuse, perform, unless_house, in_square, at_table, step}
use Rattle.table.specs.Claims.{Follows}
use Rattle.table.proofs.StepLaws.{meets}

-- ---- the four ways

pub data Ends (i : Input) (c : Connection) (out : List ℕ) : Outcome → Type 0 where
  short : length out < 1032 → Ends i c out (refuse 2 c out)
  unsendable : sendable i ≡ false → Ends i c out (refuse 10 c out)
  unfound : (n : ℕ) → starts_set_up (meets i c).down ≡ true → (asked i c).search ≡ house n → Ends i c out (refuse n c out)
  performed : (starts_set_up (meets i c).down ≡ true → (place : ℕ) × ((asked i c).search ≡ gives place)) → Ends i c out (perform (meets i c) (asked i c) c out)

pub step-ends : (i : Input) (c : Connection) (out : List ℕ) → Ends i c out (step i c out)
unfolding step at_table in_square
step-ends i c out = room (leb 1032 (length out)) refl
  where
    searched : (b : Bool) (a : Answer) → starts_set_up (meets i c).down ≡ b → (asked i c).search ≡ a
        → Ends i c out (unless_house (cond b a (gives 0)) (perform (meets i c) (asked i c) c out) c out)
    searched true (house n) e f = unfound n e f
    searched true (gives n) e f = performed (λ h. (n, f))
    searched false a e f = performed (λ h. let z : ◌≡◌ {A = ℕ} 0 1 = cc in absurd (omega arith))

    sends : (b : Bool) → sendable i ≡ b
        → Ends i c out (cond b (unless_house (cond (starts_set_up (meets i c).down) (asked i c).search (gives 0)) (perform (meets i c) (asked i c) c out) c out) (refuse 10 c out))
    sends true e = searched (starts_set_up (meets i c).down) (asked i c).search refl refl
    sends false e = unsendable e

    room : (b : Bool) → leb 1032 (length out) ≡ b
        → Ends i c out (cond b (cond (sendable i) (unless_house (cond (starts_set_up (meets i c).down) (asked i c).search (gives 0)) (perform (meets i c) (asked i c) c out) c out) (refuse 10 c out)) (refuse 2 c out))
    room true e = sends (sendable i) refl
    room false e = short (leb-false 1032 (length out) e)

-- ---- a refusal, and what is none

ends-refused : (i : Input) (c : Connection) (out : List ℕ) {o : Outcome} → Ends i c out o → (n : ℕ) → o.answer ≡ refused n → o ≡ refuse n c out
unfolding perform
ends-refused i c out (short h) n e = ap (λ (m : ℕ). refuse m c out) (cc)
ends-refused i c out (unsendable h) n e = ap (λ (m : ℕ). refuse m c out) (cc)
ends-refused i c out (unfound m h f) n e = ap (λ (m : ℕ). refuse m c out) (cc)
ends-refused i c out (performed f) n e = let z : ◌≡◌ {A = ℕ} 0 1 = cc in absurd (omega arith)

pub step-refused : (i : Input) (c : Connection) (out : List ℕ) (n : ℕ) → (step i c out).answer ≡ refused n → step i c out ≡ refuse n c out
step-refused i c out = ends-refused i c out (step-ends i c out)

ends-done : (i : Input) (c : Connection) (out : List ℕ) {o : Outcome} → Ends i c out o → (a : Actions) → o.answer ≡ done a → o ≡ perform (meets i c) (asked i c) c out
ends-done i c out (short h) a e = let z : ◌≡◌ {A = ℕ} 0 1 = cc in absurd (omega arith)
ends-done i c out (unsendable h) a e = let z : ◌≡◌ {A = ℕ} 0 1 = cc in absurd (omega arith)
ends-done i c out (unfound m h f) a e = let z : ◌≡◌ {A = ℕ} 0 1 = cc in absurd (omega arith)
ends-done i c out (performed f) a e = refl

pub step-done : (i : Input) (c : Connection) (out : List ℕ) (a : Actions) → (step i c out).answer ≡ done a → step i c out ≡ perform (meets i c) (asked i c) c out
step-done i c out = ends-done i c out (step-ends i c out)

-- ---- what a square says is done

moved-state : (c : Connection) (s : State) → (moved c s).state ≡ state_code s
moved-state c IDLE = refl
moved-state c WFTC = refl
moved-state c WFAR = refl
moved-state c DATA = refl
moved-state c WFAU3 = refl
moved-state c WFRESP = refl

pub performed-follows : (i : Input) (c : Connection) (out : List ℕ) (q : Square) → step i c out ≡ perform q (asked i c) c out → Follows i c out q
unfolding perform
performed-follows i c out q p =
    record {
      events_are = ap (λ (o : Outcome). o.answer) p;
      output_is = ap (λ (o : Outcome). o.output) p;
      next_is = λ s h. ap (λ (o : Outcome). o.connection.state) p ∙ ap (λ (n : Next). (after n c (asked i c).about).state) h ∙ moved-state (asked i c).about s;
      stays_so = λ h. ap (λ (o : Outcome). o.connection) p ∙ ap (λ (n : Next). after n c (asked i c).about) h;
    }

pub step_follows : (i : Input) (c : Connection) (out : List ℕ) (a : Actions) → (step i c out).answer ≡ done a → Follows i c out (meets i c)
step_follows i c out a e = performed-follows i c out (meets i c) (step-done i c out a e)
