-- From the facts of the code to the contract of a call: the state that the code found, and what it handed back.
-- Assumes nothing.
use Rattle.std.specs.Prelude.{Result, Ok}
use mathlib.Core.Path.{◌≡◌, refl, sym, ap, ◌∙◌}
use mathlib.Core.Bool.{Bool, true, false, cond}
use mathlib.Core.List.{List, []}
use Prim.Native.Nat.{ℕ, ◌≤◌}
use lib.ListN.{length}
use Rattle.octets.specs.Bytes.{splice}
use Rattle.refusal.specs.declared.Refusal.{Refusal}
use Rattle.refusal.specs.House.{gives}
use Rattle.table.specs.declared.Connection.{Connection}
use Rattle.table.specs.declared.Actions.{Actions}
use Rattle.table.specs.declared.State.{State}
use Rattle.table.specs.declared.ToUser.TheVariants as User
use Rattle.table.specs.declared.ToTransport.TheVariants.{Quiet}
use Rattle.table.specs.declared.Timer.TheVariants.{Keep}
use Rattle.table.specs.Table.{Square, no_action, state_of, blank, square}
use Rattle.table.specs.Steps.{Input, sendable, starts_set_up, asked, step, carried, acts, to_user, after, Does}
use Rattle.table.proofs.TableLaws.{alone, elsewhere, blank-square}
use Rattle.table.proofs.StepLaws.{meets, step-performs, does-quiet, does-nothing, does-performed}

-- ---- the code found the state s

pub in_state_lem : (i : Input) (c : Connection) {r : State} (s : State) → r ≡ state_of c.state → r ≡ s → meets i c ≡ square (asked i c).event s (asked i c).verdict.when
in_state_lem i c s found told = ap (λ (s : State). square (asked i c).event s (asked i c).verdict.when) (sym found ∙ told)

-- in which nothing is done
pub nothing_in : (i : Input) (s : State) {c : Connection} {out : List ℕ} {answer : Result Actions Refusal} {then : Connection} {r : State} → 1032 ≤ length out → sendable i ≡ true
    → r ≡ state_of c.state → r ≡ s → square (asked i c).event s (asked i c).verdict.when ≡ no_action → answer ≡ Ok (acts User.Nothing Quiet Keep 0) → then ≡ c
    → Does (step i c out) answer then out
nothing_in i s {c} {out} {answer} {then} room sends found told q p e = does-nothing i c out answer then room sends (in_state_lem i c s found told ∙ q) p e

-- or one in which an event of another state does nothing
pub nothing_elsewhere : (i : Input) (t : State) {c : Connection} {out : List ℕ} {answer : Result Actions Refusal} {then : Connection} {r : State} → 1032 ≤ length out → sendable i ≡ true
    → r ≡ state_of c.state → (r ≡ t → ⊥) → alone (asked i c).event t ≡ true → blank (asked i c).event r ≡ no_action → answer ≡ Ok (acts User.Nothing Quiet Keep 0) → then ≡ c
    → Does (step i c out) answer then out
nothing_elsewhere i t {c} {out} {answer} {then} {r} room sends found other a b p e =
    nothing_in i r room sends found refl (blank-square (asked i c).event r (asked i c).verdict.when (elsewhere (asked i c).event t r a other) ∙ b) p e

-- in which the square q is done, and no unit goes out
pub quiet_in : (i : Input) (s : State) (q : Square) (c : Connection) (out : List ℕ) {answer : Result Actions Refusal} {then : Connection} {r : State} → 1032 ≤ length out → sendable i ≡ true
    → r ≡ state_of c.state → r ≡ s → square (asked i c).event s (asked i c).verdict.when ≡ q → starts_set_up q.down ≡ false → carried q.down (asked i c) ≡ []
    → answer ≡ Ok (acts (to_user q.up (asked i c).verdict) q.down q.timer 0) → then ≡ after q.next c (asked i c).about → Does (step i c out) answer then out
quiet_in i s q c out room sends found told e f n p a =
    does-quiet q (asked i c) c out (step-performs i c out q 0 room sends (in_state_lem i c s found told ∙ e) (ap (λ (b : Bool). cond b (asked i c).search (gives 0)) f)) n p a

-- and a unit goes out
pub sent_in : (i : Input) (s : State) (q : Square) (c : Connection) (out : List ℕ) {answer : Result Actions Refusal} {then : Connection} {written : List ℕ} {r : State} → 1032 ≤ length out → sendable i ≡ true
    → r ≡ state_of c.state → r ≡ s → square (asked i c).event s (asked i c).verdict.when ≡ q → starts_set_up q.down ≡ false
    → answer ≡ Ok (acts (to_user q.up (asked i c).verdict) q.down q.timer (length (carried q.down (asked i c)))) → then ≡ after q.next c (asked i c).about
    → written ≡ splice out 0 (carried q.down (asked i c)) → Does (step i c out) answer then written
sent_in i s q c out {answer} {then} {written} room sends found told e f p a w =
    does-performed i c out q 0 answer then written room sends (in_state_lem i c s found told ∙ e) (ap (λ (b : Bool). cond b (asked i c).search (gives 0)) f) p a w
