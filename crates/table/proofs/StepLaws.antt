-- Laws of a step: how it can end, and what the code's answers then say of it.
-- Assumes nothing.
use Rattle.std.specs.Prelude.{Result, Ok, Err}
use mathlib.Core.Path.{◌≡◌, refl, sym, ap, ◌∙◌, subst}
use mathlib.Core.Bool.{Bool, true, false, cond}
use mathlib.Core.List.{List, []}
use Prim.Native.Nat.{ℕ, ◌≤◌, ◌<◌}
use lib.ListN.{length}
use borrow.Author.Tests.{le-leb, lt-leb}
use Rattle.octets.specs.Bytes.{splice}
use Rattle.octets.proofs.SpliceLaws.{splice-none}
use Rattle.refusal.specs.declared.Refusal.{Refusal}
use Rattle.refusal.specs.declared.Refusal.TheVariants.{OutputLength, DataLength}
use Rattle.refusal.specs.House.{Answer, house, gives, house_number}
use Rattle.table.specs.declared.Connection.{Connection}
use Rattle.table.specs.declared.Actions.{Actions}
use Rattle.table.specs.declared.ToUser.TheVariants as User
use Rattle.table.specs.declared.ToTransport.TheVariants.{Quiet}
use Rattle.table.specs.declared.Timer.TheVariants.{Keep}
use Rattle.table.specs.Table.{Square, no_action, state_of, square}
use Rattle.table.specs.Steps.{Input, Asked, Outcome, refuse, sendable, starts_set_up, unless_house, perform, in_square, at_table, asked, step, carried, acts, to_user, after, Does}

-- the square that an event meets
abbrev pub meets : Input → Connection → Square
meets i c = square (asked i c).event (state_of c.state) (asked i c).verdict.when

-- ---- how a step can end

pub step-short : (i : Input) (c : Connection) (out : List ℕ) → length out < 1032 → step i c out ≡ refuse 2 c out
unfolding step
step-short i c out e =
    ap (λ (b : Bool). cond b (cond (sendable i) (at_table (asked i c) c out) (refuse 10 c out)) (refuse 2 c out)) (lt-leb 1032 (length out) e)

pub step-long : (i : Input) (c : Connection) (out : List ℕ) → 1032 ≤ length out → step i c out ≡ cond (sendable i) (at_table (asked i c) c out) (refuse 10 c out)
unfolding step
step-long i c out l =
    ap (λ (b : Bool). cond b (cond (sendable i) (at_table (asked i c) c out) (refuse 10 c out)) (refuse 2 c out)) (le-leb 1032 (length out) l)

pub step-unsendable : (i : Input) (c : Connection) (out : List ℕ) → 1032 ≤ length out → sendable i ≡ false → step i c out ≡ refuse 10 c out
step-unsendable i c out l e = step-long i c out l ∙ ap (λ (b : Bool). cond b (at_table (asked i c) c out) (refuse 10 c out)) e

-- at the table: the search decides where the square starts set-up
step-searched : (i : Input) (c : Connection) (out : List ℕ) (q : Square) (a : Answer) → 1032 ≤ length out → sendable i ≡ true → meets i c ≡ q
    → cond (starts_set_up q.down) (asked i c).search (gives 0) ≡ a → step i c out ≡ unless_house a (perform q (asked i c) c out) c out
unfolding at_table in_square
step-searched i c out q a l s e f =
    step-long i c out l
    ∙ ap (λ (b : Bool). cond b (at_table (asked i c) c out) (refuse 10 c out)) s
    ∙ ap (λ (q : Square). unless_house (cond (starts_set_up q.down) (asked i c).search (gives 0)) (perform q (asked i c) c out) c out) e
    ∙ ap (λ (a : Answer). unless_house a (perform q (asked i c) c out) c out) f

pub step-performs : (i : Input) (c : Connection) (out : List ℕ) (q : Square) (n : ℕ) → 1032 ≤ length out → sendable i ≡ true → meets i c ≡ q
    → cond (starts_set_up q.down) (asked i c).search (gives 0) ≡ gives n → step i c out ≡ perform q (asked i c) c out
step-performs i c out q n l s e f = step-searched i c out q (gives n) l s e f

pub step-unfound : (i : Input) (c : Connection) (out : List ℕ) (q : Square) (n : ℕ) → 1032 ≤ length out → sendable i ≡ true → meets i c ≡ q
    → cond (starts_set_up q.down) (asked i c).search (gives 0) ≡ house n → step i c out ≡ refuse n c out
step-unfound i c out q n l s e f = step-searched i c out q (house n) l s e f

-- ---- what the code hands back does as a step says

pub does-along : {o o' : Outcome} {answer : Result Actions Refusal} {then : Connection} {written : List ℕ} → o ≡ o' → Does o' answer then written → Does o answer then written
does-along {o} {o'} {answer} {then} {written} e d = subst (λ (x : Outcome). Does x answer then written) (sym e) d

-- a refusal
pub does-refused : (h : Refusal) (o : Outcome) (c : Connection) (out : List ℕ) (answer : Result Actions Refusal) (then : Connection) → o ≡ refuse (house_number h) c out
    → answer ≡ Err h → then ≡ c → Does o answer then out
does-refused h o c out answer then e p q =
    subst (λ (o : Outcome). Does o answer then out) (sym e)
    (subst (λ (a : Result Actions Refusal). Does (refuse (house_number h) c out) a then out) (sym p) (record { answer_is = refl; connection_is = q; output_is = refl }))

pub does_short : (i : Input) (c : Connection) (out : List ℕ) (answer : Result Actions Refusal) (then : Connection) → length out < 1032
    → answer ≡ Err OutputLength → then ≡ c → Does (step i c out) answer then out
does_short i c out answer then l p q = does-refused OutputLength (step i c out) c out answer then (step-short i c out l) p q

pub does-unsendable : (i : Input) (c : Connection) (out : List ℕ) (answer : Result Actions Refusal) (then : Connection) → 1032 ≤ length out → sendable i ≡ false
    → answer ≡ Err DataLength → then ≡ c → Does (step i c out) answer then out
does-unsendable i c out answer then l s p q = does-refused DataLength (step i c out) c out answer then (step-unsendable i c out l s) p q

-- a square
pub does-perform : (q : Square) (a : Asked) (c : Connection) (out : List ℕ) (o : Outcome) (answer : Result Actions Refusal) (then : Connection) (written : List ℕ) → o ≡ perform q a c out
    → answer ≡ Ok (acts (to_user q.up a.verdict) q.down q.timer (length (carried q.down a))) → then ≡ after q.next c a.about
    → written ≡ splice out 0 (carried q.down a) → Does o answer then written
unfolding perform
does-perform q a c out o answer then written e p r w =
    subst (λ (o : Outcome). Does o answer then written) (sym e)
    (subst (λ (b : Result Actions Refusal). Does (perform q a c out) b then written) (sym p) (record { answer_is = refl; connection_is = r; output_is = w }))

-- with no unit
pub does-quiet : (q : Square) (a : Asked) (c : Connection) (out : List ℕ) {o : Outcome} {answer : Result Actions Refusal} {then : Connection} → o ≡ perform q a c out → carried q.down a ≡ []
    → answer ≡ Ok (acts (to_user q.up a.verdict) q.down q.timer 0) → then ≡ after q.next c a.about → Does o answer then out
does-quiet q a c out {o} {answer} {then} e n p r =
    does-perform q a c out o answer then out e (p ∙ ap (λ (l : List ℕ). Ok (acts (to_user q.up a.verdict) q.down q.timer (length l))) (sym n))
    r (sym (splice-none out 0) ∙ ap (λ (l : List ℕ). splice out 0 l) (sym n))

pub does-performed : (i : Input) (c : Connection) (out : List ℕ) (q : Square) (n : ℕ) (answer : Result Actions Refusal) (then : Connection) (written : List ℕ) → 1032 ≤ length out → sendable i ≡ true
    → meets i c ≡ q → cond (starts_set_up q.down) (asked i c).search (gives 0) ≡ gives n
    → answer ≡ Ok (acts (to_user q.up (asked i c).verdict) q.down q.timer (length (carried q.down (asked i c))))
    → then ≡ after q.next c (asked i c).about → written ≡ splice out 0 (carried q.down (asked i c)) → Does (step i c out) answer then written
does-performed i c out q n answer then written l s e f p r w = does-perform q (asked i c) c out (step i c out) answer then written (step-performs i c out q n l s e f) p r w

-- and one in which nothing is done
pub does-nothing : (i : Input) (c : Connection) (out : List ℕ) (answer : Result Actions Refusal) (then : Connection) → 1032 ≤ length out → sendable i ≡ true → meets i c ≡ no_action
    → answer ≡ Ok (acts User.Nothing Quiet Keep 0) → then ≡ c → Does (step i c out) answer then out
unfolding carried
does-nothing i c out answer then l s e p q = does-performed i c out no_action 0 answer then out l s e refl p q (sym (splice-none out 0))
