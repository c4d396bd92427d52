-- The claims about runs.
-- Assumes nothing.
use mathlib.Core.Path.{◌≡◌, refl, sym, ap, ◌∙◌, subst}
use mathlib.Core.Bool.{Bool, true, false, not}
use mathlib.Core.List.{List, [], ◌∷◌, ◌++◌}
use mathlib.Core.Logic.{◌⊎◌, inl, inr}
use Prim.Native.Nat.{ℕ, ◌≤◌}
use lib.ListN.{length}
use lib.Dec.{leb}
use borrow.Author.Tests.{leb-true, leb-false}
use Rattle.octets.specs.Bytes.{part}
use Rattle.authentication.specs.Claims.{IsBuilt}
use Rattle.units.specs.Units.{etcs_id}
use Rattle.table.specs.declared.Connection.{Connection}
use Rattle.table.specs.declared.State.{State}
use Rattle.table.specs.declared.State.TheVariants.{IDLE}
use Rattle.table.specs.Table.{state_of}
use Rattle.table.specs.Steps.{Input, Outcome, refuse, step}
use Rattle.table.specs.Claims.{CheckedData, unmoved}
use Rattle.table.proofs.Theorems.{data_only_checked, refused-first, expiry_closes_nothing}
use Rattle.connections.specs.Runs.{noted, Call, call, World, next, final, run, start}
use Rattle.connections.specs.Claims.{HoldsSessionKey, Holds, HoldsIn, KeyInEachState, IdleIsEmpty, SessionData, OnlyCheckedData, BringsStore, request, indication, ExpiryClosesNothingLater}
use Rattle.connections.proofs.TrackLaws.{run_holds}

pub key_in_each_state : KeyInEachState
key_in_each_state = record { held = run_holds }

pub idle-is-empty : IdleIsEmpty
idle-is-empty = record { empty = λ cs e. subst (λ (s : State). Holds s (run cs).connection (run cs).account) e (run_holds cs) }

-- ---- user data

session_data : (i : Input) (w : World) (n : ℕ) → HoldsIn w → CheckedData i w.connection n → SessionData i w n
session_data i w n p d =
    let c = w.connection in
    let h = w.account in
    let k : HoldsSessionKey c h = subst (λ (s : State). Holds s c h) d.in-DATA p in
    let m = k.named in
    record {
      unit = d.unit;
      event_is = d.event_is;
      in-DATA = d.in-DATA;
      built =
          subst (λ (key : List ℕ). IsBuilt d.unit key (etcs_id h.own) (not h.responder) (part d.unit 1 n)) k.key_is
          (subst (λ (own : ℕ). IsBuilt d.unit c.key (etcs_id own) (not h.responder) (part d.unit 1 n)) m.own_is
          (subst (λ (r : Bool). IsBuilt d.unit c.key (etcs_id c.own) (not r) (part d.unit 1 n)) m.role_is d.built));
      count = d.count;
      place = m.place;
      was_found = m.was_found;
    }

pub only_checked_data : OnlyCheckedData
only_checked_data =
    record { only = λ cs i out a n e u. session_data i (run cs) n (run_holds cs) (data_only_checked.only i (run cs).connection out a n e u) }

-- ---- expiry

-- a step that does nothing, or is refused, leaves the world
abbrev Leaves : Connection → List ℕ → Outcome → Type 0
Leaves c out o = (o ≡ unmoved c out) ⊎ (o ≡ refuse 2 c out)

brought : (i : Input) (c : Connection) (out : List ℕ) → BringsStore i → (state_of c.state ≡ IDLE → ⊥) → Leaves c out (step i c out)
brought i c out b f = room (leb 1032 (length out)) refl
  where
    roomy : {i : Input} → BringsStore i → 1032 ≤ length out → step i c out ≡ unmoved c out
    roomy (request acceptable own peer t rb store) l = expiry_closes_nothing.of_request acceptable own peer t rb store c out f l
    roomy (indication acceptable own t ra unit store) l = expiry_closes_nothing.of_indication acceptable own t ra unit store c out f l

    room : (x : Bool) → leb 1032 (length out) ≡ x → Leaves c out (step i c out)
    room true e = inl (roomy b (leb-true 1032 (length out) e))
    room false e = inr (refused-first.h2 i c out (leb-false 1032 (length out) e))

left-world : (i : Input) (out : List ℕ) (w : World) → Leaves w.connection out (step i w.connection out) → next (call i out) w ≡ w
unfolding next noted
left-world i out w (inl e) = ap (λ (o : Outcome). record { connection = o.connection; account = noted o.answer i w.account }) e
left-world i out w (inr e) = ap (λ (o : Outcome). record { connection = o.connection; account = noted o.answer i w.account }) e

final-append : (cs ds : List Call) (w : World) → final (cs ++ ds) w ≡ final ds (final cs w)
unfolding final
final-append [] ds w = refl
final-append (c ∷ cs) ds w = final-append cs ds (next c w)

pub expiry_closes_nothing_later : ExpiryClosesNothingLater
unfolding run final
expiry_closes_nothing_later =
    record {
      left_out = λ cs ds i out b f.
          final-append cs (call i out ∷ ds) start
          ∙ ap (final ds) (left-world i out (final cs start) (brought i (final cs start).connection out b f))
          ∙ sym (final-append cs ds start);
    }
