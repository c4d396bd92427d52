-- What C is told of a step.
-- Assumes nothing.
use Rattle.std.specs.Prelude.{Result}
use mathlib.Core.Path.{◌≡◌, sym, ap, ap₂, ◌∙◌, subst}
use mathlib.Core.List.{List}
use Prim.Native.Nat.{ℕ, ◌≤◌}
use lib.IntN.{ℤ}
use mir.Syntax.{w32}
use mir.Val.{SFits, to_z, of_z}
use mir.ValLaws.{to_z-of_z}
use Rattle.refusal.specs.Code.{code}
use Rattle.table.specs.declared.Connection.{Connection}
use Rattle.table.specs.declared.Kind.{Kind}
use Rattle.refusal.specs.declared.Refusal.{Refusal}
use Rattle.table.specs.declared.Actions.{Actions}
use Rattle.table.specs.Steps.{Input, unit_indication, Answered, step, stepped_as, Does, kind_numbered}
use Rattle.connection_buffer.specs.ConnectionBuffer.{connection_of, unit_length, Short, connection_after, events_after, Tells}
use Rattle.connection_buffer.proofs.LengthLaws.{brought, step-told}

-- the kind that a number names
pub named : (n : ℕ) (unit out : List ℕ) (c : Connection) {k : Kind} {answer : Result Actions Refusal} {then : Connection} {output : List ℕ} → k ≡ kind_numbered n
    → Does (step (unit_indication k unit) c out) answer then output → Does (step (unit_indication (kind_numbered n) unit) c out) answer then output
named n unit out c {k} {answer} {then} {output} e d = subst (λ (k : Kind). Does (step (unit_indication k unit) c out) answer then output) e d

-- a call of `setup` on the connection c that the buffer b holds
module _ (i : Input) (b out : List ℕ) (c : Connection) (loaded : c ≡ connection_of b) {answer : Result Actions Refusal} {then : Connection} {output : List ℕ} (d : Does (step i c out) answer then output) where
  does : Does (step i (connection_of b) out) answer then output
  does = subst (λ (x : Connection). Does (step i x out) answer then output) loaded d

  pub told-short : brought i ≤ 8 → Short (stepped_as answer)
  told-short m = subst Short (sym does.answer_is) (step-told i b out m)

  pub tells : (told : ℤ) (after events eventsThen : List ℕ) → SFits w32 told → told ≡ code (unit_length (stepped_as answer)) → after ≡ connection_after (stepped_as answer) then b
      → eventsThen ≡ events_after (stepped_as answer) then events → Tells (step i (connection_of b) out) (to_z w32 (of_z w32 told)) b after events eventsThen output
  tells told after events eventsThen f t a e =
      record {
        answer_is = to_z-of_z w32 told f ∙ t ∙ ap (λ (x : Answered). code (unit_length x)) does.answer_is;
        connection_is = a ∙ ap₂ (λ (x : Answered) (y : Connection). connection_after x y b) does.answer_is does.connection_is;
        events_are = e ∙ ap₂ (λ (x : Answered) (y : Connection). events_after x y events) does.answer_is does.connection_is;
        output_is = does.output_is;
      }
