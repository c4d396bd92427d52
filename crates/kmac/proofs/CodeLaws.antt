-- What C is told of a call's answer.
-- Assumes nothing.
use mathlib.Core.Path.{◌≡◌, refl, sym, ap, ◌∙◌, subst}
use mathlib.Core.Bool.{Bool}
use mathlib.Core.List.{List}
use Prim.Native.Nat.{ℕ, ◌+◌, ◌<◌, ◌^◌}
use native.Mathlib.Omega.{arith}
use lib.Dec.{lit<, eqb, leb}
use lib.IntN.{ℤ}
use lib.ListN.{length}
use mir.Syntax.{w32}
use mir.Val.{SFits, to_z, of_z}
use mir.ValLaws.{to_z-of_z}
use Rattle.octets.specs.Bytes.{between}
use Rattle.std.specs.Prelude.{Option, Some, None}
use Rattle.octets.proofs.BoolLaws.{between-true}
use Rattle.refusal.specs.House.{Answer, gives}
use Rattle.refusal.proofs.Laws.{asks-gives, gives-number}
use Rattle.store.specs.declared.Limits.{Limits}
use Rattle.store.specs.Layout.{edition_of}
use Rattle.store.specs.Search.{Finding, found, find, find_in}
use Rattle.store.proofs.SearchLaws.{edition_says, not_found}
use Rattle.store.proofs.Theorems.{whole-key}
use Rattle.authentication.specs.Unit.{built, checked}
use Rattle.authentication.proofs.AnswerLaws.{passed}
use Rattle.kmac.specs.Code.{end_after}
use Rattle.kmac.specs.Claims.{RefusedFindLeavesEnd}

-- ---- the answers are small numbers

pub place_small : (s : List ℕ) (peer t p until : ℕ) → find s peer t ≡ found p until → p < 2 ^ 31
unfolding find find_in
place_small s peer t p until e = known (edition_of (length s)) refl e
  where
    known : (E : Option Limits) → edition_of (length s) ≡ E → find_in E s peer t ≡ found p until → p < 2 ^ 31
    known None h q = not_found 1 p until q
    known (Some L) h q =
        let b = edition_says (length s) L h in
        let at = whole-key.inside s peer t p until e in
        omega (arith, b.0.total_fits, b.1)

pub data_small : (unit key destination : List ℕ) (direction : Bool) (n : ℕ) → checked unit key destination direction ≡ gives n → n < 2 ^ 31
data_small unit key destination direction n e =
    let p = passed unit key destination direction n e in
    omega (arith, p.number, (between-true 9 1032 (length unit) p.long).1)

pub unit_small : (key user out : List ℕ) (n : ℕ) → built key user out ≡ gives n → n < 2 ^ 31
unfolding built
unit_small key user out n e =
    let keyed = asks-gives (eqb (length key) 24) 13 _ n e in
    let lent = asks-gives (leb 1032 (length out)) 2 _ n keyed.1 in
    let few = asks-gives (between 1 1023 (length user)) 10 _ n lent.1 in
    omega (arith, gives-number (length user + 9) n few.1, (between-true 1 1023 (length user) few.0).1)

-- ---- the end that a search writes

pub refused-find-leaves-end : RefusedFindLeavesEnd
refused-find-leaves-end = record { as_it_was = λ s peer t n before e. ap (λ (f : Finding). end_after f before) e }
