-- Conversion shows no key.
-- Assumes nothing.
use mathlib.Core.Path.{◌≡◌, refl, sym, ap, ap₂, ◌∙◌}
use mathlib.Core.Bool.{Bool, true, false, ◌&&◌}
use mathlib.Core.List.{List}
use Prim.Native.Nat.{ℕ}
use lib.ListN.{length}
use lib.Dec.{eqb, leb}
use borrow.Author.Tests.{eqb-true, eqb-false}
use Rattle.std.specs.Prelude.{Option, Some}
use Rattle.refusal.specs.House.{gives}
use Rattle.store.specs.Layout.{total, edition1, edition2, edition_of, edition_in}
use Rattle.store.specs.Store.{entries}
use Rattle.store.specs.declared.Limits.{Limits}
use Rattle.store.proofs.SearchLaws.{edition_says}
use Rattle.convert.specs.Convert.{has_room, answered, converted}
use Rattle.convert.proofs.DoneLaws.{done-says, new}
use Rattle.convert.proofs.RefusedLaws.{of_source}
use Rattle.runs.specs.Alike.{AlikeStores, sound_in, held_in}
use Rattle.runs.specs.Tally.{tags}
use Rattle.runs.specs.Conversion.{AlikeConverted, ConversionShowsNoKey}
use Rattle.runs.proofs.EntryLaws.{length-alike, peers-alike}
use Rattle.runs.proofs.TwinLaws.{Twins, alike-twins, encode-twins, twins-alike, twins-told}

module _ (F T : Limits) (of-F : edition_of (total F) ≡ Some F) (of_T : edition_of (total T) ≡ Some T) (s s' to : List ℕ) (a : AlikeStores s s') where
  module _ (long : length s ≡ total F) where
    known : edition_of (length s) ≡ Some F
    known = ap edition_of long ∙ of-F

    twins : Twins F (tags (held_in s) (held_in s')) s s'
    twins = alike-twins F s s' a known (ap (λ (E : Option Limits). sound_in E s) (sym known) ∙ a.sound)

    same-room : has_room T (entries F s) ≡ has_room T (entries F s')
    unfolding has_room
    same-room = ap₂ (λ (n : ℕ) (ps : List ℕ). leb n T.keys && leb (length ps) T.peers) (length-alike twins.alike) (peers-alike twins.alike)

    same_tests : answered F T s to ≡ answered F T s' to
    unfolding answered
    same_tests = rw (twins.sound_is, twins.sound_is', a.differ.same_length, same-room)

  same_answer : answered F T s to ≡ answered F T s' to
  same_answer = go (eqb (length s) (total F)) refl
    where
      go : (b : Bool) → eqb (length s) (total F) ≡ b → answered F T s to ≡ answered F T s' to
      go true e = same_tests (eqb-true (length s) (total F) e)
      go false e =
          let short : length s ≡ total F → ⊥ = eqb-false (length s) (total F) e in
          of_source F T s to short ∙ sym (of_source F T s' to (λ l. short (a.differ.same_length ∙ l)))

  module _ (e : answered F T s to ≡ gives 0) where
    e' : answered F T s' to ≡ gives 0
    e' = sym same_answer ∙ e

    made-twins : Twins T (tags (held_in s) (held_in s')) (converted F T s to) (converted F T s' to)
    made-twins =
        let b = (edition_says (total T) T of_T).0 in
        rw ((done-says F T s to e).made, (done-says F T s' to e').made)
        (encode-twins T b of_T (new F T s to b a.bytes e) (new F T s' to b a.bytes' e') (twins (done-says F T s to e).from_long).alike)

alike-converted : (F T : Limits) → edition_of (total F) ≡ Some F → edition_of (total T) ≡ Some T → AlikeConverted F T
alike-converted F T f t =
    record {
      same_answer = same_answer F T f t;
      alike_targets = λ s s' to a e. twins-alike T (made-twins F T f t s s' to a e);
      told = λ s s' to a e. twins-told T (made-twins F T f t s s' to a e);
    }

pub conversion-shows-no-key : ConversionShowsNoKey
unfolding edition_of edition_in
conversion-shows-no-key = record { to_edition2 = alike-converted edition1 edition2 refl refl; to_edition1 = alike-converted edition2 edition1 refl refl }
