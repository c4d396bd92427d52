-- Conversion between the editions shows no key (change request 6, beyond demand 3). proofs/ConversionTheorem.antt has the proof.
-- Assumes nothing.
use Rattle.std.specs.Prelude.{◌≡◌, List, ℕ}
use Rattle.refusal.specs.House.{gives}
use Rattle.store.specs.Layout.{edition1, edition2}
use Rattle.store.specs.declared.Limits.{Limits}
use Rattle.convert.specs.Convert.{answered, converted}
use Rattle.runs.specs.Alike.{AlikeStores, held_in}
use Rattle.runs.specs.Tally.{tags}
use Rattle.runs.specs.Secrecy.{Told}

-- what is alike of the conversions of two sound stores that differ at most inside KMAC fields, to equal targets
pub record AlikeConverted (F T : Limits) : Type 0 where
  -- the answers are the same
  pub same_answer : (s s' to : List ℕ) → AlikeStores s s' → answered F T s to ≡ answered F T s' to
  -- where they are done, the targets are sound and differ only inside KMAC fields
  pub alike_targets : (s s' to : List ℕ) → AlikeStores s s' → answered F T s to ≡ gives 0 → AlikeStores (converted F T s to) (converted F T s' to)
  -- and exactly in those records in which the sources do
  pub told : (s s' to : List ℕ) → AlikeStores s s' → answered F T s to ≡ gives 0
      → Told (tags (held_in s) (held_in s')) (held_in (converted F T s to)) (held_in (converted F T s' to))

pub record ConversionShowsNoKey : Type 0 where
  pub to_edition2 : AlikeConverted edition1 edition2
  pub to_edition1 : AlikeConverted edition2 edition1
