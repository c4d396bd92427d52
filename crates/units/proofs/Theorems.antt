-- The claims of specs/Claims.antt.
-- Assumes nothing.
use mathlib.Core.Path.{◌≡◌, refl}
use mathlib.Core.Bool.{true, false}
use mathlib.Core.List.{List, [], ◌∷◌, ◌++◌}
use Rattle.units.specs.Units.{Test, test, first_fault, field_tests, seal_tests, au2_fault, au2_fields, au2_seal, or_next}
use Rattle.units.specs.Claims.{UnitsAreBuilt, BuiltAreFine, FieldsAreTold, TwoHalves}
use Rattle.units.proofs.UnitLaws.{au1_sender, au1_random, au1-fine, au2_random, au2-fine, au3-fine, ar-fine}
use Rattle.units.proofs.BuiltLaws.{sender_type, au1-built, au2-built, au3-built, ar-built}

pub units_are_built : UnitsAreBuilt
units_are_built = record { au1 = au1-built; au2 = au2-built; au3 = au3-built; ar = ar-built }

pub built_are_fine : BuiltAreFine
built_are_fine = record { au1 = au1-fine; au2 = au2-fine; au3 = au3-fine; ar = ar-fine }

pub fields_are_told : FieldsAreTold
fields_are_told = record { au1_sender = au1_sender; au1_random = au1_random; au2_random = au2_random; sender_type = sender_type }

-- tests in a row, cut in two
cut : (xs ts : List Test) → first_fault (xs ++ ts) ≡ or_next (first_fault xs) (first_fault ts)
unfolding first_fault
cut [] ts = refl
cut (test true reason sub ∷ xs) ts = cut xs ts
cut (test false reason sub ∷ xs) ts = refl

pub two-halves : TwoHalves
unfolding au2_fault au2_fields au2_seal
two-halves = record { au2 = λ key own peer rb unit. cut (field_tests peer unit) (seal_tests key own rb unit) }
