-- What C is told of a call's answer.
-- Assumes nothing.
use mathlib.Core.Path.{◌≡◌, refl, sym, ap, ◌∙◌, subst}
use Prim.Native.Nat.{ℕ, ◌<◌, ◌^◌}
use lib.Dec.{lit<}
use lib.IntN.{ℤ, pos, ◌-ℤ◌}
use mir.Syntax.{w32}
use mir.Val.{SFits, to_z, of_z}
use mir.ValLaws.{to_z_pos, to_z-of_z}
use Rattle.refusal.specs.House.{Answer, house, gives, house_number}
use Rattle.refusal.specs.Code.{code}
use Rattle.refusal.specs.declared.Refusal.{Refusal}
use Rattle.refusal.specs.declared.Refusal.TheVariants.{StoreLength, OutputLength, SessionClosed, MessageShort, NoSessionInit, SameIdentity, UnitLength, MacDiffers, UnitContents, DataLength, NoKey, StoreUnsound, KeyLength, NoRoom}

-- 0 less the number n is a number of 32 bits, the answer for Hn
pub record Negative (n : ℕ) : Type 0 where
  pub fits : SFits w32 (pos 0 -ℤ to_z w32 n)
  pub is : pos 0 -ℤ to_z w32 n ≡ code (house n)

pub negative : (h : Refusal) → Negative (house_number h)
negative StoreLength = record { fits = record { sfits = lit< tt }; is = refl }
negative OutputLength = record { fits = record { sfits = lit< tt }; is = refl }
negative SessionClosed = record { fits = record { sfits = lit< tt }; is = refl }
negative MessageShort = record { fits = record { sfits = lit< tt }; is = refl }
negative NoSessionInit = record { fits = record { sfits = lit< tt }; is = refl }
negative SameIdentity = record { fits = record { sfits = lit< tt }; is = refl }
negative UnitLength = record { fits = record { sfits = lit< tt }; is = refl }
negative MacDiffers = record { fits = record { sfits = lit< tt }; is = refl }
negative UnitContents = record { fits = record { sfits = lit< tt }; is = refl }
negative DataLength = record { fits = record { sfits = lit< tt }; is = refl }
negative NoKey = record { fits = record { sfits = lit< tt }; is = refl }
negative StoreUnsound = record { fits = record { sfits = lit< tt }; is = refl }
negative KeyLength = record { fits = record { sfits = lit< tt }; is = refl }
negative NoRoom = record { fits = record { sfits = lit< tt }; is = refl }

-- what is told of a call that gives n, and of one that refuses
pub told-given : {a : Answer} (n : ℕ) → n < 2 ^ 31 → gives n ≡ a → to_z w32 n ≡ code a
told-given n l e = to_z_pos w32 n l ∙ ap code e

pub told-refused : {a : Answer} (h : Refusal) (z : ℤ) → z ≡ code (house (house_number h)) → house (house_number h) ≡ a → to_z w32 (of_z w32 z) ≡ code a
told-refused h z q e =
    let n = negative h in
    to_z-of_z w32 z (subst (λ (x : ℤ). SFits w32 x) (n.is ∙ sym q) n.fits) ∙ q ∙ ap code e
