-- A number is the number of one refusal only, and what a row of tests answers.
-- Assumes nothing.
use mathlib.Core.Path.{◌≡◌, refl, sym, ap, ◌∙◌}
use mathlib.Core.List.{List, [], ◌∷◌}
use mathlib.Core.Bool.{Bool, true, false}
use mathlib.Core.Logic.{◌⊎◌, inl, inr}
use Prim.Native.Nat.{ℕ, zero, suc}
use native.Mathlib.Omega.{arith}
use Rattle.std.specs.Prelude.{Result, Ok, Err}
use Rattle.refusal.specs.House.{house_number, Answer, house, gives, answer_as, asks, unless_refused}
use Rattle.refusal.specs.declared.Refusal.{Refusal}
use Rattle.refusal.specs.declared.Refusal.TheVariants.{StoreLength, OutputLength, SessionClosed, MessageShort, NoSessionInit, SameIdentity, UnitLength, MacDiffers, UnitContents, DataLength, NoKey, StoreUnsound, KeyLength, NoRoom}

-- what has a way back is one to one
pub one_each : {A B : Type 0} (f : A → B) (g : B → A) → ((a : A) → g (f a) ≡ a) → (a b : A) → f a ≡ f b → a ≡ b
one_each f g back a b e = sym (back a) ∙ ap g e ∙ back b

-- the element at a place of a list, the first being 1; the last past its end
at : Refusal → List Refusal → ℕ → Refusal
at h [] n = h
at h (g ∷ gs) zero = h
at h (g ∷ gs) (suc n) = at g gs n

-- the refusal of a number
pub named : ℕ → Refusal
named =
    at KeyLength
    (StoreLength ∷ OutputLength ∷ SessionClosed ∷ MessageShort ∷ NoSessionInit ∷ SameIdentity ∷ UnitLength ∷ MacDiffers ∷ UnitContents ∷ DataLength ∷ NoKey ∷ StoreUnsound ∷ KeyLength ∷ NoRoom ∷ [])

pub named_back : (h : Refusal) → named (house_number h) ≡ h
unfolding named at
named_back StoreLength = refl
named_back OutputLength = refl
named_back SessionClosed = refl
named_back MessageShort = refl
named_back NoSessionInit = refl
named_back SameIdentity = refl
named_back UnitLength = refl
named_back MacDiffers = refl
named_back UnitContents = refl
named_back DataLength = refl
named_back NoKey = refl
named_back StoreUnsound = refl
named_back KeyLength = refl
named_back NoRoom = refl

pub one_number : (g h : Refusal) → house_number g ≡ house_number h → g ≡ h
one_number = one_each house_number named named_back

-- ---- tests in a row

-- what gives a number has passed the test
pub asks-gives : (b : Bool) (n : ℕ) (a : Answer) (m : ℕ) → asks b n a ≡ gives m → (b ≡ true) × (a ≡ gives m)
asks-gives true n a m e = (refl, e)
asks-gives false n a m e = let z : ◌≡◌ {A = ℕ} 0 1 = cc in absurd (omega arith)

-- what refuses has failed it, or one that follows
pub asks-house : (b : Bool) (n : ℕ) (a : Answer) (m : ℕ) → asks b n a ≡ house m → ((b ≡ false) × (n ≡ m)) ⊎ ((b ≡ true) × (a ≡ house m))
asks-house true n a m e = inr (refl, e)
asks-house false n a m e = inl (refl, cc)

-- ---- an answer has one number

pub house-number : (m n : ℕ) → house m ≡ house n → m ≡ n
house-number m n e = cc

pub gives-number : (m n : ℕ) → gives m ≡ gives n → m ≡ n
gives-number m n e = cc

pub not-both : {A : Type 0} (m n : ℕ) → house m ≡ gives n → A
not-both m n e = let z : ◌≡◌ {A = ℕ} 0 1 = cc in absurd (omega arith)

-- answers with the same number are the same answer, where what is given has one number each
pub answer-one : {T : Type 0} (value : T → ℕ) → ((x y : T) → value x ≡ value y → x ≡ y) → (a b : Result T Refusal) → answer_as value a ≡ answer_as value b → a ≡ b
answer-one value one (Ok x) (Ok y) e = ap Ok (one x y (gives-number (value x) (value y) e))
answer-one value one (Ok x) (Err h) e = not-both (house_number h) (value x) (sym e)
answer-one value one (Err g) (Ok y) e = not-both (house_number g) (value y) e
answer-one value one (Err g) (Err h) e = ap Err (one_number g h (house-number (house_number g) (house_number h) e))

-- ---- what a lent buffer holds then

pub buffer-kept : {a : Answer} (n : ℕ) (made old : List ℕ) → house n ≡ a → old ≡ unless_refused a made old
buffer-kept n made old e = ap (λ (x : Answer). unless_refused x made old) e
