-- The numbers of the house's refusals (document 01, "Refusals of the house"; document 02, change request 6), and what a call answers in the paper's numbers.
-- Assumes nothing.
use Rattle.std.specs.Prelude.{Bool, true, false, List, ℕ, Result, Ok, Err}
use Rattle.refusal.specs.declared.Refusal.{Refusal}
use Rattle.refusal.specs.declared.Refusal.TheVariants.{StoreLength, OutputLength, SessionClosed, MessageShort, NoSessionInit, SameIdentity, UnitLength, MacDiffers, UnitContents, DataLength, NoKey, StoreUnsound, KeyLength, NoRoom}

abbrev pub house_number : Refusal → ℕ
house_number StoreLength = 1
house_number OutputLength = 2
house_number SessionClosed = 3
house_number MessageShort = 4
house_number NoSessionInit = 5
house_number SameIdentity = 6
house_number UnitLength = 7
house_number MacDiffers = 8
house_number UnitContents = 9
house_number DataLength = 10
house_number NoKey = 11
house_number StoreUnsound = 12
house_number KeyLength = 13
house_number NoRoom = 14

-- the refusal with this number, or the number that the call gives
pub data Answer : Type 0 where
  house : ℕ → Answer
  gives : ℕ → Answer

-- a call's answer in the paper's numbers: that of the refusal, or the value of what is given
abbrev pub answer_as : {T : Type 0} → (T → ℕ) → Result T Refusal → Answer
answer_as value (Ok x) = gives (value x)
answer_as value (Err h) = house (house_number h)

-- what follows where the test holds, else the refusal n; in a row, the first test that fails decides
abbrev pub asks : Bool → ℕ → Answer → Answer
asks true n a = a
asks false n a = house n

-- a lent buffer afterwards: what was made where the call answers, the old bytes where it refuses
abbrev pub unless_refused : Answer → List ℕ → List ℕ → List ℕ
unless_refused (gives n) made old = made
unless_refused (house n) made old = old
