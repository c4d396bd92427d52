-- What is claimed of the conversion beside the contracts. proofs/Theorems.antt has a proof of each claim.
-- Assumes nothing.
use Rattle.std.specs.Prelude.{◌≡◌, true, false, List, ◌⊎◌, ℕ, ◌≤◌, ◌<◌, length, ⊤, Result}
use Rattle.octets.specs.Bytes.{Bytes, get16}
use Rattle.refusal.specs.House.{house, gives}
use Rattle.store.specs.Layout.{total, Bounded, edition1, edition2}
use Rattle.store.specs.Store.{Entry, peers_of, entries, sound}
use Rattle.store.specs.Search.{find, key}
use Rattle.store.specs.declared.Limits.{Limits}
use Rattle.convert.specs.Convert.{answered, converted, converted_as}
use Rattle.refusal.specs.declared.Refusal.{Refusal}

-- the target is sound in its edition and has the same entries in the same order
pub record SameEntries : Type 0 where
  pub made_sound : (F T : Limits) (from to : List ℕ) → Bounded T → Bytes from → answered F T from to ≡ gives 0 → sound T (converted F T from to) ≡ true
  pub same : (F T : Limits) (from to : List ℕ) → Bounded T → Bytes from → answered F T from to ≡ gives 0 → entries T (converted F T from to) ≡ entries F from

-- neither way is refused, and there and back gives the same bytes, whatever stood in the two targets
abbrev pub Returns : Limits → Limits → List ℕ → List ℕ → List ℕ → Type 0
Returns F T from to back =
    (answered F T from to ≡ gives 0)
    × (answered T F (converted F T from to) back ≡ gives 0)
    × (converted T F (converted F T from to) back ≡ from)

-- from every sound store of edition 1, and from every store of edition 2 that is not refused
pub record ThereAndBack : Type 0 where
  pub from_edition1 : (from to back : List ℕ) → Bytes from → sound edition1 from ≡ true → length to ≡ total edition2 → length back ≡ total edition1
      → Returns edition1 edition2 from to back
  pub from_edition2 : (from to back : List ℕ) → Bytes from → answered edition2 edition1 from to ≡ gives 0 → length back ≡ total edition2
      → Returns edition2 edition1 from to back

-- forward is never refused from a sound store with buffers of the right lengths
pub record ForwardAlways : Type 0 where
  pub done : (from to : List ℕ) → sound edition1 from ≡ true → length to ≡ total edition2 → answered edition1 edition2 from to ≡ gives 0

-- of the target before, only the length is looked at: neither the answer nor what is made depends on what stood there
pub record TargetNotJudged : Type 0 where
  pub same_answer : (F T : Limits) (from to to' : List ℕ) → length to ≡ length to' → answered F T from to ≡ answered F T from to'
  pub same_target : (F T : Limits) (from to to' : List ℕ) → length to ≡ length to' → answered F T from to ≡ gives 0 → converted F T from to ≡ converted F T from to'

-- a refusal writes nothing: the target stays, and the source is lent to be read
pub record RefusedWritesNothing : Type 0 where
  pub kept : (F T : Limits) (from to : List ℕ) (n : ℕ) → answered F T from to ≡ house n → converted F T from to ≡ to

-- H1 exactly where one of the buffers has not the length of its side's edition
pub record LengthExactly : Type 0 where
  pub of_source : (F T : Limits) (from to : List ℕ) → (length from ≡ total F → ⊥) → answered F T from to ≡ house 1
  pub of_target : (F T : Limits) (from to : List ℕ) → (length to ≡ total T → ⊥) → answered F T from to ≡ house 1
  pub only : (F T : Limits) (from to : List ℕ) → answered F T from to ≡ house 1 → (length from ≡ total F → ⊥) ⊎ (length to ≡ total T → ⊥)

-- H12 exactly where both have, and the source is not sound in its edition; so one with the number of another edition in its header
pub record UnsoundExactly : Type 0 where
  pub refused : (F T : Limits) (from to : List ℕ) → length from ≡ total F → length to ≡ total T → sound F from ≡ false → answered F T from to ≡ house 12
  pub only : (F T : Limits) (from to : List ℕ) → answered F T from to ≡ house 12 → (length from ≡ total F) × (length to ≡ total T) × (sound F from ≡ false)
  pub other_header : (F T : Limits) (from to : List ℕ) → length from ≡ total F → length to ≡ total T → (get16 from 0 ≡ F.edition → ⊥)
      → answered F T from to ≡ house 12

-- more entries or peers than edition 1 has room for
abbrev pub TooMany : List Entry → Type 0
TooMany es = (64 < length es) ⊎ (256 < length (peers_of es))

-- H14 exactly where both lengths are right, the source is sound and too many are held; so never forward
pub record NoRoomExactly : Type 0 where
  pub refused : (from to : List ℕ) → length to ≡ total edition1 → sound edition2 from ≡ true → TooMany (entries edition2 from)
      → answered edition2 edition1 from to ≡ house 14
  pub only : (from to : List ℕ) → answered edition2 edition1 from to ≡ house 14
      → (length to ≡ total edition1) × (sound edition2 from ≡ true) × TooMany (entries edition2 from)
  pub done : (from to : List ℕ) → length to ≡ total edition1 → sound edition2 from ≡ true → length (entries edition2 from) ≤ 64
      → length (peers_of (entries edition2 from)) ≤ 256 → answered edition2 edition1 from to ≡ gives 0
  pub never_forward : (from to : List ℕ) → answered edition1 edition2 from to ≡ house 14 → ⊥

-- every search has the same answer: place and end, or the refusal, and the 24 bytes
abbrev pub SameFound : List ℕ → List ℕ → Type 0
SameFound s s' = (peer t : ℕ) → (find s peer t ≡ find s' peer t) × (key s peer t ≡ key s' peer t)

pub record SameSearch : Type 0 where
  pub to_edition2 : (from to : List ℕ) → Bytes from → answered edition1 edition2 from to ≡ gives 0 → SameFound (converted edition1 edition2 from to) from
  pub to_edition1 : (from to : List ℕ) → Bytes from → answered edition2 edition1 from to ≡ gives 0 → SameFound (converted edition2 edition1 from to) from

-- the paper's numbers are those of one answer only: a contract that fixes them fixes the answer
pub record OneAnswer : Type 0 where
  pub of_conversion : (a b : Result ⊤ Refusal) → converted_as a ≡ converted_as b → a ≡ b
