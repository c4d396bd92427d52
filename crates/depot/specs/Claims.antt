-- What is claimed of the counts beside the contracts. proofs/Theorems.antt has a proof of each claim.
-- Assumes nothing.
use Rattle.std.specs.Prelude.{◌≡◌, true, false, Some, None, List, [], map, ℕ, ◌+◌, ◌≤◌, ◌<◌, length}
use Rattle.store.specs.Layout.{edition_of}
use Rattle.store.specs.Store.{Entry, entries, sound}
use Rattle.store.specs.Search.{fits}
use Rattle.store.specs.declared.Limits.{Limits}
use Rattle.depot.specs.declared.Class.{Class}
use Rattle.depot.specs.declared.Class.TheVariants.{Fit, Ended, Early, Reversed}
use Rattle.depot.specs.declared.Tally.{Tally}
use Rattle.depot.specs.Counts.{class_of, in_all, tally_of, counts_of, sums, largest, sum_of}

-- ---- classes

-- what each heading says of a key with this start and end at T: start ≤ T ≤ end; ended before T; not begun; start after end
abbrev pub Means : Class → ℕ → ℕ → ℕ → Type 0
Means Fit start end t = (start ≤ t) × (t ≤ end)
Means Ended start end t = (start ≤ end) × (end < t)
Means Early start end t = (start ≤ end) × (t < start)
Means Reversed start end t = end < start

-- every key is in a class that says what is so of it, and in no other; fit is the search's own test
pub record ClassesMean : Type 0 where
  pub means : (start end t : ℕ) → Means (class_of start end t) start end t
  pub exactly : (class : Class) (start end t : ℕ) → Means class start end t → class_of start end t ≡ class
  pub searched : (start end t : ℕ) → fits start end t ≡ true → class_of start end t ≡ Fit
  pub only_searched : (start end t : ℕ) → class_of start end t ≡ Fit → fits start end t ≡ true

-- "the four classes add up to the keys held"
abbrev pub AddsUp : Tally → Type 0
AddsUp c = in_all c.classes ≡ c.held

-- for every list of entries, for every store that has counts, and T
pub record ClassesAddUp : Type 0 where
  pub of_entries : (t : ℕ) (es : List Entry) → AddsUp (tally_of t es)
  pub of_store : (s : List ℕ) (t : ℕ) (c : Tally) → counts_of s t ≡ Some c → AddsUp c

-- ---- counts

-- a store of an edition's length that is sound there has the counts of its entries; every other has none
pub record CountsExactly : Type 0 where
  pub given : (L : Limits) (s : List ℕ) (t : ℕ) → edition_of (length s) ≡ Some L → sound L s ≡ true → counts_of s t ≡ Some (tally_of t (entries L s))
  pub unsound : (L : Limits) (s : List ℕ) (t : ℕ) → edition_of (length s) ≡ Some L → sound L s ≡ false → counts_of s t ≡ None
  pub no_edition : (s : List ℕ) (t : ℕ) → edition_of (length s) ≡ None → counts_of s t ≡ None

-- an entry without its KMAC
abbrev pub bare : Entry → Entry
bare e = record { issuer = e.issuer; serial = e.serial; kmac = []; start = e.start; end = e.end; peers = e.peers }

-- the numbers are made without the KMACs
pub record CountsShowNoKey : Type 0 where
  pub same : (t : ℕ) (es : List Entry) → tally_of t es ≡ tally_of t (map bare es)

-- ---- sums

-- none of the six passes the largest number of four bytes
pub record Within (a b : Tally) : Type 0 where
  pub held : a.held + b.held ≤ largest
  pub fit : a.classes.fit + b.classes.fit ≤ largest
  pub ended : a.classes.ended + b.classes.ended ≤ largest
  pub early : a.classes.early + b.classes.early ≤ largest
  pub reversed : a.classes.reversed + b.classes.reversed ≤ largest
  pub peers : a.peers + b.peers ≤ largest

-- the sums are given exactly where that is so; else there are none
pub record SumsExactly : Type 0 where
  pub given : (a b : Tally) → Within a b → sum_of a b ≡ Some (sums a b)
  pub refused : (a b : Tally) → (Within a b → ⊥) → sum_of a b ≡ None
  pub only : (a b c : Tally) → sum_of a b ≡ Some c → Within a b × (c ≡ sums a b)
