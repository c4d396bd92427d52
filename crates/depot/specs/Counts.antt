-- What the report counts (change request 14): the keys of a store by their periods at a moment T, its peers, and the sums over many stores.
-- Assumes nothing.
use Rattle.std.specs.Prelude.{Bool, cond, Option, Some, None, List, [], ◌∷◌, ℕ, ◌+◌, length, leb, ltb}
use Rattle.store.specs.Layout.{edition_of}
use Rattle.store.specs.Store.{Entry, entries, peers_of, sound, all_hold}
use Rattle.store.specs.Search.{fits}
use Rattle.store.specs.declared.Limits.{Limits}
use Rattle.depot.specs.declared.Class.{Class}
use Rattle.depot.specs.declared.Class.TheVariants.{Fit, Ended, Early, Reversed}
use Rattle.depot.specs.declared.Classes.{Classes}
use Rattle.depot.specs.declared.Tally.{Tally}

-- ---- classes

-- the first that applies: start after end ("counts under a heading of its own and in no other class"), T before start ("not begun"),
-- the very rule of the key search ("the rule in force"), and else ended
abbrev pub class_of : ℕ → ℕ → ℕ → Class
class_of start end t = cond (ltb end start) Reversed (cond (ltb t start) Early (cond (fits start end t) Fit Ended))

abbrev pub class_in : ℕ → Entry → Class
class_in t e = class_of e.start e.end t

-- one key more in a class
abbrev pub one_more : Class → Classes → Classes
one_more Fit c = record { fit = c.fit + 1; ended = c.ended; early = c.early; reversed = c.reversed }
one_more Ended c = record { fit = c.fit; ended = c.ended + 1; early = c.early; reversed = c.reversed }
one_more Early c = record { fit = c.fit; ended = c.ended; early = c.early + 1; reversed = c.reversed }
one_more Reversed c = record { fit = c.fit; ended = c.ended; early = c.early; reversed = c.reversed + 1 }

-- how many entries are in each class
unfoldable pub classes_of : ℕ → List Entry → Classes
classes_of t [] = record { fit = 0; ended = 0; early = 0; reversed = 0 }
classes_of t (e ∷ es) = one_more (class_in t e) (classes_of t es)

-- the keys of all four classes
abbrev pub in_all : Classes → ℕ
in_all c = c.fit + c.ended + c.early + c.reversed

-- ---- the counts of a store

-- keys held, the four classes, peers held
unfoldable pub tally_of : ℕ → List Entry → Tally
tally_of t es = record { held = length es; classes = classes_of t es; peers = length (peers_of es) }

-- "is unsound or has a wrong length": none
unfoldable pub counts_in : Option Limits → List ℕ → ℕ → Option Tally
counts_in None s t = None
counts_in (Some L) s t = cond (sound L s) (Some (tally_of t (entries L s))) None

unfoldable pub counts_of : List ℕ → ℕ → Option Tally
counts_of s t = counts_in (edition_of (length s)) s t

-- ---- sums

abbrev pub sums : Tally → Tally → Tally
sums a b =
    record {
      held = a.held + b.held;
      classes = record {
        fit = a.classes.fit + b.classes.fit;
        ended = a.classes.ended + b.classes.ended;
        early = a.classes.early + b.classes.early;
        reversed = a.classes.reversed + b.classes.reversed;
      };
      peers = a.peers + b.peers;
    }

-- the largest number of four bytes
abbrev pub largest : ℕ
largest = 4294967295

-- no sum passes it
abbrev pub rooms : Tally → Tally → List Bool
rooms a b =
    leb (a.held + b.held) largest
    ∷ leb (a.classes.fit + b.classes.fit) largest
    ∷ leb (a.classes.ended + b.classes.ended) largest
    ∷ leb (a.classes.early + b.classes.early) largest
    ∷ leb (a.classes.reversed + b.classes.reversed) largest
    ∷ leb (a.peers + b.peers) largest
    ∷ []

unfoldable pub sum_of : Tally → Tally → Option Tally
sum_of a b = cond (all_hold (rooms a b)) (Some (sums a b)) None
