-- Entries that a store of an edition can hold, and requests as a message can bring them.
-- Assumes nothing.
use Rattle.std.specs.Prelude.{◌≡◌, true, List, [], ◌∷◌, ℕ, ◌≤◌, ◌<◌, length, get_or}
use Rattle.store.specs.Store.{Entry, peers_of, all_odd}
use Rattle.store.specs.Request.{Request, add, delete, validity, entities}
use Rattle.store.specs.declared.Limits.{Limits}

-- each number of a list fits four bytes
pub record Words (xs : List ℕ) : Type 0 where
  pub fit : (k : ℕ) → k < length xs → get_or xs k 0 < 4294967296

-- the fields of an entry fit their widths
pub record Fitting (e : Entry) : Type 0 where
  pub issuer_fits : e.issuer < 4294967296
  pub serial_fits : e.serial < 4294967296
  pub start_fits : e.start < 4294967296
  pub end_fits : e.end < 4294967296
  pub kmac_long : length e.kmac ≡ 24
  pub kmac_bytes : (k : ℕ) → get_or e.kmac k 0 < 256
  pub peers_fit : Words e.peers

-- no entry: what stands past the end of a list
abbrev pub nobody : Entry
nobody = record { issuer = 0; serial = 0; kmac = []; start = 0; end = 0; peers = [] }

-- the entries are within the limits, their fields fit, their keys are of odd parity, and no two share issuer and serial
pub record WellFormed (L : Limits) (es : List Entry) : Type 0 where
  pub keys_fit : length es ≤ L.keys
  pub peers_fit : length (peers_of es) ≤ L.peers
  pub fitting : (i : ℕ) → i < length es → Fitting (get_or es i nobody)
  pub odd : (i : ℕ) → i < length es → all_odd (get_or es i nobody).kmac ≡ true
  pub apart : (i j : ℕ) → j < i → i < length es
      → (get_or es i nobody).issuer ≡ (get_or es j nobody).issuer → (get_or es i nobody).serial ≡ (get_or es j nobody).serial → ⊥

-- the fields of a request fit their widths
unfoldable pub Readable : Request → Type 0
Readable (add recipient e) = Fitting e
Readable (delete i s) = Unit {0}
Readable (validity i s a b) = (a < 4294967296) × (b < 4294967296)
Readable (entities i s ps) = Words ps

unfoldable pub AllReadable : List Request → Type 0
AllReadable [] = Unit {0}
AllReadable (r ∷ rs) = Readable r × AllReadable rs
