-- What each request does to the entries (document 01, "What each request does"), with its RESULT (000, 5.3.15.1).
-- Assumes nothing.
use Rattle.std.specs.Prelude.{Bool, true, false, ◌&&◌, not, List, [], ◌∷◌, ◌++◌, ℕ, zero, suc, ◌+◌, length, take, drop, leb, ltb, eqb}
use Rattle.store.specs.Store.{Entry, peers_of, all_odd}
use Rattle.store.specs.Search.{pick_number, place_where}
use Rattle.store.specs.declared.Limits.{Limits}

pub data Request : Type 0 where
  add : (recipient : ℕ) → Entry → Request
  delete : (issuer serial : ℕ) → Request
  validity : (issuer serial start end : ℕ) → Request
  entities : (issuer serial : ℕ) → (peers : List ℕ) → Request

-- ---- the RESULT

-- the entry has this issuer and serial
abbrev pub has_key : ℕ → ℕ → Entry → Bool
has_key i s e = eqb e.issuer i && eqb e.serial s

abbrev pub key_place : ℕ → ℕ → List Entry → ℕ
key_place i s es = place_where (has_key i s) es

abbrev pub is_held : ℕ → ℕ → List Entry → Bool
is_held i s es = ltb (key_place i s es) (length es)

-- without the entry at place i
abbrev pub remove_at : ℕ → List Entry → List Entry
remove_at i es = take i es ++ drop (suc i) es

-- the peers of all other entries, and k more
abbrev pub peers_beside : ℕ → ℕ → ℕ → List Entry → ℕ
peers_beside i s k es = length (peers_of (remove_at (key_place i s es) es)) + k

pub data Reason : Type 0 where
  reason : Bool → ℕ → Reason

-- the number of the first reason that applies, 0 where none does
unfoldable pub first_reason : List Reason → ℕ
first_reason [] = 0
first_reason (reason b n ∷ rs) = pick_number b n (first_reason rs)

-- `own` is the own identity
unfoldable pub result : Limits → ℕ → Request → List Entry → ℕ
result L own (add recipient e) es =
    first_reason
    (reason (not (eqb recipient own)) 5
    ∷ reason (not (all_odd e.kmac)) 4
    ∷ reason (is_held e.issuer e.serial es) 3
    ∷ reason (leb L.keys (length es)) 2
    ∷ reason (ltb L.peers (length (peers_of es) + length e.peers)) 255
    ∷ [])
result L own (delete i s) es = first_reason (reason (not (is_held i s es)) 1 ∷ [])
result L own (validity i s a b) es = first_reason (reason (not (is_held i s es)) 1 ∷ [])
result L own (entities i s ps) es =
    first_reason (reason (not (is_held i s es)) 1 ∷ reason (ltb L.peers (peers_beside i s (length ps) es)) 255 ∷ [])

-- ---- the entries afterwards

-- with the entry at place i changed by g
unfoldable pub update_at : ℕ → (Entry → Entry) → List Entry → List Entry
update_at i g [] = []
update_at zero g (e ∷ es) = g e ∷ es
update_at (suc i) g (e ∷ es) = e ∷ update_at i g es

abbrev pub valid_for : ℕ → ℕ → Entry → Entry
valid_for a b e = record { issuer = e.issuer; serial = e.serial; kmac = e.kmac; start = a; end = b; peers = e.peers }

abbrev pub with_peers : List ℕ → Entry → Entry
with_peers ps e = record { issuer = e.issuer; serial = e.serial; kmac = e.kmac; start = e.start; end = e.end; peers = ps }

-- a request whose RESULT is 0, done
unfoldable pub done : Request → List Entry → List Entry
done (add recipient e) es = es ++ (e ∷ [])
done (delete i s) es = remove_at (key_place i s es) es
done (validity i s a b) es = update_at (key_place i s es) (valid_for a b) es
done (entities i s ps) es = update_at (key_place i s es) (with_peers ps) es

abbrev pub pick_entries : Bool → List Entry → List Entry → List Entry
pick_entries true a b = a
pick_entries false a b = b

-- a request with a RESULT other than 0 leaves the entries as they were
unfoldable pub after : Limits → ℕ → Request → List Entry → List Entry
after L own r es = pick_entries (eqb (result L own r es) 0) (done r es) es

-- ---- a list of requests, each on the entries left by the one before

pub record Work : Type 0 where
  pub results : List ℕ
  pub left : List Entry

unfoldable pub work : Limits → ℕ → List Request → List Entry → Work
work L own [] es = record { results = []; left = es }
work L own (r ∷ rs) es =
    let w = work L own rs (after L own r es) in
    record { results = result L own r es ∷ w.results; left = w.left }
