-- The search for a key (document 01, "Key search"), and what `find`, `key` and `empty` answer.
-- Assumes nothing.
use Rattle.std.specs.Prelude.{Bool, true, false, cond, ◌&&◌, List, [], ◌∷◌, ℕ, zero, suc, length, leb, ltb, ⊤, Option, Some, None, Result, Ok, Err}
use Rattle.octets.specs.Bytes.{between}
use Rattle.octets.specs.Words.{elem}
use Rattle.refusal.specs.House.{Answer, house, gives, house_number, answer_as}
use Rattle.refusal.specs.declared.Refusal.{Refusal}
use Rattle.store.specs.Layout.{edition_of}
use Rattle.store.specs.Store.{Entry, encode, entries, kmac_at, sound}
use Rattle.store.specs.declared.Found.{Found}
use Rattle.store.specs.declared.Limits.{Limits}

-- ---- which record is taken

-- start ≤ T ≤ end (change request 4; 000, 4.2.3.2, leaves the end out), the three compared as unsigned numbers
abbrev pub fits : ℕ → ℕ → ℕ → Bool
fits start end t = between start end t

-- the entry has the peer in its list, and fits at the moment T
abbrev pub serves : ℕ → ℕ → Entry → Bool
serves peer t e = elem peer e.peers && fits e.start e.end t

abbrev pub pick_number : Bool → ℕ → ℕ → ℕ
pick_number true a b = a
pick_number false a b = b

-- the place of the first entry of which p holds, counted from 0; the number of entries where there is none
unfoldable pub place_where : (Entry → Bool) → List Entry → ℕ
place_where p [] = 0
place_where p (e ∷ es) = pick_number (p e) 0 (suc (place_where p es))

-- the place of the entry that is taken, counted from 0, and its end; where none is, the number of entries, and 0
pub record Choice : Type 0 where
  pub place : ℕ
  pub end : ℕ

-- one entry more in front, with this end: it is taken where the test holds, else what is taken behind it, one place further on
abbrev pub one_more : Bool → ℕ → Choice → Choice
one_more true end c = record { place = 0; end = end }
one_more false end c = record { place = suc c.place; end = c.end }

-- of the entries of which p holds, the first with the latest end (change request 7), the ends compared as unsigned numbers: an entry is taken where none
-- behind it ends later. Its place, counted from 0, and its end; where p holds of none, the number of entries, and 0
unfoldable pub latest : (Entry → Bool) → List Entry → Choice
latest p [] = record { place = 0; end = 0 }
latest p (e ∷ es) = let c = latest p es in one_more (p e && leb c.end e.end) e.end c

-- the entry that is taken of those that serve
abbrev pub chosen : ℕ → ℕ → List Entry → Choice
chosen peer t es = latest (serves peer t) es

-- ---- find: H1, H12, H11

-- the record's place, the first being 1, and its end; or the refusal with this number, and no end
pub data Finding : Type 0 where
  found : (place end : ℕ) → Finding
  unfound : (number : ℕ) → Finding

-- the answer without the end
abbrev pub place_in : Finding → Answer
place_in (found place end) = gives place
place_in (unfound n) = house n

-- what follows where the test holds, else the refusal n
abbrev pub or_else : Bool → ℕ → Finding → Finding
or_else true n f = f
or_else false n f = unfound n

abbrev pub found_as : Result Found Refusal → Finding
found_as (Ok f) = found f.place f.end
found_as (Err h) = unfound (house_number h)

-- what is taken of n entries, the first place being 1
abbrev pub taken : Choice → ℕ → Option Found
taken c n = cond (ltb c.place n) (Some (record { place = suc c.place; end = c.end })) None

-- the end of what is taken; 0, before which none lies, where nothing is
abbrev pub end_of : Option Found → ℕ
end_of None = 0
end_of (Some f) = f.end

-- the choice among n entries
abbrev pub placed : Choice → ℕ → Finding
placed c n = or_else (ltb c.place n) 11 (found (suc c.place) c.end)

unfoldable pub find_in : Option Limits → List ℕ → ℕ → ℕ → Finding
find_in None s peer t = unfound 1
find_in (Some L) s peer t = or_else (sound L s) 12 (placed (chosen peer t (entries L s)) (length (entries L s)))

unfoldable pub find : List ℕ → ℕ → ℕ → Finding
find s peer t = find_in (edition_of (length s)) s peer t

-- the KMAC of the record that find names; nothing where it refuses
abbrev pub key_of : Finding → List ℕ → List ℕ
key_of (found zero e) s = []
key_of (found (suc i) e) s = kmac_at s i
key_of (unfound n) s = []

unfoldable pub key : List ℕ → ℕ → ℕ → List ℕ
key s peer t = key_of (find s peer t) s

-- ---- the empty store: H1

abbrev pub emptied_as : Result ⊤ Refusal → Answer
emptied_as r = answer_as (λ done. 0) r

-- what empty answers, and what it leaves in the buffer
unfoldable pub empty_in : Option Limits → Answer
empty_in None = house 1
empty_in (Some L) = gives 0

unfoldable pub emptied : Option Limits → List ℕ → List ℕ
emptied None s = s
emptied (Some L) s = encode L []
