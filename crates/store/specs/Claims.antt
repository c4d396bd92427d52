-- What is claimed of the store beside the contracts. proofs/Theorems.antt has a proof of each claim.
-- Assumes nothing.
use Rattle.std.specs.Prelude.{◌≡◌, true, false, List, [], ◌⊎◌, ℕ, ◌+◌, ◌-◌, ◌≤◌, ◌<◌, eqb, length, get_or, take, ⊤, Some, Result}
use Rattle.refusal.specs.declared.Refusal.{Refusal}
use Rattle.octets.specs.Bytes.{Bytes, get16}
use Rattle.octets.specs.Words.{elem}
use Rattle.refusal.specs.House.{house}
use Rattle.store.specs.declared.Limits.{Limits}
use Rattle.store.specs.declared.Found.{Found}
use Rattle.store.specs.Layout.{Bounded, total, edition1, edition2, edition_of}
use Rattle.store.specs.Store.{Entry, HasPlace, kmac_at, encode, entries, sound}
use Rattle.store.specs.Search.{fits, serves, Finding, found, unfound, find, key, found_as, emptied_as, empty_in, emptied}
use Rattle.store.specs.Request.{Request, after, work}
use Rattle.store.specs.WellFormed.{nobody, WellFormed, Readable, AllReadable}

-- a list of entries has one store only, and a sound store one list
pub record OneStore : Type 0 where
  pub sound_well_formed : (L : Limits) (s : List ℕ) → Bytes s → sound L s ≡ true → WellFormed L (entries L s)
  pub sound_encodes : (L : Limits) (s : List ℕ) → Bytes s → sound L s ≡ true → s ≡ encode L (entries L s)
  pub encodes_sound : (L : Limits) (es : List Entry) → Bounded L → WellFormed L es → sound L (encode L es) ≡ true
  pub encodes_back : (L : Limits) (es : List Entry) → Bounded L → WellFormed L es → entries L (encode L es) ≡ es
  pub one_list : (L : Limits) (es fs : List Entry) → Bounded L → WellFormed L es → WellFormed L fs → encode L es ≡ encode L fs → es ≡ fs
  pub one_store : (L : Limits) (s t : List ℕ) → Bytes s → Bytes t → sound L s ≡ true → sound L t ≡ true → entries L s ≡ entries L t → s ≡ t

-- the header has the edition's number and its length, and the store is as long
abbrev pub HeaderSays : Limits → List ℕ → Type 0
HeaderSays L s = (get16 s 0 ≡ L.edition) × (get16 s 10 ≡ total L) × (length s ≡ total L)

-- a store that is accepted has its edition and its length in its header: one that passes the test of soundness, and one that find refuses neither for
-- its length nor as unsound
pub record AcceptedSaysEdition : Type 0 where
  pub of_sound : (L : Limits) (s : List ℕ) → sound L s ≡ true → HeaderSays L s
  pub of_find : (s : List ℕ) (peer t : ℕ) → (find s peer t ≡ unfound 1 → ⊥) → (find s peer t ≡ unfound 12 → ⊥) → HeaderSays edition1 s ⊎ HeaderSays edition2 s

-- change request 9: every request, whatever its RESULT, leaves a sound store sound, over any sequence of requests
abbrev pub KeepsSound : Limits → Type 0
KeepsSound L = (own : ℕ) (s : List ℕ) → Bytes s → sound L s ≡ true → (rs : List Request) → AllReadable rs → sound L (encode L (work L own rs (entries L s)).left) ≡ true

-- in both editions, and in any other
pub record RequestsKeepSound : Type 0 where
  pub in_edition_1 : KeepsSound edition1
  pub in_edition_2 : KeepsSound edition2
  pub in_any : (L : Limits) → KeepsSound L
  -- as cases of it: one request, and in the middle of a list, after its first n requests
  pub each : (L : Limits) (own : ℕ) (s : List ℕ) → Bytes s → sound L s ≡ true → (r : Request) → Readable r → sound L (encode L (after L own r (entries L s))) ≡ true
  pub throughout : (L : Limits) (own : ℕ) (s : List ℕ) → Bytes s → sound L s ≡ true → (rs : List Request) → AllReadable rs → (n : ℕ)
      → sound L (encode L (work L own (take n rs) (entries L s)).left) ≡ true
  -- and delete all, which is no request of a list, leaves a sound store whatever it held
  pub delete_all : (L : Limits) → Bounded L → sound L (encode L []) ≡ true

-- change request 4: a period fits exactly from its start to its end, both included
pub record BothEndsFit : Type 0 where
  pub fits_then : (start end t : ℕ) → start ≤ t → t ≤ end → fits start end t ≡ true
  pub only_then : (start end t : ℕ) → fits start end t ≡ true → (start ≤ t) × (t ≤ end)

-- a period that ends before its start fits at no moment
pub record ReversedNeverFits : Type 0 where
  pub never : (start end t : ℕ) → end < start → fits start end t ≡ false

-- a period that ends at its start fits exactly at that moment
pub record OneMomentFits : Type 0 where
  pub once : (moment t : ℕ) → fits moment moment t ≡ eqb t moment

-- a period with the end FFFFFFFF has none (000, 4.2.3.4): it fits at every moment of four bytes from its start on
pub record EndlessFits : Type 0 where
  pub always : (start t : ℕ) → start ≤ t → t ≤ 0xffffffff → fits start 0xffffffff t ≡ true

-- change request 7: what find gives. The store is sound; the entry at this place has the peer, fits at T and has this end; none that serves ends later, and
-- none before it that serves has the same end; `key` gives its KMAC
pub record Taken (L : Limits) (s : List ℕ) (peer t place end : ℕ) : Type 0 where
  pub sound_store : sound L s ≡ true
  pub from_one : 0 < place
  pub inside : place ≤ length (entries L s)
  pub has_peer : elem peer (get_or (entries L s) (place - 1) nobody).peers ≡ true
  pub it_fits : fits (get_or (entries L s) (place - 1) nobody).start (get_or (entries L s) (place - 1) nobody).end t ≡ true
  pub its_end : (get_or (entries L s) (place - 1) nobody).end ≡ end
  pub none_later : (j : ℕ) → j < length (entries L s) → serves peer t (get_or (entries L s) j nobody) ≡ true → (get_or (entries L s) j nobody).end ≤ end
  pub first : (j : ℕ) → j + 1 < place → serves peer t (get_or (entries L s) j nobody) ≡ true → (get_or (entries L s) j nobody).end < end
  pub its_kmac : key s peer t ≡ (get_or (entries L s) (place - 1) nobody).kmac

pub record IsFound (s : List ℕ) (peer t : ℕ) : Type 0 where
  pub place : ℕ
  pub end : ℕ
  pub given : find s peer t ≡ found place end

pub record LatestTaken : Type 0 where
  pub taken : (L : Limits) (s : List ℕ) (peer t : ℕ) → edition_of (length s) ≡ Some L → (place end : ℕ) → find s peer t ≡ found place end
      → Taken L s peer t place end
  -- and where the store is sound and an entry serves, find gives one
  pub one_found : (L : Limits) (s : List ℕ) (peer t : ℕ) → edition_of (length s) ≡ Some L → sound L s ≡ true → (j : ℕ) → j < length (entries L s)
      → serves peer t (get_or (entries L s) j nobody) ≡ true → IsFound s peer t

-- where find gives a place, it lies in the store, and `key` is the KMAC there, which is whole
pub record WholeKey : Type 0 where
  pub inside : (s : List ℕ) (peer t place end : ℕ) → find s peer t ≡ found place end → HasPlace s place
  pub there : (s : List ℕ) (peer t place end : ℕ) → find s peer t ≡ found place end → key s peer t ≡ kmac_at s (place - 1)
  pub long : (s : List ℕ) (peer t place end : ℕ) → find s peer t ≡ found place end → length (key s peer t) ≡ 24

abbrev pub NoneServes : List Entry → ℕ → ℕ → Type 0
NoneServes es peer t = (j : ℕ) → j < length es → serves peer t (get_or es j nobody) ≡ false

-- H12 exactly where the length is that of an edition and the store is not sound in it
pub record UnsoundExactly : Type 0 where
  pub only : (s : List ℕ) (peer t : ℕ) → find s peer t ≡ unfound 12 → (L : Limits) × (edition_of (length s) ≡ Some L) × (sound L s ≡ false)
  pub unsound : (L : Limits) (s : List ℕ) (peer t : ℕ) → edition_of (length s) ≡ Some L → sound L s ≡ false → find s peer t ≡ unfound 12

-- H11 exactly where the store is sound and no entry serves
pub record NoKeyExactly : Type 0 where
  pub none_serves : (L : Limits) (s : List ℕ) (peer t : ℕ) → edition_of (length s) ≡ Some L → find s peer t ≡ unfound 11
      → (sound L s ≡ true) × NoneServes (entries L s) peer t
  pub no_key : (L : Limits) (s : List ℕ) (peer t : ℕ) → edition_of (length s) ≡ Some L → sound L s ≡ true → NoneServes (entries L s) peer t
      → find s peer t ≡ unfound 11

pub record Among (es : List Entry) (e : Entry) : Type 0 where
  pub place : ℕ
  pub inside : place < length es
  pub is_it : get_or es place nobody ≡ e

abbrev pub AllAmong : List Entry → List Entry → Type 0
AllAmong es fs = (i : ℕ) → i < length es → Among fs (get_or es i nobody)

-- the answer but for the place
abbrev pub placeless : Finding → Finding
placeless (found place end) = found 0 end
placeless (unfound n) = unfound n

-- the order of the entries does not move the end: two sound stores, of either edition, each with all entries of the other
pub record OrderKeepsEnd : Type 0 where
  pub same_end : (L M : Limits) (s r : List ℕ) (peer t : ℕ) → edition_of (length s) ≡ Some L → edition_of (length r) ≡ Some M → sound L s ≡ true
      → sound M r ≡ true → AllAmong (entries L s) (entries M r) → AllAmong (entries M r) (entries L s) → placeless (find s peer t) ≡ placeless (find r peer t)

-- demand 1: a refused `empty` writes nothing
pub record RefusedEmptyWritesNothing : Type 0 where
  pub kept : (s : List ℕ) (n : ℕ) → empty_in (edition_of (length s)) ≡ house n → emptied (edition_of (length s)) s ≡ s

-- the paper's numbers are those of one answer only: a contract that fixes them fixes the answer
pub record OneAnswer : Type 0 where
  pub of_find : (a b : Result Found Refusal) → found_as a ≡ found_as b → a ≡ b
  pub of_empty : (a b : Result ⊤ Refusal) → emptied_as a ≡ emptied_as b → a ≡ b
