-- Stores and calls that are alike: they differ at most inside KMAC fields (demand 3). A name with ' is of the second run.
-- Assumes nothing.
use Rattle.std.specs.Prelude.{◌≡◌, List, [], ◌∷◌, Bool, true, false, ◌&&◌, ◌||◌, ℕ, zero, suc, ◌+◌, ◌%◌, length, get_or, leb, ltb, Option, Some, None}
use Rattle.std.specs.Int.Count.{ones}
use Rattle.octets.specs.Bytes.{Bytes}
use Rattle.store.specs.declared.Limits.{Limits}
use Rattle.store.specs.Layout.{edition_of, record_at}
use Rattle.store.specs.Store.{Entry, entries, sound, key_count}
use Rattle.message.specs.declared.Command.TheVariants.{Adds}
use Rattle.message.specs.Body.{size_at, kmac_at, request_number, requests_at, well_formed_add}
use Rattle.runs.specs.Calls.{Call, starts, brings, searches}

-- ---- KMAC fields

-- index i is one of the 24 from a on
abbrev pub in_key : ℕ → ℕ → Bool
in_key a i = leb a i && ltb i (a + 24)

-- index i lies in a KMAC field of n K-STRUCTs that stand from index at on
unfoldable pub in_keys_from : List ℕ → ℕ → ℕ → ℕ → Bool
in_keys_from m at zero i = false
in_keys_from m at (suc n) i = in_key (kmac_at at) i || in_keys_from m (at + size_at Adds m at) n i

-- index i lies in a KMAC field of a well-formed add command
unfoldable pub in_message_key : List ℕ → ℕ → Bool
in_message_key m i = well_formed_add m && in_keys_from m requests_at (request_number m) i

-- index i lies in the KMAC field of one of the n records from record r on
unfoldable pub in_record_key : ℕ → ℕ → ℕ → Bool
in_record_key r zero i = false
in_record_key r (suc n) i = in_key (record_at r + 8) i || in_record_key (suc r) n i

unfoldable pub in_store_key : List ℕ → ℕ → Bool
in_store_key s i = in_record_key 0 (key_count s) i

-- ---- alike

-- two lists of one length that differ at most at the indices that p tells
pub record DifferAt (p : ℕ → Bool) (a b : List ℕ) : Type 0 where
  pub same_length : length a ≡ length b
  pub same_byte : (i : ℕ) → p i ≡ false → get_or a i 0 ≡ get_or b i 0

-- messages that differ at most inside the KMAC fields of well-formed add commands, where bytes in the same place have the same parity
pub record AlikeMessages (m m' : List ℕ) : Type 0 where
  pub bytes : Bytes m
  pub bytes' : Bytes m'
  pub differ : DifferAt (in_message_key m) m m'
  pub parity : (i : ℕ) → ones (get_or m i 0) % 2 ≡ ones (get_or m' i 0) % 2

-- the same calls with equal output buffers, but for messages that are only alike
pub data AlikeCalls : List Call → List Call → Type 0 where
  no_calls : AlikeCalls [] []
  alike-begin : {cs cs' : List Call} → (own peer start : ℕ) → (output : List ℕ) → AlikeCalls cs cs'
      → AlikeCalls (starts own peer start output ∷ cs) (starts own peer start output ∷ cs')
  alike-message : {cs cs' : List Call} → (m m' output : List ℕ) → AlikeMessages m m' → AlikeCalls cs cs'
      → AlikeCalls (brings m output ∷ cs) (brings m' output ∷ cs')
  alike-search : {cs cs' : List Call} → (peer moment : ℕ) → AlikeCalls cs cs' → AlikeCalls (searches peer moment ∷ cs) (searches peer moment ∷ cs')

-- sound: of the length of an edition, and sound in it
abbrev pub sound_in : Option Limits → List ℕ → Bool
sound_in None s = false
sound_in (Some L) s = sound L s

abbrev pub is_sound : List ℕ → Bool
is_sound s = sound_in (edition_of (length s)) s

abbrev pub entries_in : Option Limits → List ℕ → List Entry
entries_in None s = []
entries_in (Some L) s = entries L s

-- the entries that a store holds
abbrev pub held_in : List ℕ → List Entry
held_in s = entries_in (edition_of (length s)) s

-- two sound stores that differ at most inside KMAC fields
pub record AlikeStores (s s' : List ℕ) : Type 0 where
  pub bytes : Bytes s
  pub bytes' : Bytes s'
  pub sound : is_sound s ≡ true
  pub sound' : is_sound s' ≡ true
  pub differ : DifferAt (in_store_key s) s s'
