-- Demand 3: key bytes never show in a reply. One claim about two whole runs.
-- Assumes nothing.
use Rattle.std.specs.Prelude.{◌≡◌, List, [], ◌∷◌, map, Bool, true, false, ◌&&◌, not}
use Rattle.store.specs.Store.{Entry}
use Rattle.runs.specs.Calls.{Call, World, all_seen, final}
use Rattle.runs.specs.Alike.{AlikeCalls, AlikeStores, held_in}
use Rattle.runs.specs.Tally.{Tag, tally, message_in, reply_in}

-- both stores have the tally's issuers and serials in its order, and two KMACs of one place differ exactly where the tag says unlike
pub data Told : List Tag → List Entry → List Entry → Type 0 where
  told_none : Told [] [] []
  told_more : {t : Tag} {e e' : Entry} {ts : List Tag} {es es' : List Entry}
      → t.issuer ≡ e.issuer → t.serial ≡ e.serial → t.issuer ≡ e'.issuer → t.serial ≡ e'.serial
      → (t.unlike ≡ false → e.kmac ≡ e'.kmac) → (t.unlike ≡ true → e.kmac ≡ e'.kmac → ⊥)
      → Told ts es es' → Told (t ∷ ts) (e ∷ es) (e' ∷ es')

abbrev pub none_unlike : List Tag → Bool
none_unlike [] = true
none_unlike (t ∷ ts) = not t.unlike && none_unlike ts

-- the tally after the list
abbrev pub tally_of : List Call → List Call → World → World → List Tag
tally_of cs cs' w w' = tally w.store w'.store (map message_in cs) (map message_in cs') (map reply_in (all_seen cs w))

-- what is alike of two runs
pub record Alike (cs cs' : List Call) (w w' : World) : Type 0 where
  -- each call's answer, reply bytes, search place and end, and output buffer are the same
  pub same_seen : all_seen cs w ≡ all_seen cs' w'
  -- the sessions are equal
  pub same_session : (final cs w).session ≡ (final cs' w').session
  -- the stores are sound and differ only inside KMAC fields
  pub alike_stores : AlikeStores (final cs w).store (final cs' w').store
  -- and exactly in the records that the tally says
  pub told : Told (tally_of cs cs' w w') (held_in (final cs w).store) (held_in (final cs' w').store)
  -- where no such record is held, the stores are equal byte for byte
  pub no_trace : none_unlike (tally_of cs cs' w w') ≡ true → (final cs w).store ≡ (final cs' w').store

-- from equal sessions and alike stores, any two lists of alike calls
pub record Secrecy : Type 0 where
  pub runs : (cs cs' : List Call) (w w' : World) → w.session ≡ w'.session → AlikeStores w.store w'.store → AlikeCalls cs cs' → Alike cs cs' w w'
