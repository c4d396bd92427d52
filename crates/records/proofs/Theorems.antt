-- The records that are shown have no byte of a KMAC.
-- Assumes nothing.
use mathlib.Core.Bool.{Bool, true, false}
use mathlib.Core.List.{List}
use mathlib.Core.Path.{◌≡◌, refl, ap, ◌∙◌}
use Prim.Native.Nat.{ℕ, zero, suc, ◌+◌, ◌*◌, ◌≤◌, ◌<◌}
use native.Mathlib.Omega.{arith}
use lib.Dec.{ltb}
use lib.ListN.{length}
use borrow.Author.Tests.{ltb-true, ltb-false}
use Rattle.octets.specs.Bytes.{get16, get32}
use Rattle.octets.proofs.BoolLaws.{clash}
use Rattle.store.specs.declared.Limits.{Limits}
use Rattle.std.proofs.Common.{Option, Some, None}
use Rattle.store.specs.Layout.{record_at, edition_of}
use Rattle.store.specs.Store.{key_count, sound}
use Rattle.store.proofs.SoundLaws.{sound_says}
use Rattle.runs.specs.Alike.{in_key, in_record_key, in_store_key, sound_in}
use Rattle.runs.proofs.RangeLaws.{get16-same, get32-same, before-key, past-key}
use Rattle.records.specs.Claims.{ShowsNoKey}

-- ---- where no KMAC field stands

-- behind the KMAC of the record before record i, and before its own
between-keys : (n r i k : ℕ) → record_at i ≤ k + 12 → k < record_at i + 8 → in_record_key r n k ≡ false
unfolding in_record_key
between-keys zero r i k h l = refl
between-keys (suc n) r i k h l = rw (here (ltb r i) refl, between-keys n (suc r) i k h l)
  where
    here : (b : Bool) → ltb r i ≡ b → in_key (record_at r + 8) k ≡ false
    here true q = let m : r < i = ltb-true r i q in past-key (record_at r + 8) k (omega arith)
    here false q = let m : i ≤ r = ltb-false r i q in before-key (record_at r + 8) k (omega arith)

-- behind the last record
past-records : (n r k : ℕ) → record_at (r + n) ≤ k → in_record_key r n k ≡ false
unfolding in_record_key
past-records zero r k h = refl
past-records (suc n) r k h = rw (past-key (record_at r + 8) k (omega arith), past-records n (suc r) k (omega arith))

-- ---- a sound store is one of an edition

pub held_in_lem : (E : Option Limits) (s : List ℕ) → sound_in E s ≡ true → (L : Limits) × (sound L s ≡ true)
held_in_lem None s h = clash false h refl
held_in_lem (Some L) s h = (L, h)

-- ---- what is shown

pub shows-no-key : ShowsNoKey
unfolding in_store_key
shows-no-key s s' t d =
    let p = held_in_lem (edition_of (length s)) s t in
    let w = sound_says p.0 s p.1 in
    let n : ℕ = key_count s in
    let gap : (i k : ℕ) → record_at i ≤ k + 12 → k < record_at i + 8 → lib.ListN.get_or s k 0 ≡ lib.ListN.get_or s' k 0 =
    λ i k h l. d.same_byte k (between-keys n 0 i k h l) in
    record {
      same_keys = get16-same s s' 2 (λ k h l. gap 0 k (omega arith) (omega arith));
      same_peers = get16-same s s' 6 (λ k h l. gap 0 k (omega arith) (omega arith));
      same_record = λ i.
          let issuer = get32-same s s' (record_at i) (λ k h l. gap i k (omega arith) (omega arith)) in
          let serial = get32-same s s' (record_at i + 4) (λ k h l. gap i k (omega arith) (omega arith)) in
          let start = get32-same s s' (record_at i + 32) (λ k h l. gap (suc i) k (omega arith) (omega arith)) in
          let stop = get32-same s s' (record_at i + 36) (λ k h l. gap (suc i) k (omega arith) (omega arith)) in
          let first = get16-same s s' (record_at i + 40) (λ k h l. gap (suc i) k (omega arith) (omega arith)) in
          let count = get16-same s s' (record_at i + 42) (λ k h l. gap (suc i) k (omega arith) (omega arith)) in
          cc;
      same_peer = λ j. get32-same s s' (get16 s 8 + 4 * j) (λ k h l. d.same_byte k (past-records n 0 k (omega arith)))
          ∙ ap (λ (x : ℕ). get32 s' (x + 4 * j)) (get16-same s s' 8 (λ k h l. gap 0 k (omega arith) (omega arith)));
    }
