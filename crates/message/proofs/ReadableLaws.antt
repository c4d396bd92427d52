-- The requests of a list that passes the body test have fields that fit their widths.
-- Assumes nothing.
use mathlib.Core.Path.{◌≡◌}
use mathlib.Core.Bool.{true}
use mathlib.Core.List.{List}
use Prim.Native.Nat.{ℕ, zero, suc, ◌+◌, ◌≤◌}
use native.Mathlib.Omega.{arith}
use Rattle.std.proofs.lemmas.Grind.{common_steps}
use lib.ListN.{length}
use Rattle.octets.specs.Bytes.{Bytes}
use Rattle.octets.proofs.PartLaws.{part_length, bytes-part}
use Rattle.octets.proofs.WordLaws.{get32-fits, numbers_fit}
use Rattle.store.specs.WellFormed.{Readable, AllReadable}
use Rattle.message.specs.declared.Command.{Command}
use Rattle.message.specs.declared.Command.TheVariants.{Adds, Deletes, Validities, Entities}
use Rattle.message.specs.Body.{add_count, period_at, entities_count, kmac_at, size_at, fields_from, request_at, requests_from, request_number, requests_at, list_ok, requests, body_ok}
use Rattle.message.specs.Claims.{RequestsReadable}

module _ (k : Command) (m : List ℕ) where
  -- the first request ends within the message, and the others stand behind it
  pub fields_fit : (n at : ℕ) → fields_from k m at (suc n) ≡ true → at + size_at k m at ≤ length m
  unfolding fields_from
  fields_fit n at h = grind (arith, common_steps)

  pub fields-rest : (n at : ℕ) → fields_from k m at (suc n) ≡ true → fields_from k m (at + size_at k m at) n ≡ true
  unfolding fields_from
  fields-rest n at h = grind (arith, common_steps)

  pub list_ok-fields : list_ok k m ≡ true → fields_from k m requests_at (request_number m) ≡ true
  list_ok-fields h = grind (arith, common_steps)

pub readable-at : (k : Command) (m : List ℕ) → Bytes m → (at : ℕ) → at + size_at k m at ≤ length m → Readable (request_at k m at)
unfolding Readable request_at size_at
readable-at Adds m b at h =
    record {
      issuer_fits = get32-fits m b (at + 1);
      serial_fits = get32-fits m b (at + 5);
      start_fits = get32-fits m b (period_at m at);
      end_fits = get32-fits m b (period_at m at + 4);
      kmac_long = part_length m (kmac_at at) 24 (omega arith);
      kmac_bytes = bytes-part m b (kmac_at at) 24;
      peers_fit = record { fit = λ j l. numbers_fit m b (add_count m at) (at + 39) j };
    }
readable-at Deletes m b at h = tt
readable-at Validities m b at h = (get32-fits m b (at + 8), get32-fits m b (at + 12))
readable-at Entities m b at h = record { fit = λ j l. numbers_fit m b (entities_count m at) (at + 10) j }

readable-from : (k : Command) (m : List ℕ) → Bytes m → (n at : ℕ) → fields_from k m at n ≡ true → AllReadable (requests_from k m at n)
unfolding AllReadable requests_from
readable-from k m b zero at h = tt
readable-from k m b (suc n) at h = (readable-at k m b at (fields_fit k m n at h), readable-from k m b n (at + size_at k m at) (fields-rest k m n at h))

pub requests-readable : RequestsReadable
unfolding requests body_ok
requests-readable = record { readable = λ k m b h. readable-from k m b (request_number m) requests_at (list_ok-fields k m h) }
