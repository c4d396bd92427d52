-- The encoding of entries that fit is a list of bytes.
-- Assumes nothing.
use mathlib.Core.List.{List, [], ◌∷◌, ◌++◌}
use Prim.Native.Nat.{ℕ, zero, suc, ◌+◌, ◌*◌, ◌-◌, ◌<◌}
use native.Mathlib.Omega.{arith}
use lib.ListN.{length, get_or, replicate}
use Rattle.octets.specs.Bytes.{Bytes, be16, be32}
use Rattle.octets.specs.Words.{words}
use Rattle.store.specs.declared.Limits.{Limits}
use Rattle.store.specs.Layout.{peers_at, total}
use Rattle.store.specs.Store.{Entry, peers_of, header, key_record, key_records, encode}
use Rattle.store.specs.WellFormed.{Fitting, nobody, WellFormed}

-- a record, so that the list can be found from it
record AreBytes (s : List ℕ) : Type 0 where
  at : Bytes s

bytes-append : (a b : List ℕ) → Bytes a → Bytes b → Bytes (a ++ b)
bytes-append [] b h k i = k i
bytes-append (x ∷ a) b h k zero = h 0
bytes-append (x ∷ a) b h k (suc i) = bytes-append a b (λ j. h (suc j)) k i

then : (a : List ℕ) {b : List ℕ} → AreBytes a → AreBytes b → AreBytes (a ++ b)
then a {b} h k = record { at = bytes-append a b h.at k.at }

no_bytes : Bytes []
no_bytes i = omega arith

be16-at : (v : ℕ) → Bytes (be16 v)
be16-at v zero = omega arith
be16-at v (suc zero) = omega arith
be16-at v (suc (suc i)) = omega arith

be32-at : (v : ℕ) → Bytes (be32 v)
be32-at v zero = omega arith
be32-at v (suc zero) = omega arith
be32-at v (suc (suc zero)) = omega arith
be32-at v (suc (suc (suc zero))) = omega arith
be32-at v (suc (suc (suc (suc i)))) = omega arith

zeros-at : (n : ℕ) → Bytes (replicate n 0)
zeros-at zero i = omega arith
zeros-at (suc n) zero = omega arith
zeros-at (suc n) (suc i) = zeros-at n i

be16-then : (v : ℕ) {b : List ℕ} → AreBytes b → AreBytes (be16 v ++ b)
be16-then v k = then (be16 v) (record { at = be16-at v }) k

be32-then : (v : ℕ) {b : List ℕ} → AreBytes b → AreBytes (be32 v ++ b)
be32-then v k = then (be32 v) (record { at = be32-at v }) k

words-bytes : (xs : List ℕ) → AreBytes (words xs)
unfolding words
words-bytes [] = record { at = no_bytes }
words-bytes (x ∷ xs) = be32-then x (words-bytes xs)

header-bytes : (L : Limits) (n m : ℕ) → AreBytes (header L n m)
unfolding header
header-bytes L n m = be16-then L.edition (be16-then n (be16-then 12 (be16-then m (be16-then (peers_at L) (record { at = be16-at (total L) })))))

key_record-bytes : (p : ℕ) (e : Entry) → Bytes e.kmac → AreBytes (key_record p e)
unfolding key_record
key_record-bytes p e h =
    be32-then e.issuer
    (be32-then e.serial
    (then e.kmac (record { at = h }) (be32-then e.start (be32-then e.end (be16-then p (record { at = be16-at (length e.peers) }))))))

key_records-bytes : (p : ℕ) (es : List Entry) → ((j : ℕ) → j < length es → Fitting (get_or es j nobody)) → AreBytes (key_records p es)
unfolding key_records
key_records-bytes p [] h = record { at = no_bytes }
key_records-bytes p (e ∷ es) h =
    then (key_record p e) (key_record-bytes p e (h 0 (omega arith)).kmac_bytes) (key_records-bytes (p + length e.peers) es (λ j l. h (suc j) (omega arith)))

pub encode-bytes : (L : Limits) (es : List Entry) → WellFormed L es → Bytes (encode L es)
unfolding encode
encode-bytes L es g =
    let ps : List ℕ = peers_of es in
    (then (header L (length es) (length ps)) (header-bytes L (length es) (length ps))
    (then (key_records 0 es) (key_records-bytes 0 es g.fitting)
    (then (replicate (44 * (L.keys - length es)) 0) (record { at = zeros-at (44 * (L.keys - length es)) })
    (then (words ps) (words-bytes ps) (record { at = zeros-at (4 * (L.peers - length ps)) }))))).at
