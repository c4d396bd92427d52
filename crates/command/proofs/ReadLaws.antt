-- Requests read from a message: their sizes, and the fields of a K-STRUCT.
-- Assumes nothing.
use mathlib.Core.Path.{◌≡◌, refl, ap, sym, ◌∙◌}
use mathlib.Core.Bool.{true}
use mathlib.Core.List.{List}
use Prim.Native.Nat.{ℕ, zero, suc, ◌+◌, ◌*◌, ◌/◌, ◌≤◌, ◌<◌}
use native.Mathlib.Nat.{add-zero}
use native.Mathlib.Omega.{arith}
use lib.ListN.{length, get_or}
use Rattle.octets.specs.Bytes.{get32, part}
use Rattle.octets.specs.Words.{numbers}
use Rattle.octets.proofs.PartLaws.{part_length, part_at}
use Rattle.store.specs.Request.{add}
use Rattle.requests.specs.declared.entry.KeyId.{KeyId}
use Rattle.requests.specs.declared.entry.Period.{Period}
use Rattle.message.specs.declared.Command.{Command}
use Rattle.message.specs.declared.Command.TheVariants.{Adds}
use Rattle.std.specs.Prelude.{Some}
use Rattle.message.specs.Body.{sized, size_at, fields_ok, request_at, add_count}
use Rattle.message.proofs.BodyLaws.{size-right}

-- ---- the size of a request that stands

module _ (k : Command) (m : List ℕ) (i : ℕ) (f : fields_ok k m i ≡ true) (h : i + size_at k m i ≤ length m) where
  pub stands : sized k m i ≡ Some (size_at k m i)
  unfolding sized
  stands = size-right (fields_ok k m i) (size_at k m i) m i f h

  pub same_size : (size : ℕ) → sized k m i ≡ Some size → size ≡ size_at k m i
  same_size size e = let z : Some size ≡ Some (size_at k m i) = sym e ∙ stands in cc

-- ---- peers, read from a part of the message

numbers-part : (m : List ℕ) (i l k j : ℕ) → j + 4 * k ≤ l → numbers (part m i l) j k ≡ numbers m (i + j) k
unfolding numbers
numbers-part m i l zero j h = refl
numbers-part m i l (suc k) j h =
    let P : ℕ → ℕ → Type 0 = λ x y. get_or (part m i l) x 0 ≡ get_or m y 0 in
    let at : (x y : ℕ) → x < l → i + x ≡ y → P x y = λ x y b e. part_at m i l x b ∙ ap (λ (z : ℕ). get_or m z 0) e in
    let e0 : P j (i + j) = at j (i + j) (omega arith) refl in
    let e1 : P (j + 1) (i + j + 1) = at (j + 1) (i + j + 1) (omega arith) (omega arith) in
    let e2 : P (j + 2) (i + j + 2) = at (j + 2) (i + j + 2) (omega arith) (omega arith) in
    let e3 : P (j + 3) (i + j + 3) = at (j + 3) (i + j + 3) (omega arith) (omega arith) in
    let n : i + (j + 4) ≡ i + j + 4 = omega arith in
    let r : numbers (part m i l) (j + 4) k ≡ numbers m (i + j + 4) k = numbers-part m i l k (j + 4) (omega arith) ∙ ap (λ (x : ℕ). numbers m x k) n in
    rw (e0, e1, e2, e3, r)

pub peers_read : (m : List ℕ) (i n l : ℕ) → i + 4 * n ≤ length m → l ≡ 4 * n → numbers (part m i l) 0 (length (part m i l) / 4) ≡ numbers m i n
peers_read m i n l h e =
    let q : length (part m i l) / 4 ≡ n = omega (arith, part_length m i l (omega arith)) in
    ap (numbers (part m i l) 0) q ∙ numbers-part m i l n 0 (omega arith) ∙ ap (λ (x : ℕ). numbers m x n) (add-zero i)

-- ---- a K-STRUCT, field by field

pub addition-is : (m : List ℕ) (i : ℕ) (id : KeyId) (recipient : ℕ) (kmac peers : List ℕ) (period : Period) (count : ℕ)
    → id ≡ record { issuer = get32 m (i + 1); serial = get32 m (i + 1 + 4) } → recipient ≡ get32 m (i + 9) → kmac ≡ part m (i + 13) 24
    → peers ≡ numbers m (i + 37 + 2) (add_count m i) → count ≡ add_count m i → period ≡ record { start = get32 m (i + 39 + 4 * count); end = get32 m (i + 39 + 4 * count + 4) }
    → add recipient (record { issuer = id.issuer; serial = id.serial; kmac = kmac; start = period.start; end = period.end; peers = peers }) ≡ request_at Adds m i
unfolding request_at
addition-is m i id recipient kmac peers period count e1 e2 e3 e4 e5 e6 =
    let a : i + 1 + 4 ≡ i + 5 = omega arith in
    let b : i + 37 + 2 ≡ i + 39 = omega arith in
    rw (e6, e5, e1, e2, e3, e4, a, b)
