-- Keys that differ in parity bits alone: the same MACs, units and session keys, and the same answers.
-- Assumes nothing.
use mathlib.Core.Path.{◌≡◌, refl, ap, ◌∙◌}
use mathlib.Core.Bool.{Bool, true, false}
use mathlib.Core.List.{List, [], ◌∷◌, map}
use Prim.Native.Nat.{ℕ, zero, suc, ◌+◌, ◌*◌, ◌/◌, ◌≤◌, ◌<◌}
use native.Mathlib.Omega.{arith}
use lib.Dec.{ltb}
use borrow.Author.Tests.{ltb-true, ltb-false}
use lib.ListN.{get_or, length-map}
use Rattle.octets.specs.Bytes.{part}
use Rattle.octets.proofs.PartLaws.{part-long, part_at, part-past}
use Rattle.des.specs.Bits.{xor_bits}
use Rattle.des.specs.Des.{encipher_bits, decipher_bits}
use Rattle.des.specs.Claims.{SameButParity}
use Rattle.des.proofs.ParityLaws.{same_encipher, same_decipher, same-used}
use Rattle.authentication.specs.Mac.{block, chain, finish, cbc_mac, mac}
use Rattle.authentication.specs.Keys.{triple, ks1, ks2, ks3, odd, session_keys, derived}
use Rattle.authentication.specs.Unit.{unit_of, built, checked}
use Rattle.authentication.proofs.KeyLaws.{odd-high}

-- ---- parts of such keys, and a key with its parity set

part-high : (a b : List ℕ) → SameButParity a b → (i n k : ℕ) → get_or (part a i n) k 0 / 2 ≡ get_or (part b i n) k 0 / 2
part-high a b e i n k = go (ltb k n) refl
  where
    go : (t : Bool) → ltb k n ≡ t → get_or (part a i n) k 0 / 2 ≡ get_or (part b i n) k 0 / 2
    go true p = let h : k < n = ltb-true k n p in rw (part_at a i n k h, part_at b i n k h) (e.high (i + k))
    go false p = let h : n ≤ k = ltb-false k n p in rw (part-past a i n k h, part-past b i n k h)

part-parity : (a b : List ℕ) → SameButParity a b → (i n : ℕ) → SameButParity (part a i n) (part b i n)
part-parity a b e i n = record { long = omega (arith, part-long a i n, part-long b i n, e.long); high = part-high a b e i n }

pub set-parity : (key : List ℕ) → SameButParity (map odd key) key
set-parity key = record { long = length-map key odd; high = high key }
  where
    high : (key : List ℕ) (i : ℕ) → get_or (map odd key) i 0 / 2 ≡ get_or key i 0 / 2
    high [] i = refl
    high (x ∷ key) zero = odd-high x
    high (x ∷ key) (suc i) = high key i

module _ (a b : List ℕ) (e : SameButParity a b) where
  -- ---- the MAC, and the session keys

  enciphers : (n : ℕ) (x : List ℕ) → encipher_bits (block a n) x ≡ encipher_bits (block b n) x
  unfolding block
  enciphers n x = same_encipher _ _ x (same-used _ _ (part-parity a b e (8 * n) 8))

  deciphers : (n : ℕ) (x : List ℕ) → decipher_bits (block a n) x ≡ decipher_bits (block b n) x
  unfolding block
  deciphers n x = same_decipher _ _ x (same-used _ _ (part-parity a b e (8 * n) 8))

  triples : (i j k : ℕ) (x : List ℕ) → triple (block a i) (block a j) (block a k) x ≡ triple (block b i) (block b j) (block b k) x
  unfolding triple
  triples i j k x = simp (enciphers, deciphers)

  chains : (s : List ℕ) (n : ℕ) → chain (block a 0) s n ≡ chain (block b 0) s n
  unfolding chain
  chains s zero = refl
  chains s (suc n) = enciphers 0 _ ∙ ap (λ (h : List ℕ). encipher_bits (block b 0) (xor_bits h (block s n))) (chains s n)

  pub same-mac : (destination m : List ℕ) → mac a destination m ≡ mac b destination m
  unfolding mac cbc_mac finish
  same-mac destination m = simp (enciphers, deciphers, chains)

  pub same_keys : (ra rb : List ℕ) → session_keys a ra rb ≡ session_keys b ra rb
  unfolding session_keys ks1 ks2 ks3
  same_keys ra rb = simp triples

  -- ---- what the calls answer

  pub same-unit : (destination : List ℕ) (direction : Bool) (user : List ℕ) → unit_of a destination direction user ≡ unit_of b destination direction user
  unfolding unit_of
  same-unit destination direction user = simp same-mac

  pub same-built : (user out : List ℕ) → built a user out ≡ built b user out
  unfolding built
  same-built user out = simp e.long

  pub same-checked : (unit destination : List ℕ) (direction : Bool) → checked unit a destination direction ≡ checked unit b destination direction
  unfolding checked
  same-checked unit destination direction = simp (e.long, same-mac)

  pub same-derived : derived a ≡ derived b
  unfolding derived
  same-derived = simp e.long
