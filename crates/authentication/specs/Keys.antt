-- Session keys (SUBSET-037-2, 6.2.3.2.3.13 to .16).
-- Assumes nothing.
use Rattle.std.specs.Prelude.{◌≡◌, List, ◌++◌, map, ℕ, ◌+◌, ◌*◌, ◌/◌, ◌%◌, eqb, length, take, drop, Result, IfOk}
use Rattle.std.specs.Int.Count.{ones}
use Rattle.des.specs.Bits.{bits, bits_of_bytes, bytes_of_bits}
use Rattle.des.specs.Des.{encipher_bits, decipher_bits}
use Rattle.des.specs.Words.{Keys}
use Rattle.refusal.specs.House.{Answer, gives, answer_as, asks}
use Rattle.refusal.specs.declared.Refusal.{Refusal}
use Rattle.authentication.specs.Mac.{block}

-- ---- the formulas

-- the left and the right 32 bits of a random number (6.2.3.2.3.14)
unfoldable pub left : List ℕ → List ℕ
left r = take 32 (bits_of_bytes r)

unfoldable pub right : List ℕ → List ℕ
right r = drop 32 (bits_of_bytes r)

-- DES (K3, DES⁻¹ (K2, DES (K1, x)))
unfoldable pub triple : List ℕ → List ℕ → List ℕ → List ℕ → List ℕ
triple k1 k2 k3 x = encipher_bits k3 (decipher_bits k2 (encipher_bits k1 x))

-- KS1, KS2 and KS3 (6.2.3.2.3.15): the third has the keys in the reverse order, and the left halves again
unfoldable pub ks1 : List ℕ → List ℕ → List ℕ → List ℕ
ks1 kmac ra rb = triple (block kmac 0) (block kmac 1) (block kmac 2) (left ra ++ left rb)

unfoldable pub ks2 : List ℕ → List ℕ → List ℕ → List ℕ
ks2 kmac ra rb = triple (block kmac 0) (block kmac 1) (block kmac 2) (right ra ++ right rb)

unfoldable pub ks3 : List ℕ → List ℕ → List ℕ → List ℕ
ks3 kmac ra rb = triple (block kmac 2) (block kmac 1) (block kmac 0) (left ra ++ left rb)

-- a byte with its lowest bit such that the number of ones is odd (6.2.3.2.3.16)
unfoldable pub odd : ℕ → ℕ
odd b = b / 2 * 2 + (ones (b / 2) + 1) % 2

-- KS1 | KS2 | KS3, each byte with odd parity
unfoldable pub session_keys : List ℕ → List ℕ → List ℕ → List ℕ
session_keys kmac ra rb = map odd (bytes_of_bits 8 (ks1 kmac ra rb) ++ (bytes_of_bits 8 (ks2 kmac ra rb) ++ bytes_of_bits 8 (ks3 kmac ra rb)))

-- ---- the call

-- the answer in the paper's numbers: H13, or made
abbrev pub derived_as : {K : Type 0} → Result K Refusal → Answer
derived_as r = answer_as (λ made. 0) r

unfoldable pub derived : List ℕ → Answer
derived kmac = asks (eqb (length kmac) 24) 13 (gives 0)

pub record Derives (kmac ra rb : List ℕ) (r : Result (List ℕ) Refusal) : Type 0 where
  pub said : derived_as r ≡ derived kmac
  pub made : IfOk r (λ key. key ≡ session_keys kmac ra rb)

-- ---- inside

-- r is the block x after the three, for any keys whose sixteen keys are k1, k2 and k3
pub record Triples (k1 k2 k3 : List ℕ) (x r : ℕ) : Type 0 where
  pub by : (a b c : List ℕ) → Keys a k1 → Keys b k2 → Keys c k3 → bits 64 r ≡ triple a b c (bits 64 x)

-- the three words that the formulas make of x, the left halves, and y, the right halves
pub record Drawn (kmac : List ℕ) (x y one two three : ℕ) : Type 0 where
  pub first : bits 64 one ≡ triple (block kmac 0) (block kmac 1) (block kmac 2) (bits 64 x)
  pub second : bits 64 two ≡ triple (block kmac 0) (block kmac 1) (block kmac 2) (bits 64 y)
  pub third : bits 64 three ≡ triple (block kmac 2) (block kmac 1) (block kmac 0) (bits 64 x)
