-- What is claimed of DES beside the contracts. proofs/Theorems.antt has a proof of each claim.
-- Assumes nothing.
use Rattle.std.specs.Prelude.{◌≡◌, Bool, true, false, List, [], ◌∷◌, map, ℕ, suc, ◌-◌, ◌*◌, ◌/◌, ◌<◌, eqb, length, get_or, take, drop}
use Rattle.octets.specs.Bytes.{Bytes}
use Rattle.des.specs.Tables.{sboxes}
use Rattle.des.specs.Des.{des_encipher, des_decipher}

-- ---- the rows of the S-boxes

-- row i of the 32, four to a box
unfoldable pub box_row : ℕ → List ℕ
box_row i = take 16 (drop (16 * i) sboxes)

-- how often v stands in a list
unfoldable pub times : ℕ → List ℕ → ℕ
times v [] = 0
times v (x ∷ xs) = one (eqb x v) (times v xs)
  where
    one : Bool → ℕ → ℕ
    one true n = suc n
    one false n = n

-- sixteen numbers, and each number below 16 is one of them, once
pub record Permutation16 (xs : List ℕ) : Type 0 where
  pub sixteen : length xs ≡ 16
  pub once : (v : ℕ) → v < 16 → times v xs ≡ 1

pub record RowsArePermutations : Type 0 where
  pub row : (i : ℕ) → i < 32 → Permutation16 (box_row i)

-- ---- inverses

-- a block of eight bytes
pub record Block8 (b : List ℕ) : Type 0 where
  pub eight : length b ≡ 8
  pub bytes : Bytes b

pub record Inverses : Type 0 where
  pub decipher_encipher : (key block : List ℕ) → Block8 block → des_decipher key (des_encipher key block) ≡ block
  pub encipher_decipher : (key block : List ℕ) → Block8 block → des_encipher key (des_decipher key block) ≡ block

-- ---- parity

-- two keys of as many bytes, the same but for the lowest bit of each byte
pub record SameButParity (a b : List ℕ) : Type 0 where
  pub long : length a ≡ length b
  pub high : (i : ℕ) → get_or a i 0 / 2 ≡ get_or b i 0 / 2

pub record ParityFree : Type 0 where
  pub enciphers : (a b block : List ℕ) → SameButParity a b → des_encipher a block ≡ des_encipher b block
  pub deciphers : (a b block : List ℕ) → SameButParity a b → des_decipher a block ≡ des_decipher b block

-- ---- complements

-- every bit of every byte changed: 255 - b
unfoldable pub complement : List ℕ → List ℕ
complement bs = map (λ (b : ℕ). 255 - b) bs

-- with every bit of the key and every bit of the block changed, every bit of the result is changed
pub record Complements : Type 0 where
  pub enciphers : (key block : List ℕ) → Block8 key → Block8 block → des_encipher (complement key) (complement block) ≡ complement (des_encipher key block)
  pub deciphers : (key block : List ℕ) → Block8 key → Block8 block → des_decipher (complement key) (complement block) ≡ complement (des_decipher key block)
