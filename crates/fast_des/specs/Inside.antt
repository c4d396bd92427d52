-- A block inside DES, between IP and its inverse: two words, each the expansion E of a half. The inverse of IP of one block and the IP of the next cancel.
-- Assumes nothing.
use Rattle.std.specs.Prelude.{◌≡◌, Bool, List, ℕ, ◌<◌, length, take, drop, get_or}
use Rattle.des.specs.Bits.{bits, xor_bits}
use Rattle.des.specs.Tables.{e, ip}
use Rattle.des.specs.Des.{permute, round, rounds, cipher, encipher_bits, decipher_bits}
use Rattle.des.specs.Words.{Keys, keys_of}
use Rattle.fast_des.specs.declared.Halves.{Halves}

-- the words hold the halves of lr, expanded
pub record Sides (h : Halves) (lr : List ℕ) : Type 0 where
  pub long : length lr ≡ 64
  pub lefts : bits 48 h.left ≡ permute e (take 32 lr)
  pub rights : bits 48 h.right ≡ permute e (drop 32 lr)

-- the words hold the block bs, after IP
pub record Entered (h : Halves) (bs : List ℕ) : Type 0 where
  pub long : length bs ≡ 64
  pub sides : Sides h (permute ip bs)

-- ---- what the functions make of any block that h holds

-- x is the block
pub record Leaves (h : Halves) (x : ℕ) : Type 0 where
  pub by : (bs : List ℕ) → Entered h bs → bits 64 x ≡ bs

-- r holds the sum of two blocks
pub record Adds (a b r : Halves) : Type 0 where
  pub by : (xs ys : List ℕ) → Entered a xs → Entered b ys → Entered r (xor_bits xs ys)

-- r holds the halves after the iteration with the key k
pub record Rounds (h : Halves) (k : ℕ) (r : Halves) : Type 0 where
  pub by : (lr : List ℕ) → Sides h lr → Sides r (round (bits 48 k) lr)

-- r holds the halves after n iterations
pub record Iterates (h : Halves) (keys : List ℕ) (back : Bool) (n : ℕ) (r : Halves) : Type 0 where
  pub by : (lr : List ℕ) → Sides h lr → Sides r (rounds (keys_of keys back) n lr)

-- r holds what the cipher makes of the block
pub record Passes (h : Halves) (keys : List ℕ) (back : Bool) (r : Halves) : Type 0 where
  pub by : (bs : List ℕ) → Entered h bs → Entered r (cipher (keys_of keys back) bs)

-- r holds the block enciphered, or deciphered, with any key whose sixteen keys are ks
pub record EnciphersInside (h : Halves) (ks : List ℕ) (r : Halves) : Type 0 where
  pub by : (key bs : List ℕ) → Keys key ks → Entered h bs → Entered r (encipher_bits key bs)

pub record DeciphersInside (h : Halves) (ks : List ℕ) (r : Halves) : Type 0 where
  pub by : (key bs : List ℕ) → Keys key ks → Entered h bs → Entered r (decipher_bits key bs)

-- blocks side by side: R holds of each of hs and what it became
pub record Each (R : Halves → Halves → Type 0) (hs rs : List Halves) : Type 0 where
  pub long : length rs ≡ length hs
  pub by : (i : ℕ) (h : Halves) → i < length hs → R (get_or hs i h) (get_or rs i h)
