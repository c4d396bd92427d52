-- What the code's words hold.
-- Assumes nothing.
use Rattle.std.specs.Prelude.{◌≡◌, Bool, true, false, ◌&&◌, List, [], ◌∷◌, ℕ, zero, suc, ◌-◌, ◌*◌, ◌≤◌, ◌<◌, ◌^◌, leb, length, get_or}
use Rattle.std.specs.List.{list_all}
use Rattle.des.specs.Bits.{bits}
use Rattle.des.specs.Des.{subkey}

-- the number x has w bits at most, and they are bs
pub record Holds (w x : ℕ) (bs : List ℕ) : Type 0 where
  pub fits : x < 2 ^ w
  pub same : bits w x ≡ bs

-- the test p passes at each element
abbrev pub every : (ℕ → Bool) → List ℕ → Bool
every p xs = list_all p xs

-- the numbers from a on
abbrev pub up_from : ℕ → ℕ → List ℕ
up_from a zero = []
up_from a (suc n) = a ∷ up_from (suc a) n

-- each entry of a table is the number of a bit of a word of w bits
pub record Names (w : ℕ) (table : List ℕ) : Type 0 where
  pub wide : w ≤ 64
  pub entries : every (λ k. leb 1 k && leb k w) table ≡ true

-- such a table in eight rows of n entries, as the standard prints it
pub record Rows (w n : ℕ) (table : List ℕ) : Type 0 where
  pub names : Names w table
  pub eight : length table ≡ 8 * n
  pub some : 1 ≤ n
  pub most : n ≤ 8

-- ks are the keys of the sixteen iterations
pub record Keys (key : List ℕ) (ks : List ℕ) : Type 0 where
  pub each : (n : ℕ) → n < 16 → bits 48 (get_or ks n 0) ≡ subkey key n

-- the order of the keys: backward, or as it is
abbrev pub turned : Bool → ℕ → ℕ
turned true n = 15 - n
turned false n = n

-- the keys of the iterations, in the order in which they are used
abbrev pub keys_of : List ℕ → Bool → ℕ → List ℕ
keys_of keys back n = bits 48 (get_or keys (turned back n) 0)
