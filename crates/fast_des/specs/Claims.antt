-- What is claimed of the joined table beside the contracts. proofs/Theorems.antt has a proof.
-- Assumes nothing.
use Rattle.std.specs.Prelude.{◌≡◌, ℕ, ◌+◌, ◌*◌, ◌^◌, ◌<◌, length, get_or}
use Rattle.des.specs.Bits.{bits}
use Rattle.des.specs.Tables.{e, p}
use Rattle.des.specs.Des.{permute, select}
use Rattle.fast_des.specs.Networks.{middle}
use Rattle.fast_des.specs.Joined.{placed, joined}

-- an entry, the 48 bits of a number: the middle four of each six are its box's four bits moved by P, and the whole is that half expanded by E
pub record JoinedEntries : Type 0 where
  pub long : length joined ≡ 512
  pub moves : (k g : ℕ) → k < 8 → g < 64 → permute middle (bits 48 (get_or joined (64 * k + g) 0)) ≡ permute p (placed 32 k (select k (bits 6 g)))
  pub expands : (k g : ℕ) → k < 8 → g < 64 → bits 48 (get_or joined (64 * k + g) 0) ≡ permute e (permute p (placed 32 k (select k (bits 6 g))))
  pub fits : (k g : ℕ) → k < 8 → g < 64 → get_or joined (64 * k + g) 0 < 2 ^ 48
