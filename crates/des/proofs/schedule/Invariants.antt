-- `des::schedule` meets its contract. The loop's invariant: cd holds C and D after n iterations, and the keys of the first n iterations are made.
use mathlib.Core.Path.{◌≡◌}
use mathlib.Core.List.{List}
use Prim.Native.Nat.{ℕ, ◌<◌}
use lib.ListN.{length, get_or}
use Rattle.des.specs.Bits.{bits}
use Rattle.des.specs.Des.{shifted, subkey}
use Rattle.des.proofs.schedule.Given as goal

-- what the loop keeps
pub record Kept (key : ℕ) (keys : List ℕ) (cd n : ℕ) : Type 0 where
  pub sixteen : length keys ≡ 16
  pub halves : bits 56 cd ≡ shifted (bits 64 key) n
  pub made : (m : ℕ) → m < n → bits 48 (get_or keys m 0) ≡ subkey (bits 64 key) m

abbrev pub invariant-loop-n : goal.invariant-loop-n
invariant-loop-n l = Kept l.key l.keys l.cd l.n
