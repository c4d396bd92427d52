-- `authentication::cbc::chain_halves` meets its contract. The loop's invariant: h holds H after k blocks, and b the block k.
use mathlib.Core.List.{List}
use Prim.Native.Nat.{ℕ}
use Rattle.fast_des.specs.declared.Halves.{Halves}
use Rattle.fast_des.specs.Inside.{Entered}
use Rattle.authentication.specs.Mac.{block, chain, mac_string}
use Rattle.authentication.proofs.cbc.chain_halves.Given as goal

-- what the loop keeps
pub record Kept (k1 s : List ℕ) (h b : Halves) (k : ℕ) : Type 0 where
  pub chained : Entered h (chain k1 s k)
  pub ready : Entered b (block s k)

abbrev pub invariant-loop-k : goal.invariant-loop-k
invariant-loop-k l = Kept (block l.key 0) (mac_string l.destination l.m) l.h l.b l.k
