-- The changes to the bytes of a store that the requests are made of.
-- Assumes nothing.
use Rattle.std.specs.Prelude.{◌≡◌, List, ◌++◌, ℕ, zero, suc, ◌+◌, ◌-◌, replicate}
use Rattle.octets.specs.Bytes.{get16, be16, part, splice}
use Rattle.store.specs.Store.{key_count, peer_count, first, count}
use Rattle.requests.specs.declared.Counts.{Counts}

-- what the counts of a store and of its record i are
pub record Counted (s : List ℕ) (i : ℕ) (c : Counts) : Type 0 where
  pub keys_are : c.keys ≡ key_count s
  pub peers_are : c.peers ≡ peer_count s
  pub first_is : c.first ≡ first s i
  pub count_is : c.count ≡ count s i

-- with these counts in the header
unfoldable pub with_counts : List ℕ → ℕ → ℕ → List ℕ
with_counts s n m = splice (splice s 2 (be16 n)) 6 (be16 m)

-- the n records that stand from index i on have their first peers counted anew, from p
unfoldable pub renumbered : List ℕ → ℕ → ℕ → ℕ → List ℕ
renumbered s i zero p = s
renumbered s i (suc n) p = renumbered (splice s (i + 40) (be16 p)) (i + 44) n (p + get16 s (i + 42))

-- the old bytes at index i are replaced by new ones, the tail behind them is moved, and what falls free is zero
unfoldable pub replaced : List ℕ → ℕ → ℕ → ℕ → ℕ → List ℕ → List ℕ
replaced s i old new tail v = splice s i (v ++ (part s (i + old) tail ++ replicate (old - new) 0))
