-- What is claimed of the lent end beside the contracts. proofs/CodeLaws.antt has a proof of the claim.
-- Assumes nothing.
use Rattle.std.specs.Prelude.{◌≡◌, List, ℕ}
use Rattle.store.specs.Search.{unfound, find}
use Rattle.kmac.specs.Code.{end_after}

-- demand 1: a refused search leaves the end as it was
pub record RefusedFindLeavesEnd : Type 0 where
  pub as_it_was : (s : List ℕ) (peer t n before : ℕ) → find s peer t ≡ unfound n → end_after (find s peer t) before ≡ before
