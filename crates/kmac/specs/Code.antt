-- What C is given beside the answer of a call.
-- Assumes nothing.
use Rattle.std.specs.Prelude.{ℕ}
use Rattle.store.specs.Search.{Finding, found, unfound}

-- the version of the C interface; it is not the interface version of 000
abbrev pub version : ℕ
version = 6

-- what a search leaves where the end is written: the end where there is one; a refusal leaves what stood there
abbrev pub end_after : Finding → ℕ → ℕ
end_after (found place end) old = end
end_after (unfound n) old = old
