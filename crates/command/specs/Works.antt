-- What the work of a command leaves in the store and in the output.
-- Assumes nothing.
use Rattle.std.specs.Prelude.{◌≡◌, List, ℕ}
use Rattle.octets.specs.Bytes.{splice}
use Rattle.store.specs.declared.Limits.{Limits}
use Rattle.store.specs.Store.{encode, entries}
use Rattle.store.specs.Request.{work}
use Rattle.requests.specs.declared.entry.Addition.{Addition}
use Rattle.requests.specs.Worked.{addition}
use Rattle.message.specs.declared.Command.{Command}
use Rattle.message.specs.declared.Command.TheVariants.{Adds}
use Rattle.message.specs.Body.{request_at, requests_from}

-- the n requests worked in order: the store s afterwards, and the RESULTs in the output from byte 23
pub record Works (L : Limits) (own : ℕ) (k : Command) (m : List ℕ) (n : ℕ) (s after out written : List ℕ) : Type 0 where
  pub store_is : after ≡ encode L (work L own (requests_from k m 22 n) (entries L s)).left
  pub output_is : written ≡ splice out 23 (work L own (requests_from k m 22 n) (entries L s)).results

-- the addition that stands in a message at index i
abbrev pub Reads : List ℕ → ℕ → Addition → Type 0
Reads m i new = addition new ≡ request_at Adds m i
