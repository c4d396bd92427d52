-- What a request function answers and leaves, and the entry that an addition brings.
-- Assumes nothing.
use Rattle.std.specs.Prelude.{◌≡◌, Result, Ok, Err, List, ℕ, ◌/◌, length}
use Rattle.octets.specs.Words.{numbers}
use Rattle.store.specs.Store.{Entry, encode, entries}
use Rattle.store.specs.Request.{Request, add, result, after}
use Rattle.store.specs.declared.Limits.{Limits}
use Rattle.requests.specs.declared.entry.PeerList.{PeerList}
use Rattle.requests.specs.declared.entry.Addition.{Addition}
use Rattle.requests.specs.declared.Failure.{Failure}
use Rattle.requests.specs.declared.Failure.TheVariants.{NotHeld, NoRoom, HeldAlready, Corrupted, NotRecipient, TooManyPeers}

-- the RESULT of request q on the store s is r, and the store afterwards is t
pub record Worked (L : Limits) (own : ℕ) (q : Request) (s t : List ℕ) (r : ℕ) : Type 0 where
  pub result_is : r ≡ result L own q (entries L s)
  pub store_is : t ≡ encode L (after L own q (entries L s))

-- the RESULT of a request that is not done, and of one that is done or not
abbrev pub failure_number : Failure → ℕ
failure_number NotHeld = 1
failure_number NoRoom = 2
failure_number HeldAlready = 3
failure_number Corrupted = 4
failure_number NotRecipient = 5
failure_number TooManyPeers = 255

abbrev pub result_number : Result Unit Failure → ℕ
result_number (Ok u) = 0
result_number (Err f) = failure_number f

-- the peers, four bytes for each
abbrev pub peer_numbers : PeerList → List ℕ
peer_numbers p = numbers p.bytes.now 0 (length p.bytes.now / 4)

-- the entry of a key
abbrev pub new_entry : Addition → Entry
new_entry new =
    record {
      issuer = new.id.issuer;
      serial = new.id.serial;
      kmac = new.kmac.now;
      start = new.period.start;
      end = new.period.end;
      peers = peer_numbers new.peers;
    }

abbrev pub addition : Addition → Request
addition new = add new.recipient (new_entry new)
