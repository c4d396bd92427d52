-- The store over a whole run: it stays sound, and no call finds it unsound (document 02, change request 9).
-- Assumes nothing.
use Rattle.std.specs.Prelude.{◌≡◌, List, [], ◌∷◌, Bool, true, false, ◌&&◌, not, get_or, eqb}
use Rattle.octets.specs.Bytes.{Bytes}
use Rattle.store.specs.declared.Limits.{Limits}
use Rattle.store.specs.Layout.{edition1, edition2}
use Rattle.store.specs.Store.{sound}
use Rattle.store.specs.Search.{found, unfound}
use Rattle.session.specs.Sessions.{begins, refuses}
use Rattle.session.specs.Rules.{reply, opened, ended, refused}
use Rattle.runs.specs.Calls.{Call, World, Seen, begun, received, searched, all_seen, final}
use Rattle.runs.specs.Alike.{AlikeCalls}

-- the answer says that the store is unsound: RESPONSE 6 in a reply of type 11, or the refusal H12
abbrev pub says_unsound : Seen → Bool
says_unsound (begun (begins e n) out) = false
says_unsound (begun (refuses n) out) = eqb n 12
says_unsound (received (reply n) bytes out) = eqb (get_or bytes 19 0) 11 && eqb (get_or bytes 20 0) 6
says_unsound (received opened bytes out) = false
says_unsound (received ended bytes out) = false
says_unsound (received (refused n) bytes out) = eqb n 12
says_unsound (searched (found place end) size) = false
says_unsound (searched (unfound n) size) = eqb n 12

unfoldable pub none_says_unsound : List Seen → Bool
none_says_unsound [] = true
none_says_unsound (o ∷ os) = not (says_unsound o) && none_says_unsound os

-- Any list of calls, with any session, from a store that is sound in this edition. `AlikeCalls cs cs` says that every message of the list is bytes.

-- the run ends with a store that is sound in it
abbrev pub StaysSound : Limits → Type 0
StaysSound L = (cs : List Call) (w : World) → Bytes w.store → sound L w.store ≡ true → AlikeCalls cs cs → sound L (final cs w).store ≡ true

pub record RunsKeepSound : Type 0 where
  pub in_edition_1 : StaysSound edition1
  pub in_edition_2 : StaysSound edition2

-- no call of the run is answered 6 or H12
abbrev pub NeverSaysUnsound : Limits → Type 0
NeverSaysUnsound L = (cs : List Call) (w : World) → Bytes w.store → sound L w.store ≡ true → AlikeCalls cs cs → none_says_unsound (all_seen cs w) ≡ true

pub record NeverSix : Type 0 where
  pub in_edition_1 : NeverSaysUnsound edition1
  pub in_edition_2 : NeverSaysUnsound edition2
