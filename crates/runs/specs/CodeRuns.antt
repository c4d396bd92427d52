-- Demand 3 of the code itself: two chained runs of calls that meet the contracts of the public functions. And what one such run does to the store.
-- Assumes nothing.
use Rattle.std.specs.Prelude.{◌≡◌, List, [], ◌∷◌, map, true, ℕ, length, Result}
use Rattle.octets.specs.Bytes.{Bytes}
use Rattle.refusal.specs.declared.Refusal.{Refusal}
use Rattle.store.specs.declared.Limits.{Limits}
use Rattle.store.specs.declared.Found.{Found}
use Rattle.store.specs.Layout.{edition1, edition2}
use Rattle.store.specs.Store.{sound}
use Rattle.store.specs.Search.{found_as, find, key}
use Rattle.session.specs.declared.Session.{Session}
use Rattle.session.specs.declared.Received.{Received}
use Rattle.session.specs.Sessions.{begun_as, Begins}
use Rattle.session.specs.Rules.{received_as, receive, Does}
use Rattle.runs.specs.Calls.{Call, starts, brings, searches, World, Seen, begun, received, searched, reply_of, session_of}
use Rattle.runs.specs.Alike.{AlikeCalls, AlikeStores, held_in}
use Rattle.runs.specs.Tally.{Tag, tally, message_in}
use Rattle.runs.specs.Secrecy.{Told, none_unlike}
use Rattle.runs.specs.Sound.{none_says_unsound}

-- what a call hands back: its answer and, of a begin or a message, the output buffer afterwards; of a search, the part
pub data Handed : Type 0 where
  by-begin : (answer : Result (Session × ℕ) Refusal) → (output : List ℕ) → Handed
  by-message : (answer : Result Received Refusal) → (output : List ℕ) → Handed
  by-search : (answer : Result Found Refusal) → (part : List ℕ) → Handed

-- ---- a run of the code

-- calls, the world before them, what each hands back, and the world after them. Each call meets its contract, on the session and the store that
-- the calls before it handed back
pub data CodeRun : List Call → World → List Handed → World → Type 0 where
  code-ends : {w : World} → CodeRun [] w [] w
  -- `Session::begin`
  code-begin : {cs : List Call} {hs : List Handed} {w v : World} {own peer start : ℕ} {out after : List ℕ} {r : Result (Session × ℕ) Refusal} → Begins own peer start out after r
      → CodeRun cs (record { session = session_of (begun_as r) w.session; store = w.store }) hs v → CodeRun (starts own peer start out ∷ cs) w (by-begin r after ∷ hs) v
  -- `Session::receive`
  code-message : {cs : List Call} {hs : List Handed} {w v : World} {m s out after : List ℕ} {e : Session} {r : Result Received Refusal} → Does (receive w.session m w.store out) r e s after
      → CodeRun cs (record { session = e; store = s }) hs v → CodeRun (brings m out ∷ cs) w (by-message r after ∷ hs) v
  -- `store::find` and `store::key`
  code-search : {cs : List Call} {hs : List Handed} {w v : World} {peer t : ℕ} {part : List ℕ} {r : Result Found Refusal} → found_as r ≡ find w.store peer t → part ≡ key w.store peer t
      → CodeRun cs w hs v → CodeRun (searches peer t ∷ cs) w (by-search r part ∷ hs) v

-- what is seen of what a call hands back
abbrev pub seen_by : Handed → Seen
seen_by (by-begin r out) = begun (begun_as r) out
seen_by (by-message r out) = received (received_as r) (reply_of (received_as r) out) out
seen_by (by-search r part) = searched (found_as r) (length part)

-- ---- what is alike of two

-- the same answers and output buffers; of the parts that searches hand back, the same lengths
pub data SameHanded : List Handed → List Handed → Type 0 where
  same_none : SameHanded [] []
  same-begin : {hs hs' : List Handed} → (r : Result (Session × ℕ) Refusal) → (out : List ℕ) → SameHanded hs hs' → SameHanded (by-begin r out ∷ hs) (by-begin r out ∷ hs')
  same-message : {hs hs' : List Handed} → (r : Result Received Refusal) → (out : List ℕ) → SameHanded hs hs' → SameHanded (by-message r out ∷ hs) (by-message r out ∷ hs')
  same-search : {hs hs' : List Handed} → (r : Result Found Refusal) → (part part' : List ℕ) → length part ≡ length part' → SameHanded hs hs'
      → SameHanded (by-search r part ∷ hs) (by-search r part' ∷ hs')

-- the reply stands at the front of the output buffer
abbrev pub reply_by : Handed → List ℕ
reply_by (by-begin r out) = []
reply_by (by-message r out) = reply_of (received_as r) out
reply_by (by-search r part) = []

-- the tally, fed the replies that the code gave
abbrev pub tally_by : List Call → List Call → World → World → List Handed → List Tag
tally_by cs cs' w w' hs = tally w.store w'.store (map message_in cs) (map message_in cs') (map reply_by hs)

-- what is alike of the runs that hand back hs and hs' and leave v and v'
pub record AlikeCode (cs cs' : List Call) (w w' : World) (hs hs' : List Handed) (v v' : World) : Type 0 where
  pub same_handed : SameHanded hs hs'
  pub same_replies : map reply_by hs ≡ map reply_by hs'
  pub same_session : v.session ≡ v'.session
  pub alike_stores : AlikeStores v.store v'.store
  pub told : Told (tally_by cs cs' w w' hs) (held_in v.store) (held_in v'.store)
  pub no_trace : none_unlike (tally_by cs cs' w w' hs) ≡ true → v.store ≡ v'.store

-- from equal sessions and alike stores, any two runs of the code with alike calls
pub record SecrecyOfCalls : Type 0 where
  pub runs : (cs cs' : List Call) (w w' v v' : World) (hs hs' : List Handed) → w.session ≡ w'.session → AlikeStores w.store w'.store → AlikeCalls cs cs'
      → CodeRun cs w hs v → CodeRun cs' w' hs' v' → AlikeCode cs cs' w w' hs hs' v v'

-- ---- the store of one

-- with any session, from a store that is sound in this edition: no call of a run of the code is answered 6 or H12, and the store that it leaves is sound in it
-- (document 02, change request 9)
abbrev pub CodeStaysSound : Limits → Type 0
CodeStaysSound L = (cs : List Call) (w v : World) (hs : List Handed) → Bytes w.store → sound L w.store ≡ true → AlikeCalls cs cs → CodeRun cs w hs v
    → (none_says_unsound (map seen_by hs) ≡ true) × (sound L v.store ≡ true)

pub record NeverSixOfCalls : Type 0 where
  pub in_edition_1 : CodeStaysSound edition1
  pub in_edition_2 : CodeStaysSound edition2
