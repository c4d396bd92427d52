-- The tally (document 01, "Demand 3's runs"): fed both starting stores, both runs' messages and the first run's replies.
-- Assumes nothing.
use Rattle.std.specs.Prelude.{List, [], ◌∷◌, ◌++◌, Bool, ◌&&◌, not, cond, ℕ, get_or, drop, eqb}
use Rattle.octets.specs.Bytes.{same}
use Rattle.store.specs.Store.{Entry}
use Rattle.store.specs.Request.{Request, add, delete, validity, entities}
use Rattle.message.specs.declared.Task.TheVariants.{Requests, DeleteAll, EndOfUpdate}
use Rattle.message.specs.declared.Kind.{Kind}
use Rattle.message.specs.declared.Kind.TheVariants.{Asks, SessionInit, Other}
use Rattle.message.specs.Header.{kind}
use Rattle.message.specs.Body.{requests}
use Rattle.runs.specs.Calls.{Call, starts, brings, searches, Seen, begun, received, searched}
use Rattle.runs.specs.Alike.{held_in}

-- a tag says unlike exactly where the two KMACs that it was made from differ
pub record Tag : Type 0 where
  pub issuer : ℕ
  pub serial : ℕ
  pub unlike : Bool

abbrev pub tag : Entry → Entry → Tag
tag e e' = record { issuer = e.issuer; serial = e.serial; unlike = not (same e.kmac e'.kmac) }

-- at first, one for each record, in store order
unfoldable pub tags : List Entry → List Entry → List Tag
tags [] es' = []
tags (e ∷ es) [] = []
tags (e ∷ es) (e' ∷ es') = tag e e' ∷ tags es es'

-- without the tag of this issuer and serial
unfoldable pub without : ℕ → ℕ → List Tag → List Tag
without i s [] = []
without i s (t ∷ ts) = cond (eqb t.issuer i && eqb t.serial s) ts (t ∷ without i s ts)

-- ---- a command answered with RESPONSE 0

-- an add request with RESULT 0 puts a tag at the end; e and e' are what the first and the second run's request bring
abbrev pub added : Entry → Request → List Tag → List Tag
added e (add recipient e') ts = ts ++ (tag e e' ∷ [])
added e (delete i s) ts = ts
added e (validity i s a b) ts = ts
added e (entities i s ps) ts = ts

-- a request of the first run, and of the second in the same place, with RESULT 0
unfoldable pub tagged : Request → Request → List Tag → List Tag
tagged (add recipient e) r' ts = added e r' ts
tagged (delete i s) r' ts = without i s ts
tagged (validity i s a b) r' ts = ts
tagged (entities i s ps) r' ts = ts

-- the requests in order, with the RESULTs of the first run's reply
unfoldable pub all_tagged : List Request → List Request → List ℕ → List Tag → List Tag
all_tagged [] rs' ns ts = ts
all_tagged (r ∷ rs) [] ns ts = ts
all_tagged (r ∷ rs) (r' ∷ rs') [] ts = ts
all_tagged (r ∷ rs) (r' ∷ rs') (n ∷ ns) ts = all_tagged rs rs' ns (cond (eqb n 0) (tagged r r' ts) ts)

-- RESPONSE and the RESULTs of a reply
abbrev pub response_of : List ℕ → ℕ
response_of reply = get_or reply 20 1

abbrev pub results_of : List ℕ → List ℕ
results_of reply = drop 23 reply

-- delete all takes out all; nothing else changes the tally
abbrev pub obeyed : Kind → List ℕ → List ℕ → List ℕ → List Tag → List Tag
obeyed (Asks (Requests k)) m m' reply ts = all_tagged (requests k m) (requests k m') (results_of reply) ts
obeyed (Asks DeleteAll) m m' reply ts = []
obeyed (Asks EndOfUpdate) m m' reply ts = ts
obeyed SessionInit m m' reply ts = ts
obeyed Other m m' reply ts = ts

-- ---- both runs

-- one message of each run, and the first run's reply to it; an empty reply changes nothing
abbrev pub tallied : (message message' reply : List ℕ) → List Tag → List Tag
tallied m m' reply ts = cond (eqb (response_of reply) 0) (obeyed (kind m) m m' reply ts) ts

unfoldable pub tally_from : List Tag → (messages messages' replies : List (List ℕ)) → List Tag
tally_from ts [] ms' rs = ts
tally_from ts (m ∷ ms) [] rs = ts
tally_from ts (m ∷ ms) (m' ∷ ms') [] = ts
tally_from ts (m ∷ ms) (m' ∷ ms') (r ∷ rs) = tally_from (tallied m m' r ts) ms ms' rs

-- fed both starting stores, both runs' messages and the first run's replies, and nothing else
abbrev pub tally : (store store' : List ℕ) → (messages messages' replies : List (List ℕ)) → List Tag
tally s s' ms ms' rs = tally_from (tags (held_in s) (held_in s')) ms ms' rs

-- ---- the message and the reply of a call; a call with none has an empty one at its place

abbrev pub message_in : Call → List ℕ
message_in (starts own peer start out) = []
message_in (brings m out) = m
message_in (searches peer t) = []

abbrev pub reply_in : Seen → List ℕ
reply_in (begun a out) = []
reply_in (received a reply out) = reply
reply_in (searched a n) = []
