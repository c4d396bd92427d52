-- Document 01's numbers to work by hand: those marked *, as one list, T = end and start = end as change request 4 of document 02 has them, with the moments
-- beside them, and what is taken where several keys fit (change request 7). Those of edition 2 (change request 5). And those of repeated transaction numbers (change
-- request 3).
-- Assumes nothing.
use Rattle.std.specs.Prelude.{List, [], ◌∷◌, ◌++◌, reverse, Bool, true, false, ◌&&◌, ℕ, ◌+◌, length, replicate, drop}
use Rattle.octets.specs.Bytes.{be16, be32, same}
use Rattle.octets.specs.Words.{words}
use Rattle.store.specs.declared.Limits.{Limits}
use Rattle.store.specs.Layout.{edition1, edition2}
use Rattle.store.specs.Store.{Entry, encode, header as storeHeader}
use Rattle.store.specs.Search.{Finding, found, unfound, find}
use Rattle.message.specs.Written.{header}
use Rattle.session.specs.declared.Session.{Session}
use Rattle.session.specs.Sessions.{remembering}
use Rattle.session.specs.Rules.{Outcome, receive}
use Rattle.runs.specs.Calls.{reply_of}

-- ---- what is sent

-- an open session of 1 with 2 that expects number n
abbrev pub expecting : ℕ → Session
expecting n = record { state = 2; own = 1; peer = 2; next = 7; expected = n; remembered = false; transaction = 0 }

-- a message with the transaction number t and the sequence number n
abbrev pub numbered : ℕ → ℕ → ℕ → List ℕ → List ℕ
numbered t n type body = header (20 + length body) 1 2 t n type ++ body

abbrev pub deletes_all : ℕ → ℕ → List ℕ
deletes_all t n = numbered t n 2 []

abbrev pub from2to1 : ℕ → ℕ → List ℕ → List ℕ
from2to1 n type body = numbered 9 n type body

abbrev pub k_struct : ℕ → ℕ → ℕ → List ℕ → List ℕ → List ℕ
k_struct issuer serial recipient kmac peers =
    24 ∷ be32 issuer ++ (be32 serial ++ (be32 recipient ++ (kmac ++ (be16 (length peers) ++ (words peers ++ (be32 10 ++ be32 20))))))

-- a KMAC of odd parity, and one whose first byte is 00
abbrev pub key : List ℕ
key = replicate 24 1

abbrev pub key0 : List ℕ
key0 = 0 ∷ replicate 23 1

abbrev pub holding : ℕ → ℕ → ℕ → List ℕ → Entry
holding serial a b peers = record { issuer = 3; serial = serial; kmac = key; start = a; end = b; peers = peers }

-- keys for peer 8, and the third for 7
abbrev pub several : List Entry
several =
    holding 1 1 8 (8 ∷ [])
    ∷ holding 2 1 9 (8 ∷ [])
    ∷ holding 3 1 20 (7 ∷ [])
    ∷ holding 4 2 9 (8 ∷ [])
    ∷ holding 5 9 30 (8 ∷ [])
    ∷ holding 6 0 0 (8 ∷ [])
    ∷ []

-- ---- what comes back

abbrev pub outcome : List ℕ → ℕ → List ℕ → Outcome
outcome s n m = receive (expecting n) m s (replicate 1032 0)

-- RESPONSE, REQ-NUM and RESULTs
abbrev pub says_on : List ℕ → ℕ → List ℕ → List ℕ
says_on s n m = drop 20 (reply_of (outcome s n m).answer (outcome s n m).output)

abbrev pub says : List Entry → ℕ → List ℕ → List ℕ
says es n m = says_on (encode edition1 es) n m

abbrev pub expects : List Entry → ℕ → List ℕ → List ℕ
expects es n m = (outcome (encode edition1 es) n m).session.expected ∷ []

-- the place and the end, or 0 and the refusal's number
abbrev pub numbers_of : Finding → List ℕ
numbers_of (found place end) = place ∷ end ∷ []
numbers_of (unfound n) = 0 ∷ n ∷ []

abbrev pub finds_on : List ℕ → ℕ → ℕ → List ℕ
finds_on s peer t = numbers_of (find s peer t)

abbrev pub finds : List Entry → ℕ → ℕ → List ℕ
finds es peer t = finds_on (encode edition1 es) peer t

-- ---- the list

-- what is computed, and what the paper says
pub data Example : Type 0 where
  ◌is◌ : List ℕ → List ℕ → Example

infix 10 ◌is◌
unfoldable pub hold : List Example → Bool
hold [] = true
hold (◌is◌ a b ∷ xs) = same a b && hold xs

unfoldable pub starred : List Example
starred =
    -- empty store, delete: 1
    (says [] 5 (from2to1 5 1 (be16 1 ++ (be32 3 ++ be32 4))) is (0 ∷ 0 ∷ 1 ∷ 1 ∷ []))
    -- one key twice in a message: 0 then 3
    ∷ (says [] 5 (from2to1 5 0 (be16 2 ++ (k_struct 3 4 1 key (8 ∷ []) ++ k_struct 3 4 1 key (8 ∷ [])))) is (0 ∷ 0 ∷ 2 ∷ 0 ∷ 3 ∷ []))
    -- 253 peers used: add with 4 gives 255, with 3 gives 0
    ∷ (says (holding 4 1 2 (replicate 253 8) ∷ []) 5 (from2to1 5 0 (be16 1 ++ k_struct 3 5 1 key (replicate 4 8))) is (0 ∷ 0 ∷ 1 ∷ 255 ∷ []))
    ∷ (says (holding 4 1 2 (replicate 253 8) ∷ []) 5 (from2to1 5 0 (be16 1 ++ k_struct 3 5 1 key (replicate 3 8))) is (0 ∷ 0 ∷ 1 ∷ 0 ∷ []))
    -- 256 used: replacing 10 by 10 gives 0, by 11 gives 255
    ∷ (says (holding 4 1 2 (replicate 246 8) ∷ holding 5 1 2 (replicate 10 8) ∷ []) 5 (from2to1 5 4 (be16 1 ++ (be32 3 ++ (be32 5 ++ (be16 10 ++ words (replicate 10 9))))))
    is (0 ∷ 0 ∷ 1 ∷ 0 ∷ []))
    ∷ (says (holding 4 1 2 (replicate 246 8) ∷ holding 5 1 2 (replicate 10 8) ∷ []) 5 (from2to1 5 4 (be16 1 ++ (be32 3 ++ (be32 5 ++ (be16 11 ++ words (replicate 11 9))))))
    is (0 ∷ 0 ∷ 1 ∷ 255 ∷ []))
    -- KMAC byte 00: 4; wrong recipient and byte 00: 5
    ∷ (says [] 5 (from2to1 5 0 (be16 1 ++ k_struct 3 4 1 key0 (8 ∷ []))) is (0 ∷ 0 ∷ 1 ∷ 4 ∷ []))
    ∷ (says [] 5 (from2to1 5 0 (be16 1 ++ k_struct 3 4 2 key0 (8 ∷ []))) is (0 ∷ 0 ∷ 1 ∷ 5 ∷ []))
    -- T = start fits; by change request 4 T = end fits too, and start = end fits at that one moment
    ∷ (finds (holding 4 10 20 (8 ∷ []) ∷ []) 8 9 is (0 ∷ 11 ∷ []))
    ∷ (finds (holding 4 10 20 (8 ∷ []) ∷ []) 8 10 is (1 ∷ 20 ∷ []))
    ∷ (finds (holding 4 10 20 (8 ∷ []) ∷ []) 8 20 is (1 ∷ 20 ∷ []))
    ∷ (finds (holding 4 10 20 (8 ∷ []) ∷ []) 8 21 is (0 ∷ 11 ∷ []))
    ∷ (finds (holding 4 10 10 (8 ∷ []) ∷ []) 8 9 is (0 ∷ 11 ∷ []))
    ∷ (finds (holding 4 10 10 (8 ∷ []) ∷ []) 8 10 is (1 ∷ 10 ∷ []))
    ∷ (finds (holding 4 10 10 (8 ∷ []) ∷ []) 8 11 is (0 ∷ 11 ∷ []))
    -- and T = FFFFFFFF fits where the end is FFFFFFFF
    ∷ (finds (holding 4 10 4294967295 (8 ∷ []) ∷ []) 8 4294967295 is (1 ∷ 4294967295 ∷ []))
    -- change request 7: of those that fit the latest end, the first of two with it; one that does not fit, or is for another peer, does not count; an end of 0
    ∷ (finds several 8 5 is (2 ∷ 9 ∷ []))
    ∷ (finds several 8 9 is (5 ∷ 30 ∷ []))
    ∷ (finds several 7 5 is (3 ∷ 20 ∷ []))
    ∷ (finds several 8 0 is (6 ∷ 0 ∷ []))
    -- in another order the same end, at another place
    ∷ (finds (reverse several) 8 5 is (3 ∷ 9 ∷ []))
    -- expected 65,535, received 65,535: next expected is 0
    ∷ (expects [] 65535 (from2to1 65535 1 (be16 1 ++ (be32 3 ++ be32 4))) is (0 ∷ []))
    -- length and receiver both wrong: 2
    ∷ (says [] 5 (header 21 9 2 9 5 2) is (2 ∷ 0 ∷ 0 ∷ []))
    ∷ []

-- ---- edition 2

abbrev pub adds : List ℕ → List ℕ
adds peers = from2to1 5 0 (be16 1 ++ k_struct 3 6 1 key peers)

abbrev pub replaces : List ℕ → List ℕ
replaces peers = from2to1 5 4 (be16 1 ++ (be32 3 ++ (be32 5 ++ (be16 (length peers) ++ words peers))))

-- an empty store of an edition under the header of another
abbrev pub headed : Limits → Limits → List ℕ
headed L M = storeHeader L 0 0 ++ drop 12 (encode M [])

unfoldable pub larger : List Example
larger =
    -- 3,997 peers used: add with 4 gives 255, with 3 gives 0
    (says_on (encode edition2 (holding 4 1 2 (replicate 3997 8) ∷ [])) 5 (adds (replicate 4 8)) is (0 ∷ 0 ∷ 1 ∷ 255 ∷ []))
    ∷ (says_on (encode edition2 (holding 4 1 2 (replicate 3997 8) ∷ [])) 5 (adds (replicate 3 8)) is (0 ∷ 0 ∷ 1 ∷ 0 ∷ []))
    -- 4,000 used: replacing 10 by 10 gives 0, by 11 gives 255
    ∷ (says_on (encode edition2 (holding 4 1 2 (replicate 3990 8) ∷ holding 5 1 2 (replicate 10 8) ∷ [])) 5 (replaces (replicate 10 9)) is (0 ∷ 0 ∷ 1 ∷ 0 ∷ []))
    ∷ (says_on (encode edition2 (holding 4 1 2 (replicate 3990 8) ∷ holding 5 1 2 (replicate 10 8) ∷ [])) 5 (replaces (replicate 11 9)) is (0 ∷ 0 ∷ 1 ∷ 255 ∷ []))
    -- a search
    ∷ (finds_on (encode edition2 several) 8 5 is (2 ∷ 9 ∷ []))
    -- the header of edition 1 in 38,012 bytes, and of edition 2 in 3,852: 6 and H12
    ∷ (says_on (headed edition1 edition2) 5 (adds (8 ∷ [])) is (6 ∷ 0 ∷ 0 ∷ []))
    ∷ (says_on (headed edition2 edition1) 5 (adds (8 ∷ [])) is (6 ∷ 0 ∷ 0 ∷ []))
    ∷ (finds_on (headed edition1 edition2) 8 1 is (0 ∷ 12 ∷ []))
    ∷ (finds_on (headed edition2 edition1) 8 1 is (0 ∷ 12 ∷ []))
    -- delete all there: the empty store of the edition whose length the buffer has
    ∷ ((outcome (headed edition1 edition2) 5 (deletes_all 9 5)).store is encode edition2 [])
    ∷ ((outcome (headed edition2 edition1) 5 (deletes_all 9 5)).store is encode edition1 [])
    -- a byte less, and a byte more: H1
    ∷ (finds_on (drop 1 (encode edition1 [])) 8 1 is (0 ∷ 1 ∷ []))
    ∷ (finds_on (0 ∷ encode edition1 []) 8 1 is (0 ∷ 1 ∷ []))
    ∷ (finds_on (drop 1 (encode edition2 [])) 8 1 is (0 ∷ 1 ∷ []))
    ∷ (finds_on (0 ∷ encode edition2 []) 8 1 is (0 ∷ 1 ∷ []))
    ∷ []

-- ---- transaction numbers

-- a waiting session that remembers 0
abbrev pub waiting : Session
waiting = record { state = 1; own = 1; peer = 2; next = 7; expected = 0; remembered = true; transaction = 0 }

-- a session init, a delete of one key, a message of an unknown type, end of update
abbrev pub opens_with : ℕ → ℕ → List ℕ
opens_with t n = numbered t n 9 (1 ∷ 2 ∷ 255 ∷ [])

abbrev pub deletes : ℕ → ℕ → ℕ → List ℕ
deletes t n serial = numbered t n 1 (be16 1 ++ (be32 3 ++ be32 serial))

abbrev pub unknown_type : ℕ → ℕ → List ℕ
unknown_type t n = numbered t n 200 []

abbrev pub ends_update : ℕ → ℕ → List ℕ
ends_update t n = numbered t n 10 []

abbrev pub brought : Session → List ℕ → Outcome
brought e m = receive e m (encode edition1 (holding 4 1 2 (8 ∷ []) ∷ holding 5 1 2 (8 ∷ []) ∷ [])) (replicate 1032 0)

-- a second message, over what the first left
abbrev pub second : Outcome → List ℕ → Outcome
second o m = receive o.session m o.store o.output

abbrev pub remembered_as : Bool → ℕ → List ℕ
remembered_as true n = 1 ∷ n ∷ []
remembered_as false n = 0 ∷ n ∷ []

-- RESPONSE, REQ-NUM and RESULTs, the state, and what is remembered
abbrev pub left : Outcome → List ℕ
left o = drop 20 (reply_of o.answer o.output) ++ (o.session.state ∷ remembered_as o.session.remembered o.session.transaction)

unfoldable pub transactions : List Example
transactions =
    -- two deletes with one number: 0, then 10 and closed
    (left (brought (expecting 5) (deletes 9 5 4)) is (0 ∷ 0 ∷ 1 ∷ 0 ∷ 2 ∷ 1 ∷ 9 ∷ []))
    ∷ (left (second (brought (expecting 5) (deletes 9 5 4)) (deletes 9 6 5)) is (10 ∷ 0 ∷ 0 ∷ 0 ∷ 1 ∷ 9 ∷ []))
    -- with two numbers: 0 and 0
    ∷ (left (second (brought (expecting 5) (deletes 9 5 4)) (deletes 8 6 5)) is (0 ∷ 0 ∷ 1 ∷ 0 ∷ 2 ∷ 1 ∷ 8 ∷ []))
    -- the number 0 in the first message after opening: worked, and remembered as any other
    ∷ (left (brought waiting (opens_with 0 4)) is (2 ∷ 0 ∷ 0 ∷ []))
    ∷ (left (second (brought waiting (opens_with 0 4)) (deletes_all 0 5)) is (0 ∷ 0 ∷ 0 ∷ 2 ∷ 1 ∷ 0 ∷ []))
    ∷ (left (brought (remembering (expecting 5) 0) (deletes_all 0 5)) is (10 ∷ 0 ∷ 0 ∷ 0 ∷ 1 ∷ 0 ∷ []))
    -- a session that remembers 9: another number is worked, and end of update with 9 is answered 10
    ∷ (left (brought (remembering (expecting 5) 9) (deletes_all 10 5)) is (0 ∷ 0 ∷ 0 ∷ 2 ∷ 1 ∷ 10 ∷ []))
    ∷ (left (brought (remembering (expecting 5) 9) (ends_update 9 5)) is (10 ∷ 0 ∷ 0 ∷ 0 ∷ 1 ∷ 9 ∷ []))
    ∷ (left (brought (remembering (expecting 5) 9) (ends_update 10 5)) is (0 ∷ 1 ∷ 10 ∷ []))
    -- after RESPONSE 1 the number is remembered, and after 9, which is tested first, it is not
    ∷ (left (second (brought (expecting 5) (unknown_type 9 5)) (unknown_type 9 6)) is (10 ∷ 0 ∷ 0 ∷ 0 ∷ 1 ∷ 9 ∷ []))
    ∷ (left (brought (remembering (expecting 5) 9) (unknown_type 10 6)) is (9 ∷ 0 ∷ 0 ∷ 0 ∷ 1 ∷ 9 ∷ []))
    ∷ (left (brought (remembering (expecting 5) 9) (unknown_type 9 6)) is (9 ∷ 0 ∷ 0 ∷ 0 ∷ 1 ∷ 9 ∷ []))
    ∷ []
