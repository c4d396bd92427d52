-- The messages that are written (000, 5.3.13 and 5.3.15), and the session init that opens a session.
-- Assumes nothing.
use Rattle.std.specs.Prelude.{Bool, ◌&&◌, List, [], ◌∷◌, ◌++◌, ℕ, ◌+◌, ltb, eqb, length, get_or}
use Rattle.octets.specs.Bytes.{be16, be32, part}
use Rattle.octets.specs.Words.{elem}
use Rattle.message.specs.Header.{header_length}

-- interface version 2
abbrev pub header : ℕ → ℕ → ℕ → ℕ → ℕ → ℕ → List ℕ
header size to from number next type = be32 size ++ (2 ∷ be32 to ++ (be32 from ++ (be32 number ++ (be16 next ++ (type ∷ [])))))

-- NOTIF_SESSION_INIT: transaction number 0 (5.3.3), one version, 2, and the time-out that means defined by the peer (5.3.13)
abbrev pub init_bytes : ℕ → ℕ → ℕ → List ℕ
init_bytes own peer start = header 23 peer own 0 start 9 ++ (1 ∷ 2 ∷ 255 ∷ [])

-- NOTIF_RESPONSE, without and with its list of RESULTs
abbrev pub reply_head : ℕ → ℕ → ℕ → ℕ → ℕ → ℕ → List ℕ
reply_head own peer number next response n = header (23 + n) peer own number next 11 ++ (response ∷ be16 n)

abbrev pub reply_bytes : ℕ → ℕ → ℕ → ℕ → ℕ → List ℕ → List ℕ
reply_bytes own peer number next response results = reply_head own peer number next response (length results) ++ results

-- the body of a session init: exactly N-VERSION, that many versions with 2 among them, and a time-out of any value
unfoldable pub init_ok : List ℕ → Bool
init_ok m = ltb header_length (length m) && (eqb (length m) (22 + get_or m 20 0) && elem 2 (part m 21 (get_or m 20 0)))
