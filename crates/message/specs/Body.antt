-- The bodies of the commands (000, 5.3.4 to 5.3.8, 5.3.14): their requests, and the body test of document 01.
-- Assumes nothing.
use Rattle.std.specs.Prelude.{Bool, true, ◌&&◌, cond, Option, Some, None, List, [], ◌∷◌, ℕ, zero, suc, ◌+◌, ◌*◌, leb, eqb, length, get_or}
use Rattle.octets.specs.Bytes.{between, get16, get32, part}
use Rattle.octets.specs.Words.{numbers}
use Rattle.store.specs.Request.{Request, add, delete, validity, entities}
use Rattle.message.specs.Header.{header_length, type_number}
use Rattle.message.specs.declared.Command.{Command}
use Rattle.message.specs.declared.Command.TheVariants.{Adds, Deletes, Validities, Entities}
use Rattle.message.specs.declared.Task.{Task}
use Rattle.message.specs.declared.Task.TheVariants.{Requests, DeleteAll, EndOfUpdate}

-- ---- one request, which stands at index i

-- in a K-STRUCT (5.3.4.1): K-LENGTH, K-IDENTIFIER (issuer, serial), recipient, KMAC, PEER-NUM, peers, VALID-PERIOD
abbrev pub kmac_at : ℕ → ℕ
kmac_at i = i + 13

abbrev pub add_count : List ℕ → ℕ → ℕ
add_count m i = get16 m (i + 37)

abbrev pub period_at : List ℕ → ℕ → ℕ
period_at m i = i + 39 + 4 * add_count m i

-- in K-ENTITIES (5.3.8.1): K-IDENTIFIER, PEER-NUM, peers
abbrev pub entities_count : List ℕ → ℕ → ℕ
entities_count m i = get16 m (i + 8)

unfoldable pub size_at : Command → List ℕ → ℕ → ℕ
size_at Adds m i = 47 + 4 * add_count m i
size_at Deletes m i = 8
size_at Validities m i = 16
size_at Entities m i = 10 + 4 * entities_count m i

-- K-LENGTH is 24, and PEER-NUM in the range of 000 (5.3.4.1, 5.3.8.1)
unfoldable pub fields_ok : Command → List ℕ → ℕ → Bool
fields_ok Adds m i = eqb (get_or m i 0) 24 && between 1 1000 (add_count m i)
fields_ok Deletes m i = true
fields_ok Validities m i = true
fields_ok Entities m i = between 1 1000 (entities_count m i)

unfoldable pub request_at : Command → List ℕ → ℕ → Request
request_at Adds m i =
    add (get32 m (i + 9))
    (record {
      issuer = get32 m (i + 1);
      serial = get32 m (i + 5);
      kmac = part m (kmac_at i) 24;
      start = get32 m (period_at m i);
      end = get32 m (period_at m i + 4);
      peers = numbers m (i + 39) (add_count m i);
    })
request_at Deletes m i = delete (get32 m i) (get32 m (i + 4))
request_at Validities m i = validity (get32 m i) (get32 m (i + 4)) (get32 m (i + 8)) (get32 m (i + 12))
request_at Entities m i = entities (get32 m i) (get32 m (i + 4)) (numbers m (i + 10) (entities_count m i))

-- the size of the request, or that no whole request with right fields stands there
unfoldable pub size_if : Bool → ℕ → List ℕ → ℕ → Option ℕ
size_if ok size m i = cond (ok && leb (i + size) (length m)) (Some size) None

unfoldable pub sized : Command → List ℕ → ℕ → Option ℕ
sized k m i = size_if (fields_ok k m i) (size_at k m i) m i

-- ---- the list of requests

-- n requests stand from index i on, and then the message ends
unfoldable pub fields_from : Command → List ℕ → ℕ → ℕ → Bool
fields_from k m i zero = eqb i (length m)
fields_from k m i (suc n) = fields_ok k m i && (leb (i + size_at k m i) (length m) && fields_from k m (i + size_at k m i) n)

unfoldable pub requests_from : Command → List ℕ → ℕ → ℕ → List Request
requests_from k m i zero = []
requests_from k m i (suc n) = request_at k m i ∷ requests_from k m (i + size_at k m i) n

-- REQ-NUM, and where the requests begin
abbrev pub request_number : List ℕ → ℕ
request_number m = get16 m 20

abbrev pub requests_at : ℕ
requests_at = 22

-- the largest REQ-NUM (5.3.4, 5.3.5, 5.3.7, 5.3.8); the smallest is 1
abbrev pub most : Command → ℕ
most Adds = 100
most Deletes = 500
most Validities = 250
most Entities = 250

-- the requests of a command whose body passes the body test
unfoldable pub requests : Command → List ℕ → List Request
requests k m = requests_from k m requests_at (request_number m)

-- ---- the body test

-- REQ-NUM is in its range, and the body is exactly its fields
abbrev pub list_ok : Command → List ℕ → Bool
list_ok k m = between 1 (most k) (request_number m) && fields_from k m requests_at (request_number m)

unfoldable pub body_ok : Task → List ℕ → Bool
body_ok (Requests k) m = list_ok k m
body_ok DeleteAll m = eqb (length m) header_length
body_ok EndOfUpdate m = eqb (length m) header_length

-- a well-formed add command (document 01, "Demand 3's runs")
unfoldable pub well_formed_add : List ℕ → Bool
well_formed_add m = leb header_length (length m) && (eqb (type_number m) 0 && list_ok Adds m)
