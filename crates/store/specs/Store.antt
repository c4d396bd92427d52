-- The key store of document 01: its bytes as a function of its entries (`encode`), its entries as a function of its bytes (`entries`), and
-- the test of soundness, condition by condition in the paper's order (`sound`).
-- Assumes nothing.
use Rattle.std.specs.Prelude.{Bool, true, ◌&&◌, not, List, [], ◌∷◌, ◌++◌, ℕ, zero, suc, ◌+◌, ◌*◌, ◌-◌, ◌%◌, ◌≤◌, ◌<◌, length, get_or, replicate, leb, eqb}
use Rattle.std.specs.Int.Count.{ones}
use Rattle.octets.specs.Bytes.{get16, get32, be16, be32, part, all_below, all_zero}
use Rattle.octets.specs.Words.{numbers, words}
use Rattle.store.specs.Layout.{record_at, peers_at, total}
use Rattle.store.specs.declared.Limits.{Limits}

-- ---- entries

pub record Entry : Type 0 where
  pub issuer : ℕ
  pub serial : ℕ
  pub kmac : List ℕ
  pub start : ℕ
  pub end : ℕ
  pub peers : List ℕ

-- all peers, in the records' order
unfoldable pub peers_of : List Entry → List ℕ
peers_of [] = []
peers_of (e ∷ es) = e.peers ++ peers_of es

-- ---- the bytes of a list of entries

-- edition, key count, offset of keys, peer count, offset of peers, total length
unfoldable pub header : Limits → ℕ → ℕ → List ℕ
header L n m = be16 L.edition ++ (be16 n ++ (be16 12 ++ (be16 m ++ (be16 (peers_at L) ++ be16 (total L)))))

-- the record of an entry whose first peer has the index p
unfoldable pub key_record : ℕ → Entry → List ℕ
key_record p e =
    be32 e.issuer ++ (be32 e.serial ++ (e.kmac ++ (be32 e.start ++ (be32 e.end ++ (be16 p ++ be16 (length e.peers))))))

unfoldable pub key_records : ℕ → List Entry → List ℕ
key_records p [] = []
key_records p (e ∷ es) = key_record p e ++ key_records (p + length e.peers) es

unfoldable pub encode : Limits → List Entry → List ℕ
encode L es =
    let ps = peers_of es in
    header L (length es) (length ps)
    ++ (key_records 0 es ++ (replicate (44 * (L.keys - length es)) 0 ++ (words ps ++ replicate (4 * (L.peers - length ps)) 0)))

-- ---- the entries of a list of bytes

abbrev pub key_count : List ℕ → ℕ
key_count s = get16 s 2

abbrev pub peer_count : List ℕ → ℕ
peer_count s = get16 s 6

-- the first peer index of record i, and its peer count
abbrev pub first : List ℕ → ℕ → ℕ
first s i = get16 s (record_at i + 40)

abbrev pub count : List ℕ → ℕ → ℕ
count s i = get16 s (record_at i + 42)

-- the bytes of this place lie in the buffer; the first place is 1
pub record HasPlace (s : List ℕ) (place : ℕ) : Type 0 where
  pub from_one : 0 < place
  pub inside : record_at place ≤ length s

abbrev pub kmac_at : List ℕ → ℕ → List ℕ
kmac_at s i = part s (record_at i + 8) 24

abbrev pub entry_at : Limits → List ℕ → ℕ → Entry
entry_at L s i =
    record {
      issuer = get32 s (record_at i);
      serial = get32 s (record_at i + 4);
      kmac = kmac_at s i;
      start = get32 s (record_at i + 32);
      end = get32 s (record_at i + 36);
      peers = numbers s (peers_at L + 4 * first s i) (count s i);
    }

-- the n entries from record i
unfoldable pub entries_from : Limits → List ℕ → ℕ → ℕ → List Entry
entries_from L s i zero = []
entries_from L s i (suc n) = entry_at L s i ∷ entries_from L s (suc i) n

unfoldable pub entries : Limits → List ℕ → List Entry
entries L s = entries_from L s 0 (key_count s)

-- ---- soundness

unfoldable pub all_hold : List Bool → Bool
all_hold [] = true
all_hold (b ∷ bs) = b && all_hold bs

-- the four fixed header numbers hold
abbrev pub header_tests : Limits → List ℕ → List Bool
header_tests L s = eqb (get16 s 0) L.edition ∷ eqb (get16 s 4) 12 ∷ eqb (get16 s 8) (peers_at L) ∷ eqb (get16 s 10) (total L) ∷ []

unfoldable pub header_ok : Limits → List ℕ → Bool
header_ok L s = all_hold (header_tests L s)

-- both counts are in their limits
unfoldable pub counts_ok : Limits → List ℕ → Bool
counts_ok L s = leb (key_count s) L.keys && leb (peer_count s) L.peers

-- the peer counts of the first i records, added up
unfoldable pub sum_before : List ℕ → ℕ → ℕ
sum_before s zero = 0
sum_before s (suc i) = sum_before s i + count s i

-- the running sums hold and end at the peer count
abbrev pub sum_at : List ℕ → ℕ → Bool
sum_at s i = eqb (first s i) (sum_before s i)

unfoldable pub sums_ok : List ℕ → Bool
sums_ok s = all_below (key_count s) (sum_at s) && eqb (sum_before s (key_count s)) (peer_count s)

-- no two records share issuer and serial
abbrev pub same_key : List ℕ → ℕ → ℕ → Bool
same_key s i j = eqb (get32 s (record_at i)) (get32 s (record_at j)) && eqb (get32 s (record_at i + 4)) (get32 s (record_at j + 4))

unfoldable pub new_key : List ℕ → ℕ → Bool
new_key s i = all_below i (λ j. not (same_key s i j))

unfoldable pub unique_ok : List ℕ → Bool
unique_ok s = all_below (key_count s) (new_key s)

-- every KMAC byte has an odd number of ones (002, 3.3 "DES key" and "Triple-key", 6.2.3.2.3.8)
abbrev pub is_odd : ℕ → Bool
is_odd x = eqb (ones x % 2) 1

unfoldable pub all_odd : List ℕ → Bool
all_odd ks = all_below (length ks) (λ k. is_odd (get_or ks k 0))

unfoldable pub parity_ok : List ℕ → Bool
parity_ok s = all_below (key_count s) (λ i. all_odd (kmac_at s i))

-- all unused bytes are zero
unfoldable pub unused_ok : Limits → List ℕ → Bool
unused_ok L s =
    all_zero (part s (record_at (key_count s)) (44 * (L.keys - key_count s)))
    && all_zero (part s (peers_at L + 4 * peer_count s) (4 * (L.peers - peer_count s)))

abbrev pub conditions : Limits → List ℕ → List Bool
conditions L s = eqb (length s) (total L) ∷ header_ok L s ∷ counts_ok L s ∷ sums_ok s ∷ unique_ok s ∷ parity_ok s ∷ unused_ok L s ∷ []

unfoldable pub sound : Limits → List ℕ → Bool
sound L s = all_hold (conditions L s)
