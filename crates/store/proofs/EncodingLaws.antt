-- Laws of the parts of an encoding: their lengths, joined lists of entries, and a record cut before each of its fields.
-- Assumes nothing.
use mathlib.Core.Path.{◌≡◌, refl, sym, ap, ◌∙◌}
use mathlib.Core.List.{List, [], ◌∷◌, ◌++◌, append_assoc}
use Prim.Native.Nat.{ℕ, zero, suc, ◌+◌, ◌*◌, ◌-◌, ◌<◌}
use native.Mathlib.Nat.{add-zero, add_assoc}
use native.Mathlib.Omega.{arith}
use lib.ListN.{length, get_or, take, replicate, length-append}
use Rattle.octets.specs.Bytes.{be16, be32}
use Rattle.octets.specs.Words.{words}
use Rattle.store.specs.Store.{Entry, header, key_record, key_records, peers_of, encode}
use Rattle.store.specs.WellFormed.{Fitting, nobody}
use Rattle.store.specs.declared.Limits.{Limits}

-- each key has 24 bytes
unfoldable pub LongKeys : List Entry → Type 0
LongKeys [] = Unit {0}
LongKeys (e ∷ es) = (length e.kmac ≡ 24) × LongKeys es

pub fitting-long : (es : List Entry) → ((i : ℕ) → i < length es → Fitting (get_or es i nobody)) → LongKeys es
unfolding LongKeys
fitting-long [] f = tt
fitting-long (e ∷ es) f = ((f 0 (omega arith)).kmac_long, fitting-long es (λ i l. f (suc i) (omega arith)))

pub take_long : (i : ℕ) (es : List Entry) → LongKeys es → LongKeys (take i es)
unfolding LongKeys
take_long zero es k = tt
take_long (suc i) [] k = tt
take_long (suc i) (e ∷ es) k = (k.0, take_long i es k.1)

-- ---- lengths

pub header-length : (L : Limits) (n m : ℕ) → length (header L n m) ≡ 12
unfolding header
header-length L n m = refl

pub key_record-length : (p : ℕ) (e : Entry) → length e.kmac ≡ 24 → length (key_record p e) ≡ 44
unfolding key_record
key_record-length p e k = simp length-append (omega arith)

pub key_records-length : (p : ℕ) (es : List Entry) → LongKeys es → length (key_records p es) ≡ 44 * length es
unfolding key_records LongKeys
key_records-length p [] k = refl
key_records-length p (e ∷ es) k =
    length-append (key_record p e) (key_records (p + length e.peers) es)
    ∙ omega (arith, key_record-length p e k.0, key_records-length (p + length e.peers) es k.1)

-- what stands before record i
pub front_length : (L : Limits) (es : List Entry) (n m i : ℕ) → LongKeys es → length es ≡ i → length (header L n m ++ key_records 0 es) ≡ 12 + 44 * i
front_length L es n m i k e =
    length-append (header L n m) (key_records 0 es)
    ∙ ap (λ (x : ℕ). x + length (key_records 0 es)) (header-length L n m)
    ∙ ap (λ (x : ℕ). 12 + x) (key_records-length 0 es k ∙ ap (λ (x : ℕ). 44 * x) e)

-- ---- joined lists

pub peers_of-append : (xs ys : List Entry) → peers_of (xs ++ ys) ≡ peers_of xs ++ peers_of ys
unfolding peers_of
peers_of-append [] ys = refl
peers_of-append (x ∷ xs) ys = ap (λ (r : List ℕ). x.peers ++ r) (peers_of-append xs ys) ∙ sym (append_assoc x.peers (peers_of xs) (peers_of ys))

pub key_records-append : (p : ℕ) (xs ys : List Entry) → key_records p (xs ++ ys) ≡ key_records p xs ++ key_records (p + length (peers_of xs)) ys
unfolding key_records peers_of
key_records-append p [] ys = ap (λ (q : ℕ). key_records q ys) (sym (add-zero p))
key_records-append p (x ∷ xs) ys =
    let q : ℕ = p + length x.peers in
    ap (λ (r : List ℕ). key_record p x ++ r) (key_records-append q xs ys)
    ∙ sym (append_assoc (key_record p x) (key_records q xs) (key_records (q + length (peers_of xs)) ys))
    ∙ ap (λ (r : ℕ). (key_record p x ++ key_records q xs) ++ key_records r ys)
    (add_assoc p (length x.peers) (length (peers_of xs)) ∙ ap (λ (r : ℕ). p + r) (sym (length-append x.peers (peers_of xs))))

-- an encoding, by its counts and its peers
pub encode_as : (L : Limits) (es : List Entry) (ps : List ℕ) (n m : ℕ) → length es ≡ n → peers_of es ≡ ps → length ps ≡ m
    → encode L es ≡ header L n m ++ (key_records 0 es ++ (replicate (44 * (L.keys - n)) 0 ++ (words ps ++ replicate (4 * (L.peers - m)) 0)))
unfolding encode
encode_as L es ps n m en ep em =
    ap (λ (x : List ℕ). header L (length es) (length x) ++ (key_records 0 es ++ (replicate (44 * (L.keys - length es)) 0 ++ (words x ++ replicate (4 * (L.peers - length x)) 0)))) ep
    ∙ ap (λ (x : ℕ). header L x (length ps) ++ (key_records 0 es ++ (replicate (44 * (L.keys - x)) 0 ++ (words ps ++ replicate (4 * (L.peers - length ps)) 0)))) en
    ∙ ap (λ (x : ℕ). header L n x ++ (key_records 0 es ++ (replicate (44 * (L.keys - n)) 0 ++ (words ps ++ replicate (4 * (L.peers - x)) 0)))) em

-- ---- a record behind a and before t, cut before each of its fields

module _ (a i s k b e p n t : List ℕ) where
  abbrev whole : List ℕ
  whole = a ++ ((i ++ (s ++ (k ++ (b ++ (e ++ (p ++ n)))))) ++ t)

  pub cut-issuer : whole ≡ a ++ (i ++ ((s ++ (k ++ (b ++ (e ++ (p ++ n))))) ++ t))
  cut-issuer = simp append_assoc

  pub cut-serial : whole ≡ (a ++ i) ++ (s ++ ((k ++ (b ++ (e ++ (p ++ n)))) ++ t))
  cut-serial = simp append_assoc

  pub cut-kmac : whole ≡ (a ++ (i ++ s)) ++ (k ++ ((b ++ (e ++ (p ++ n))) ++ t))
  cut-kmac = simp append_assoc

  pub cut-start : whole ≡ (a ++ (i ++ (s ++ k))) ++ (b ++ ((e ++ (p ++ n)) ++ t))
  cut-start = simp append_assoc

  pub cut-end : whole ≡ (a ++ (i ++ (s ++ (k ++ b)))) ++ (e ++ ((p ++ n) ++ t))
  cut-end = simp append_assoc

  pub cut-first : whole ≡ (a ++ (i ++ (s ++ (k ++ (b ++ e))))) ++ (p ++ (n ++ t))
  cut-first = simp append_assoc

  pub cut-count : whole ≡ (a ++ (i ++ (s ++ (k ++ (b ++ (e ++ p)))))) ++ (n ++ t)
  cut-count = simp append_assoc

-- where each field of a record stands, behind a of length r
module _ (a : List ℕ) (x : Entry) (r p : ℕ) (ea : length a ≡ r) (long : length x.kmac ≡ 24) where
  abbrev I : List ℕ
  I = be32 x.issuer

  abbrev S : List ℕ
  S = be32 x.serial

  abbrev B : List ℕ
  B = be32 x.start

  abbrev E : List ℕ
  E = be32 x.end

  pub at-serial : length (a ++ I) ≡ r + 4
  at-serial = length-append a I ∙ ap (λ (y : ℕ). y + 4) ea

  pub at-kmac : length (a ++ (I ++ S)) ≡ r + 8
  at-kmac = length-append a (I ++ S) ∙ ap (λ (y : ℕ). y + 8) ea

  pub at-start : length (a ++ (I ++ (S ++ x.kmac))) ≡ r + 32
  at-start = length-append a (I ++ (S ++ x.kmac)) ∙ omega arith

  pub at-end : length (a ++ (I ++ (S ++ (x.kmac ++ B)))) ≡ r + 36
  at-end = length-append a (I ++ (S ++ (x.kmac ++ B))) ∙ omega (arith, length-append x.kmac B)

  pub at_first : length (a ++ (I ++ (S ++ (x.kmac ++ (B ++ E))))) ≡ r + 40
  at_first = length-append a (I ++ (S ++ (x.kmac ++ (B ++ E)))) ∙ omega (arith, length-append x.kmac (B ++ E))

  pub at_count : length (a ++ (I ++ (S ++ (x.kmac ++ (B ++ (E ++ be16 p)))))) ≡ r + 42
  at_count = length-append a (I ++ (S ++ (x.kmac ++ (B ++ (E ++ be16 p))))) ∙ omega (arith, length-append x.kmac (B ++ (E ++ be16 p)))
