-- Alike messages: the same header, the same answer of the body test, and requests that are alike.
-- Assumes nothing.
use mathlib.Core.Path.{◌≡◌, refl, sym, ap, ◌∙◌, subst}
use mathlib.Core.Bool.{Bool, true, false, ◌&&◌}
use mathlib.Core.List.{List}
use Prim.Native.Nat.{ℕ, zero, suc, ◌+◌, ◌*◌, ◌≤◌, ◌<◌}
use native.Mathlib.Omega.{arith}
use lib.ListN.{length, get_or}
use lib.Seq.{ext_get_or}
use lib.Dec.{eqb, leb}
use borrow.Author.Tests.{eqb-true}
use Rattle.octets.specs.Bytes.{get32}
use Rattle.octets.specs.Words.{numbers}
use Rattle.octets.proofs.BoolLaws.{and_left, and_right, and_false_left, and_false_right}
use Rattle.store.specs.Store.{all_odd}
use Rattle.store.specs.Request.{add}
use Rattle.message.specs.declared.Command.{Command}
use Rattle.message.specs.declared.Command.TheVariants.{Adds}
use Rattle.message.specs.declared.Task.{Task}
use Rattle.message.specs.declared.Task.TheVariants.{Requests}
use Rattle.message.specs.declared.Kind.TheVariants.{Asks}
use Rattle.message.specs.Header.{header_length, version, receiver, sender, transaction, sequence, type_number, kind_of, kind}
use Rattle.message.specs.Body.{add_count, period_at, size_at, fields_ok, request_at, fields_from, requests_from, request_number, requests_at, list_ok, body_ok, requests, well_formed_add}
use Rattle.session.specs.declared.Session.{Session}
use Rattle.session.specs.Rules.{length_ok, opens}
use Rattle.runs.specs.Alike.{in_keys_from, in_message_key, AlikeMessages}
use Rattle.runs.proofs.RangeLaws.{SameIn, get16-same, get32-same, numbers-same, all_odd-same, before-key, past-key}
use Rattle.runs.proofs.RequestLaws.{AlikeRequest, alike-add, AlikeRequests, no-requests, one-request, same-requests}
use Rattle.message.proofs.ReadableLaws.{fields_fit, fields-rest, list_ok-fields}

-- ---- add requests of two messages

-- two add requests with the same fields but for the KMAC
add-alike : {rc rc' i i' s s' a a' b b' : ℕ} {k k' ps ps' : List ℕ} → rc ≡ rc' → i ≡ i' → s ≡ s' → all_odd k ≡ all_odd k' → a ≡ a' → b ≡ b' → ps ≡ ps'
    → AlikeRequest (add rc (record { issuer = i; serial = s; kmac = k; start = a; end = b; peers = ps })) (add rc' (record { issuer = i'; serial = s'; kmac = k'; start = a'; end = b'; peers = ps' }))
add-alike {rc} {i = i} {s = s} {a = a} {b = b} {k = k} {k' = k'} {ps = ps} p1 p2 p3 o p4 p5 p6 =
    rw (← p1, ← p2, ← p3, ← p4, ← p5, ← p6) (alike-add rc (record { issuer = i; serial = s; kmac = k; start = a; end = b; peers = ps }) k' o)

-- no KMAC field stands before the first
before-keys : (m : List ℕ) (n at i : ℕ) → i < at + 13 → in_keys_from m at n i ≡ false
unfolding in_keys_from
before-keys m zero at i h = refl
before-keys m (suc n) at i h = rw (before-key (at + 13) i h, before-keys m n (at + size_at Adds m at) i (omega arith))

-- the same but for the KMAC fields of the n requests from index at on
abbrev SameFrom : List ℕ → List ℕ → ℕ → ℕ → Type 0
SameFrom m m' at n = (i : ℕ) → at ≤ i → in_keys_from m at n i ≡ false → get_or m i 0 ≡ get_or m' i 0

module _ (m m' : List ℕ) (x : AlikeMessages m m') where
  module _ (n at : ℕ) (w : SameFrom m m' at (suc n)) where
    front : SameIn m m' at 13
    front i h l = w i h (before-keys m (suc n) at i l)

    back : (i : ℕ) → at + 37 ≤ i → i < at + size_at Adds m at + 13 → get_or m i 0 ≡ get_or m' i 0
    unfolding in_keys_from
    back i h l = w i (omega arith) (rw (past-key (at + 13) i (omega arith), before-keys m n (at + size_at Adds m at) i l))

    rest : SameFrom m m' (at + size_at Adds m at) n
    unfolding in_keys_from size_at
    rest i h l = w i (omega arith) (rw (past-key (at + 13) i (omega arith), l))

    count_same : add_count m at ≡ add_count m' at
    unfolding size_at
    count_same = get16-same m m' (at + 37) (λ i h l. back i h (omega arith))

    size_same : size_at Adds m at ≡ size_at Adds m' at
    unfolding size_at
    size_same = ap (λ (y : ℕ). 47 + 4 * y) count_same

    fields_ok-same : fields_ok Adds m at ≡ fields_ok Adds m' at
    unfolding fields_ok
    fields_ok-same = rw (front at (omega arith) (omega arith), count_same)

    request-alike : at + size_at Adds m at ≤ length m → AlikeRequest (request_at Adds m at) (request_at Adds m' at)
    unfolding request_at size_at
    request-alike fit =
        add-alike
        (get32-same m m' (at + 9) (λ i h l. front i (omega arith) (omega arith)))
        (get32-same m m' (at + 1) (λ i h l. front i (omega arith) (omega arith)))
        (get32-same m m' (at + 5) (λ i h l. front i (omega arith) (omega arith)))
        (all_odd-same m m' (at + 13) 24 x.differ.same_length (omega arith) x.parity)
        (get32-same m m' (period_at m at) (λ i h l. back i (omega arith) (omega arith)) ∙ ap (λ (y : ℕ). get32 m' (at + 39 + 4 * y)) count_same)
        (get32-same m m' (period_at m at + 4) (λ i h l. back i (omega arith) (omega arith)) ∙ ap (λ (y : ℕ). get32 m' (at + 39 + 4 * y + 4)) count_same)
        (numbers-same m m' (add_count m at) (at + 39) (λ i h l. back i (omega arith) (omega arith)) ∙ ap (λ (y : ℕ). numbers m' (at + 39) y) count_same)

  fields_from-same : (n at : ℕ) → SameFrom m m' at n → fields_from Adds m at n ≡ fields_from Adds m' at n
  unfolding fields_from
  fields_from-same zero at w = ap (eqb at) x.differ.same_length
  fields_from-same (suc n) at w =
      rw (fields_from-same n (at + size_at Adds m at) (rest n at w), fields_ok-same n at w, size_same n at w, x.differ.same_length)

  requests_from-alike : (n at : ℕ) → SameFrom m m' at n → fields_from Adds m at n ≡ true → AlikeRequests (requests_from Adds m at n) (requests_from Adds m' at n)
  unfolding requests_from
  requests_from-alike zero at w h = no-requests
  requests_from-alike (suc n) at w h =
      one-request (request-alike n at w (fields_fit Adds m n at h))
      (subst (λ (y : ℕ). AlikeRequests (requests_from Adds m (at + size_at Adds m at) n) (requests_from Adds m' (at + y) n)) (size_same n at w)
      (requests_from-alike n (at + size_at Adds m at) (rest n at w) (fields-rest Adds m n at h)))

-- ---- what two alike messages have in common

pub record Reading (m m' : List ℕ) : Type 0 where
  pub long : length m ≡ length m'
  pub length_ok_lem : length_ok m ≡ length_ok m'
  pub version_is : version m ≡ version m'
  pub receiver_is : receiver m ≡ receiver m'
  pub sender_is : sender m ≡ sender m'
  pub sequence_is : sequence m ≡ sequence m'
  pub transaction_is : transaction m ≡ transaction m'
  pub kind_is : kind m ≡ kind m'
  pub body_is : (task : Task) → kind m ≡ Asks task → body_ok task m ≡ body_ok task m'
  pub opens_is : (e : Session) → opens e m ≡ opens e m'
  pub requests_are : (k : Command) → kind m ≡ Asks (Requests k) → list_ok k m ≡ true → AlikeRequests (requests k m) (requests k m')

same-reading : (m : List ℕ) → Reading m m
same-reading m =
    record {
      long = refl;
      length_ok_lem = refl;
      version_is = refl;
      receiver_is = refl;
      sender_is = refl;
      sequence_is = refl;
      transaction_is = refl;
      kind_is = refl;
      body_is = λ task q. refl;
      opens_is = λ e. refl;
      requests_are = λ k q h. same-requests (requests k m);
    }

-- an add command opens no session
add-opens : (e : Session) (m : List ℕ) → kind m ≡ Asks (Requests Adds) → opens e m ≡ false
unfolding opens
add-opens e m q = rw q

module _ (m m' : List ℕ) (x : AlikeMessages m m') where
  -- any other message is equal to the one that it is alike
  equal_messages : well_formed_add m ≡ false → m ≡ m'
  unfolding in_message_key
  equal_messages h =
      ext_get_or 0 m m' x.differ.same_length (λ i l. x.differ.same_byte i (and_false_left (well_formed_add m) (in_keys_from m requests_at (request_number m) i) h))

  same_from : SameFrom m m' requests_at (request_number m)
  unfolding in_message_key
  same_from i h l = x.differ.same_byte i (and_false_right (well_formed_add m) (in_keys_from m requests_at (request_number m) i) l)

  same_head : SameIn m m' 0 22
  unfolding in_message_key
  same_head i h l = x.differ.same_byte i (and_false_right (well_formed_add m) (in_keys_from m requests_at (request_number m) i) (before-keys m (request_number m) 22 i (omega arith)))

  word : (a : ℕ) → a + 4 ≤ 22 → get32 m a ≡ get32 m' a
  word a f = get32-same m m' a (λ i h l. same_head i (omega arith) (omega arith))

  is-add : well_formed_add m ≡ true → kind m ≡ Asks (Requests Adds)
  unfolding well_formed_add kind_of
  is-add h =
      ap kind_of (eqb-true (type_number m) 0 (and_left (eqb (type_number m) 0) (list_ok Adds m) (and_right (leb header_length (length m)) (eqb (type_number m) 0 && list_ok Adds m) h)))

  number_same : request_number m ≡ request_number m'
  number_same = get16-same m m' 20 (λ i h l. same_head i (omega arith) (omega arith))

  kind-same : kind m ≡ kind m'
  kind-same = ap kind_of (same_head 19 (omega arith) (omega arith))

  body_same : body_ok (Requests Adds) m ≡ body_ok (Requests Adds) m'
  unfolding body_ok
  body_same = rw (fields_from-same m m' x (request_number m) 22 same_from, number_same)

  adds-alike : list_ok Adds m ≡ true → AlikeRequests (requests Adds m) (requests Adds m')
  unfolding requests
  adds-alike h =
      subst (λ (y : ℕ). AlikeRequests (requests_from Adds m 22 (request_number m)) (requests_from Adds m' 22 y)) number_same
      (requests_from-alike m m' x (request_number m) 22 same_from (list_ok-fields Adds m h))

  add-reading : kind m ≡ Asks (Requests Adds) → Reading m m'
  add-reading a =
      record {
        long = x.differ.same_length;
        length_ok_lem = rw (word 0 (omega arith), x.differ.same_length);
        version_is = same_head 4 (omega arith) (omega arith);
        receiver_is = word 5 (omega arith);
        sender_is = word 9 (omega arith);
        sequence_is = get16-same m m' 17 (λ i h l. same_head i (omega arith) (omega arith));
        transaction_is = word 13 (omega arith);
        kind_is = kind-same;
        body_is = λ task q. let t : Requests Adds ≡ task = cc in subst (λ (y : Task). body_ok y m ≡ body_ok y m') t body_same;
        opens_is = λ e. add-opens e m a ∙ sym (add-opens e m' (sym kind-same ∙ a));
        requests_are = λ k q. let t : Adds ≡ k = cc in subst (λ (y : Command). list_ok y m ≡ true → AlikeRequests (requests y m) (requests y m')) t adds-alike;
      }

  pub reading : Reading m m'
  reading = go (well_formed_add m) refl
    where
      go : (b : Bool) → well_formed_add m ≡ b → Reading m m'
      go true h = add-reading (is-add h)
      go false h = subst (Reading m) (equal_messages h) (same-reading m)
