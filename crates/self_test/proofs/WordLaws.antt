-- Words by the bits or the bytes that they hold, the MAC of three blocks, and session keys.
-- Assumes nothing.
use mathlib.Core.Path.{◌≡◌, refl, sym, ap, ap₂, ◌∙◌}
use mathlib.Core.Bool.{Bool, true}
use mathlib.Core.List.{List, [], ◌++◌, map, append_assoc, append-nil}
use Prim.Native.Nat.{ℕ, ◌+◌, ◌*◌, ◌/◌, ◌%◌, ◌^◌, ◌≤◌, ◌<◌}
use native.Mathlib.Omega.{arith}
use native.Mathlib.Numerals.{add-one}
use lib.Bits.{bit_xor}
use lib.Count.{ones}
use lib.ListN.{length, take, drop, length-append}
use lib.Dec.{eqb}
use borrow.Author.Tests.{eq-eqb}
use Rattle.std.specs.List.{list_all, zip}
use Rattle.octets.proofs.BoolLaws.{and_both}
use mathlib.Core.Bool.{◌&&◌}
use mathlib.Core.List.{◌∷◌}
use Rattle.octets.specs.Bytes.{part, number, bytes}
use Rattle.octets.proofs.NumberLaws.{length-bytes}
use Rattle.octets.proofs.PartLaws.{part_mid}
use Rattle.des.specs.Bits.{bits, bits_of_bytes, bytes_of_bits, xor_bits}
use Rattle.des.specs.Des.{encipher_bits, decipher_bits}
use Rattle.des.proofs.BitLaws.{length-bits, xor_bits_lem}
use Rattle.des.proofs.BlockLaws.{small-bits}
use Rattle.des.proofs.ByteLaws.{bytes_bits, bits_of_bytes_lem}
use Rattle.des.proofs.WordLaws.{whole, recast}
use Rattle.authentication.specs.Mac.{block, chain, finish, cbc_mac, mac_string, mac}
use Rattle.authentication.specs.Keys.{left, right, triple, ks1, ks2, ks3, odd, session_keys, derived}
use Rattle.refusal.specs.House.{gives, asks}
use Rattle.authentication.proofs.Examples.{key}
use Rattle.authentication.proofs.PairLaws.{length-string}
use Rattle.authentication.proofs.StringLaws.{block-number}
use Rattle.authentication.proofs.KeyLaws.{odd-high, odd-ones}
use Rattle.self_test.specs.Plain.{Blocks, Chains, Macs, Formulas}
use Rattle.self_test.proofs.EntryLaws.{one_word}

-- two words of one block
pub same_bits : {x y : ℕ} → x < 2 ^ 64 → y < 2 ^ 64 → bits 64 x ≡ bits 64 y → x ≡ y
same_bits {x} {y} hx hy e = one_word 64 (whole 64 x hx) (recast (whole 64 y hy) (sym e))

bits-bytes : (x : ℕ) → bits_of_bytes (bytes 8 x) ≡ bits 64 x
bits-bytes x = ap bits_of_bytes (sym (bytes_bits 8 x)) ∙ bits_of_bytes_lem 8 (bits 64 x) (length-bits 64 x) (small-bits 64 x)

-- a word that holds eight bytes, and the bytes of a word
pub same_bytes : {x y : ℕ} {b : List ℕ} → x < 2 ^ 64 → y < 2 ^ 64 → bits 64 x ≡ bits_of_bytes b → bytes 8 y ≡ b → x ≡ y
same_bytes {x} {y} {b} hx hy ex ey =
    same_bits hx hy (ex ∙ ap bits_of_bytes (sym ey) ∙ bits-bytes y)

added : (a b : ℕ) {u v : List ℕ} → u ≡ bits 64 a → v ≡ bits 64 b → bits 64 (bit_xor a b) ≡ xor_bits u v
added a b p q = xor_bits_lem 64 a b ∙ ap₂ xor_bits (sym p) (sym q)

step : {k l x y : List ℕ} → k ≡ l → x ≡ y → encipher_bits l x ≡ encipher_bits k y
step p q = ap₂ encipher_bits (sym p) q

-- the chain of three blocks, each step as its call promises it
pub chains : (k1 k2 k3 x y z h i r : ℕ) → bits 64 h ≡ encipher_bits (bits 64 k1) (bits 64 (bit_xor 0 x)) → bits 64 i ≡ encipher_bits (bits 64 k1) (bits 64 (bit_xor h y))
    → bits 64 r ≡ triple (bits 64 k1) (bits 64 k2) (bits 64 k3) (bits 64 (bit_xor i z)) → Chains k1 k2 k3 x y z r
unfolding cbc_mac chain finish triple
chains k1 k2 k3 x y z h i r eh ei er =
    record {
      by = λ key s long ks bs.
          let one : bits 64 h ≡ chain (block key 0) s 1 = eh ∙ step ks.first (added 0 x refl bs.first) in
          let two : bits 64 i ≡ chain (block key 0) s 2 = ei ∙ step ks.first (added h y (sym one) bs.second) in
          let last : bits 64 (bit_xor i z) ≡ xor_bits (chain (block key 0) s 2) (block s 2) = added i z (sym two) bs.third in
          sym (bytes_bits 8 r)
          ∙ ap (bytes_of_bits 8) (er ∙ ap₂ encipher_bits (sym ks.third) (ap₂ decipher_bits (sym ks.second) (step ks.first last)) ∙ ap (λ (n : ℕ). finish key (chain (block key 0) s (n / 8))) (sym long));
    }

-- Annex B's key as words
pub key-words : Blocks key 0x01020407080b0d0e 0x10131516191a1c1f 0x20232526292a2c2f
unfolding block part bits_of_bytes bits
key-words = record { first = refl; second = refl; third = refl }

-- ---- the MAC of a message

pub chain-none : (k1 s : List ℕ) → bits 64 0 ≡ chain k1 s 0
unfolding chain
chain-none k1 s = refl

pub chain_more : (k1 s : List ℕ) (k x h r : ℕ) → 8 * k + 8 ≤ length s → x ≡ number 8 s (8 * k) → bits 64 h ≡ chain k1 s k → bits 64 r ≡ encipher_bits k1 (bits 64 (bit_xor h x)) → bits 64 r ≡ chain k1 s (k + 1)
unfolding chain
chain_more k1 s k x h r l e c er = er ∙ ap (encipher_bits k1) (added h x (sym c) (sym (block-number s k x l e))) ∙ ap (chain k1 s) (sym (add-one k))

pub macs : (k1 k2 k3 : ℕ) (d m : List ℕ) (h r : ℕ) → length d ≡ 3 → bits 64 h ≡ chain (bits 64 k1) (mac_string d m) ((length m + 12) / 8)
    → bits 64 r ≡ encipher_bits (bits 64 k3) (decipher_bits (bits 64 k2) (bits 64 h)) → Macs k1 k2 k3 d m r
unfolding mac cbc_mac finish
macs k1 k2 k3 d m h r three eh er =
    record {
      by = λ key ks.
          let s = mac_string d m in
          let n : (length m + 12) / 8 ≡ length s / 8 = omega (arith, length-string d m three) in
          sym (bytes_bits 8 r)
          ∙ ap (bytes_of_bits 8) (er ∙ ap₂ encipher_bits (sym ks.third) (ap₂ decipher_bits (sym ks.second) (eh ∙ ap₂ (λ (k : List ℕ) (j : ℕ). chain k s j) (sym ks.first) n)));
    }

regrouped : (a b c : List ℕ) → a ++ (b ++ c) ≡ (a ++ b) ++ (c ++ [])
regrouped a b c = simp (append_assoc, append-nil)

-- the bytes of three words, as the blocks of a key
pub three-words : (a b c : ℕ) → Blocks (bytes 8 a ++ (bytes 8 b ++ bytes 8 c)) a b c
unfolding block
three-words a b c =
    record {
      first = ap bits_of_bytes (part_mid [] (bytes 8 a) (bytes 8 b ++ bytes 8 c) 0 8 refl (length-bytes 8 a)) ∙ bits-bytes a;
      second = ap bits_of_bytes (part_mid (bytes 8 a) (bytes 8 b) (bytes 8 c) 8 8 (length-bytes 8 a) (length-bytes 8 b)) ∙ bits-bytes b;
      third =
          ap (λ (l : List ℕ). bits_of_bytes (part l 16 8)) (regrouped (bytes 8 a) (bytes 8 b) (bytes 8 c))
          ∙ ap bits_of_bytes (part_mid (bytes 8 a ++ bytes 8 b) (bytes 8 c) [] 16 8 (simp (length-append, length-bytes)) (length-bytes 8 c)) ∙ bits-bytes c;
    }

-- ---- session keys

-- the three formulas by words, each as its call promises it
keys-worked : (kmac ra rb : List ℕ) (k1 k2 k3 l r a b c : ℕ) → Blocks kmac k1 k2 k3 → left ra ++ left rb ≡ bits 64 l → right ra ++ right rb ≡ bits 64 r
    → bits 64 a ≡ triple (bits 64 k1) (bits 64 k2) (bits 64 k3) (bits 64 l) → bits 64 b ≡ triple (bits 64 k1) (bits 64 k2) (bits 64 k3) (bits 64 r)
    → bits 64 c ≡ triple (bits 64 k3) (bits 64 k2) (bits 64 k1) (bits 64 l) → session_keys kmac ra rb ≡ map odd (bytes 8 a ++ (bytes 8 b ++ bytes 8 c))
unfolding session_keys ks1 ks2 ks3 triple
keys-worked kmac ra rb k1 k2 k3 l r a b c ks el er ea eb ec =
    ap (map odd)
    (ap₂ (λ (s t : List ℕ). s ++ t) (worked a (ap₂ encipher_bits ks.third (ap₂ decipher_bits ks.second (ap₂ encipher_bits ks.first el)) ∙ sym ea))
    (ap₂ (λ (s t : List ℕ). s ++ t) (worked b (ap₂ encipher_bits ks.third (ap₂ decipher_bits ks.second (ap₂ encipher_bits ks.first er)) ∙ sym eb))
    (worked c (ap₂ encipher_bits ks.first (ap₂ decipher_bits ks.second (ap₂ encipher_bits ks.third el)) ∙ sym ec))))
  where
    worked : (w : ℕ) {bs : List ℕ} → bs ≡ bits 64 w → bytes_of_bits 8 bs ≡ bytes 8 w
    worked w e = ap (bytes_of_bits 8) e ∙ bytes_bits 8 w

three-long : (a b c : ℕ) → length (bytes 8 a ++ (bytes 8 b ++ bytes 8 c)) ≡ 24
three-long a b c = simp (length-append, length-bytes)

pub formulas : (k1 k2 k3 x y a b c : ℕ) (r : List ℕ) → bits 64 a ≡ triple (bits 64 k1) (bits 64 k2) (bits 64 k3) (bits 64 x) → bits 64 b ≡ triple (bits 64 k1) (bits 64 k2) (bits 64 k3) (bits 64 y)
    → bits 64 c ≡ triple (bits 64 k3) (bits 64 k2) (bits 64 k1) (bits 64 x) → r ≡ bytes 8 a ++ (bytes 8 b ++ bytes 8 c) → Formulas k1 k2 k3 x y r
formulas k1 k2 k3 x y a b c r ea eb ec er =
    record { long = ap length er ∙ three-long a b c; by = λ kmac ra rb ks el eh. keys-worked kmac ra rb k1 k2 k3 x y a b c ks el eh ea eb ec ∙ ap (map odd) (sym er) }

-- the halves of two random numbers, each the bytes of a word
lefts-right : (a b l : ℕ) → bits 64 l ≡ take 32 (bits 64 a) ++ take 32 (bits 64 b) → left (bytes 8 a) ++ left (bytes 8 b) ≡ bits 64 l
unfolding left
lefts-right a b l e = ap₂ (λ (s t : List ℕ). take 32 s ++ take 32 t) (bits-bytes a) (bits-bytes b) ∙ sym e

rights-right : (a b l : ℕ) → bits 64 l ≡ drop 32 (bits 64 a) ++ drop 32 (bits 64 b) → right (bytes 8 a) ++ right (bytes 8 b) ≡ bits 64 l
unfolding right
rights-right a b l e = ap₂ (λ (s t : List ℕ). drop 32 s ++ drop 32 t) (bits-bytes a) (bits-bytes b) ∙ sym e

-- the call makes the keys of a KMAC that is the bytes of words
pub keys-made : (kmac : List ℕ) (k1 k2 k3 : ℕ) → kmac ≡ bytes 8 k1 ++ (bytes 8 k2 ++ bytes 8 k3) → derived kmac ≡ gives 0
unfolding derived
keys-made kmac k1 k2 k3 e = ap (λ (t : Bool). asks t 13 (gives 0)) (eq-eqb (length kmac) 24 (ap length e ∙ three-long k1 k2 k3))

-- which they are, where the random numbers are the bytes of words too
pub keys-given : (kmac ra rb key : List ℕ) (k1 k2 k3 a b x y : ℕ) (r : List ℕ) → kmac ≡ bytes 8 k1 ++ (bytes 8 k2 ++ bytes 8 k3) → ra ≡ bytes_of_bits 8 (bits 64 a) → rb ≡ bytes_of_bits 8 (bits 64 b)
    → key ≡ session_keys kmac ra rb → bits 64 x ≡ take 32 (bits 64 a) ++ take 32 (bits 64 b)
    → bits 64 y ≡ drop 32 (bits 64 a) ++ drop 32 (bits 64 b) → Formulas k1 k2 k3 x y r → key ≡ map odd r
keys-given kmac ra rb key k1 k2 k3 a b x y r ek ea eb e el er f =
    let whole = bytes 8 k1 ++ (bytes 8 k2 ++ bytes 8 k3) in
    e ∙ ap (λ (k : List ℕ). session_keys k ra rb) ek ∙ ap₂ (λ (s t : List ℕ). session_keys whole s t) (ea ∙ bytes_bits 8 a) (eb ∙ bytes_bits 8 b)
    ∙ f.by whole (bytes 8 a) (bytes 8 b) (three-words k1 k2 k3) (lefts-right a b x el) (rights-right a b y er)

-- what is compared of each byte
pub parity-all : (key plain : List ℕ) → key ≡ map odd plain → list_all (λ x. eqb (x.0 / 2) (x.1 / 2) && eqb (ones x.0 % 2) 1) (zip key plain) ≡ true
parity-all key plain e = ap (λ (k : List ℕ). list_all (λ x. eqb (x.0 / 2) (x.1 / 2) && eqb (ones x.0 % 2) 1) (zip k plain)) e ∙ each plain
  where
    each : (p : List ℕ) → list_all (λ x. eqb (x.0 / 2) (x.1 / 2) && eqb (ones x.0 % 2) 1) (zip (map odd p) p) ≡ true
    each [] = refl
    each (b ∷ p) = and_both _ _ (and_both _ _ (eq-eqb (odd b / 2) (b / 2) (odd-high b)) (eq-eqb (ones (odd b) % 2) 1 (odd-ones b))) (each p)
