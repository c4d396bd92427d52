-- The complements of a key and a block: the iterations see the same sums, and the result is the complement.
-- Assumes nothing.
use mathlib.Core.Path.{◌≡◌, refl, sym, ap, ap₂, ◌∙◌}
use mathlib.Core.Bool.{Bool, true}
use mathlib.Core.List.{List, [], ◌∷◌, ◌++◌, map, map-append, map-map}
use Prim.Native.Nat.{ℕ, zero, suc, ◌-◌, ◌*◌, ◌<◌}
use native.Mathlib.Omega.{arith}
use lib.Dec.{ltb, lit<}
use borrow.Author.Tests.{ltb-true}
use lib.ListN.{length, get_or, take, drop, length-append, length-take, length-drop, length-map}
use Rattle.octets.specs.Bytes.{Bytes, all_below, same}
use Rattle.octets.proofs.BoolLaws.{all_below-at, same_true}
use Rattle.des.specs.Bits.{bits, bits_of_bytes, bytes_of_bits, xor_bits}
use Rattle.des.specs.Tables.{ip, ip_inverse, e, p, pc1, pc2, shifts}
use Rattle.des.specs.Des.{permute, selects, cipher_function, swap, shift_both, shifted, subkey, round, rounds, cipher, encipher_bits, decipher_bits}
use Rattle.des.specs.Words.{every}
use Rattle.des.specs.Claims.{complement}
use Rattle.std.proofs.lemmas.List.{take-map, drop-map}
use Rattle.des.proofs.MapLaws.{get_d_map, swap-map, shift_map, map-every}
use Rattle.des.proofs.BlockLaws.{Small, Block, small-append, small-take, small-drop, small-swap, small-permute, length-permute, length-swap}
use Rattle.des.proofs.ByteLaws.{bytes_of_bits_lem, bits_of_bytes_lem, byte_values, length-bytes_of_bits}
use Rattle.des.proofs.CipherLaws.{half_right, rounds-block, ip-block}

-- every bit changed
unfoldable pub complement_bits : List ℕ → List ℕ
complement_bits bs = map (λ (b : ℕ). 1 - b) bs

-- ---- parts, tables and sums

take-complement : (n : ℕ) (l : List ℕ) → take n (complement_bits l) ≡ complement_bits (take n l)
unfolding complement_bits
take-complement n l = take-map (λ (b : ℕ). 1 - b) n l

drop-complement : (n : ℕ) (l : List ℕ) → drop n (complement_bits l) ≡ complement_bits (drop n l)
unfolding complement_bits
drop-complement n l = drop-map (λ (b : ℕ). 1 - b) n l

complement-append : (a b : List ℕ) → complement_bits (a ++ b) ≡ complement_bits a ++ complement_bits b
unfolding complement_bits
complement-append a b = map-append (λ (b : ℕ). 1 - b) a b

-- a table that names bits among the first n only
permute-complement : (t bs : List ℕ) (n : ℕ) → length bs ≡ n → every (λ (k : ℕ). ltb (k - 1) n) t ≡ true → permute t (complement_bits bs) ≡ complement_bits (permute t bs)
unfolding permute complement_bits
permute-complement t bs n l h =
    map-every (λ (k : ℕ). ltb (k - 1) n) (λ (k : ℕ). get_or (map (λ (b : ℕ). 1 - b) bs) (k - 1) 0) (λ (k : ℕ). 1 - get_or bs (k - 1) 0)
    (λ k u. get_d_map (λ (b : ℕ). 1 - b) bs (k - 1) (omega (arith, ltb-true (k - 1) n u))) t h
    ∙ sym (map-map (λ (b : ℕ). 1 - b) (λ (k : ℕ). get_or bs (k - 1) 0) t)

-- the sum of two complements is the sum; with one complement it is the complement
xor_complements : (a b : List ℕ) → Small a → Small b → xor_bits (complement_bits a) (complement_bits b) ≡ xor_bits a b
unfolding complement_bits xor_bits
xor_complements [] b sa sb = refl
xor_complements (x ∷ a) [] sa sb = refl
xor_complements (x ∷ a) (y ∷ b) sa sb =
    let x2 : x < 2 = sa zero in
    let y2 : y < 2 = sb zero in
    ap₂ (λ (z : ℕ) (zs : List ℕ). z ∷ zs) (omega arith) (xor_complements a b (λ i. sa (suc i)) (λ i. sb (suc i)))

xor_complement : (a b : List ℕ) → Small a → xor_bits (complement_bits a) b ≡ complement_bits (xor_bits a b)
unfolding complement_bits xor_bits
xor_complement [] b sa = refl
xor_complement (x ∷ a) [] sa = refl
xor_complement (x ∷ a) (y ∷ b) sa =
    let x2 : x < 2 = sa zero in
    ap₂ (λ (z : ℕ) (zs : List ℕ). z ∷ zs) (omega arith) (xor_complement a b (λ i. sa (suc i)))

-- ---- the key schedule

shift_block : (n : ℕ) (cd : List ℕ) → Block 56 cd → Block 56 (shift_both n cd)
unfolding shift_both
shift_block n cd b =
    let c = take 28 cd in
    let d = drop 28 cd in
    record {
      long = omega (arith, length-append (swap n c) (swap n d), length-swap n c, length-swap n d, length-take 28 cd, length-drop 28 cd);
      small = small-append (swap n c) (swap n d) (small-swap n c (small-take 28 cd b.small)) (small-swap n d (small-drop 28 cd b.small));
    }

shifted-block : (key : List ℕ) → Small key → (n : ℕ) → Block 56 (shifted key n)
unfolding shifted pc1
shifted-block key s zero = record { long = length-permute pc1 key; small = small-permute pc1 key s }
shifted-block key s (suc n) = shift_block (get_or shifts n 0) (shifted key n) (shifted-block key s n)

shifted-complement : (key : List ℕ) → length key ≡ 64 → (n : ℕ) → shifted (complement_bits key) n ≡ complement_bits (shifted key n)
unfolding shifted pc1 complement_bits
shifted-complement key l zero = permute-complement pc1 key 64 l refl
shifted-complement key l (suc n) = ap (shift_both (get_or shifts n 0)) (shifted-complement key l n) ∙ shift_map (λ (b : ℕ). 1 - b) (get_or shifts n 0) (shifted key n)

subkey-complement : (key : List ℕ) → Block 64 key → (n : ℕ) → subkey (complement_bits key) n ≡ complement_bits (subkey key n)
unfolding subkey pc2
subkey-complement key b n =
    ap (permute pc2) (shifted-complement key b.long (suc n)) ∙ permute-complement pc2 (shifted key (suc n)) 56 (shifted-block key b.small (suc n)).long refl

small-subkey : (key : List ℕ) → Small key → (n : ℕ) → Small (subkey key n)
unfolding subkey
small-subkey key s n = small-permute pc2 (shifted key (suc n)) (shifted-block key s (suc n)).small

-- ---- the iterations

f-complement : (r k : List ℕ) → length r ≡ 32 → Small r → Small k → cipher_function (complement_bits r) (complement_bits k) ≡ cipher_function r k
unfolding cipher_function e
f-complement r k l sr sk =
    ap (λ (x : List ℕ). permute p (selects 8 x))
    (ap (λ (x : List ℕ). xor_bits x (complement_bits k)) (permute-complement e r 32 l refl) ∙ xor_complements (permute e r) k (small-permute e r sr) sk)

round-complement : (k y : List ℕ) → Small k → Block 64 y → round (complement_bits k) (complement_bits y) ≡ complement_bits (round k y)
unfolding round
round-complement k y sk b =
    let l = take 32 y in
    let r = drop 32 y in
    simp (take-complement, drop-complement, f-complement r k (half_right y b.long) (small-drop 32 y b.small) sk, xor_complement l (cipher_function r k) (small-take 32 y b.small), complement-append)

-- with keys js that are the complements of the keys ks
module _ (ks js : ℕ → List ℕ) (small : (m : ℕ) → Small (ks m)) (is : (m : ℕ) → js m ≡ complement_bits (ks m)) where
  rounds-complement : (n : ℕ) (y : List ℕ) → Block 64 y → rounds js n (complement_bits y) ≡ complement_bits (rounds ks n y)
  unfolding rounds
  rounds-complement zero y b = refl
  rounds-complement (suc n) y b = ap₂ round (is n) (rounds-complement n y b) ∙ round-complement (ks n) (rounds ks n y) (small n) (rounds-block ks n y b)

  cipher-complement : (bs : List ℕ) → Block 64 bs → cipher js (complement_bits bs) ≡ complement_bits (cipher ks bs)
  unfolding cipher ip ip_inverse complement_bits
  cipher-complement bs b =
      let y = permute ip bs in
      let z = rounds ks 16 y in
      ap (λ (x : List ℕ). permute ip_inverse (swap 32 (rounds js 16 x))) (permute-complement ip bs 64 b.long refl)
      ∙ ap (λ (x : List ℕ). permute ip_inverse (swap 32 x)) (rounds-complement 16 y (ip-block bs b))
      ∙ ap (permute ip_inverse) (swap-map (λ (b : ℕ). 1 - b) 32 z)
      ∙ permute-complement ip_inverse (swap 32 z) 64 (length-swap 32 z ∙ (rounds-block ks 16 y (ip-block bs b)).long) refl

module _ (key : List ℕ) (k : Block 64 key) where
  pub encipher_complement : (bs : List ℕ) → Block 64 bs → encipher_bits (complement_bits key) (complement_bits bs) ≡ complement_bits (encipher_bits key bs)
  unfolding encipher_bits
  encipher_complement = cipher-complement (λ (n : ℕ). subkey key n) (λ (n : ℕ). subkey (complement_bits key) n) (λ m. small-subkey key k.small m) (λ m. subkey-complement key k m)

  pub decipher_complement : (bs : List ℕ) → Block 64 bs → decipher_bits (complement_bits key) (complement_bits bs) ≡ complement_bits (decipher_bits key bs)
  unfolding decipher_bits
  decipher_complement =
      cipher-complement (λ (n : ℕ). subkey key (15 - n)) (λ (n : ℕ). subkey (complement_bits key) (15 - n)) (λ m. small-subkey key k.small (15 - m)) (λ m. subkey-complement key k (15 - m))

-- ---- bytes

byte_test : ℕ → Bool
byte_test x = same (bits 8 (255 - x)) (complement_bits (bits 8 x))

byte_tests : all_below 256 byte_test ≡ true
unfolding byte_test all_below same bits complement_bits
byte_tests = refl

byte-complement : (x : ℕ) → x < 256 → bits 8 (255 - x) ≡ complement_bits (bits 8 x)
unfolding byte_test
byte-complement x h = same_true (bits 8 (255 - x)) (complement_bits (bits 8 x)) (all_below-at 256 x byte_test byte_tests h)

pub bits-complement : (b : List ℕ) → Bytes b → bits_of_bytes (complement b) ≡ complement_bits (bits_of_bytes b)
unfolding bits_of_bytes complement complement_bits
bits-complement [] h = refl
bits-complement (x ∷ b) h =
    ap₂ (λ (s t : List ℕ). s ++ t) (byte-complement x (h zero)) (bits-complement b (λ i. h (suc i))) ∙ sym (complement-append (bits 8 x) (bits_of_bytes b))

length-complement : (b : List ℕ) → length (complement b) ≡ length b
unfolding complement
length-complement b = length-map b (λ (x : ℕ). 255 - x)

complement-fits : (b : List ℕ) → Bytes (complement b)
unfolding complement
complement-fits [] i = lit< tt
complement-fits (x ∷ b) zero = omega arith
complement-fits (x ∷ b) (suc i) = complement-fits b i

pub bytes-complement : (n : ℕ) (bs : List ℕ) → Block (8 * n) bs → bytes_of_bits n (complement_bits bs) ≡ complement (bytes_of_bits n bs)
bytes-complement n bs b =
    let c = bytes_of_bits n bs in
    let l : n ≡ length (complement c) = sym (length-complement c ∙ length-bytes_of_bits n bs) in
    ap (bytes_of_bits n) (ap complement_bits (sym (bits_of_bytes_lem n bs b.long b.small)) ∙ sym (bits-complement c (byte_values n bs b.long b.small)))
    ∙ ap (λ (k : ℕ). bytes_of_bits k (bits_of_bytes (complement c))) l
    ∙ bytes_of_bits_lem (complement c) (complement-fits c)
