-- Sixteen iterations undone by sixteen with the keys in the reverse order.
-- Assumes nothing.
use mathlib.Core.Path.{◌≡◌, refl, sym, ap, ap₂, ◌∙◌, subst⁻¹}
use mathlib.Core.Bool.{true}
use mathlib.Core.List.{List, [], ◌∷◌, ◌++◌, map, map-map}
use Prim.Native.Nat.{ℕ, zero, suc, ◌+◌, ◌-◌, ◌≤◌, ◌<◌}
use native.Mathlib.Nat.{le_of_suc-le-suc, not-suc-le-zero}
use native.Mathlib.Omega.{arith}
use lib.Dec.{ltb, lit≤}
use borrow.Author.Tests.{ltb-true}
use lib.ListN.{length, get_or, take, drop, length-append, length-take, length-drop, take-append-drop, drop_of_length-le}
use lib.Seq.{take_at, drop_at, drop-cons}
use Rattle.des.specs.Bits.{xor_bits}
use Rattle.des.specs.Tables.{ip, ip_inverse}
use Rattle.des.specs.Des.{permute, cipher_function, swap, subkey, round, rounds, cipher, encipher_bits, decipher_bits}
use Rattle.des.specs.Words.{every, up_from}
use Rattle.des.proofs.MapLaws.{get_d_map, map-every}
use Rattle.des.proofs.BlockLaws.{Small, Block, small-append, small-take, small-drop, small_xor, small-permute, small-swap, length-permute, length_xor, length-f, length-swap}
use Rattle.des.proofs.KeyLaws.{cipher-by}

-- ---- one iteration on two halves

swap-halves : (a b : List ℕ) → length a ≡ 32 → swap 32 (a ++ b) ≡ b ++ a
unfolding swap
swap-halves a b h = ap₂ (λ (s t : List ℕ). s ++ t) (drop_at a b 32 h) (take_at a b 32 h)

round-halves : (k a b : List ℕ) → length a ≡ 32 → round k (a ++ b) ≡ b ++ xor_bits a (cipher_function b k)
unfolding round
round-halves k a b h =
    ap₂ (λ (s t : List ℕ). s ++ xor_bits t (cipher_function s k)) (drop_at a b 32 h) (take_at a b 32 h)

halves : (y : List ℕ) → y ≡ take 32 y ++ drop 32 y
halves y = sym (take-append-drop 32 y)

pub half_left : (y : List ℕ) → length y ≡ 64 → length (take 32 y) ≡ 32
half_left y h = omega (arith, length-take 32 y)

pub half_right : (y : List ℕ) → length y ≡ 64 → length (drop 32 y) ≡ 32
half_right y h = omega (arith, length-drop 32 y)

round-block : (k y : List ℕ) → Block 64 y → Block 64 (round k y)
unfolding round
round-block k y h =
    let f = cipher_function (drop 32 y) k in
    let l : length (take 32 y) ≤ length f = omega (arith, half_left y h.long, length-f (drop 32 y) k) in
    record {
      long = omega (arith, length-append (drop 32 y) (xor_bits (take 32 y) f), half_right y h.long, half_left y h.long, length_xor (take 32 y) f l);
      small = small-append (drop 32 y) (xor_bits (take 32 y) f) (small-drop 32 y h.small) (small_xor (take 32 y) f);
    }

pub rounds-block : (ks : ℕ → List ℕ) (n : ℕ) (y : List ℕ) → Block 64 y → Block 64 (rounds ks n y)
unfolding rounds
rounds-block ks zero y h = h
rounds-block ks (suc n) y h = round-block (ks n) (rounds ks n y) (rounds-block ks n y h)

-- ---- deciphering

xor_twice : (a b : List ℕ) → length a ≤ length b → Small a → xor_bits (xor_bits a b) b ≡ a
unfolding xor_bits
xor_twice [] b h s = refl
xor_twice (x ∷ a) [] h s = absurd (not-suc-le-zero h)
xor_twice (x ∷ a) (y ∷ b) h s =
    let x2 : x < 2 = s zero in
    ap₂ (λ (z : ℕ) (zs : List ℕ). z ∷ zs) (omega arith) (xor_twice a b (le_of_suc-le-suc h) (λ i. s (suc i)))

undo_one : (k a b : List ℕ) → length a ≡ 32 → length b ≡ 32 → Small a → round k (swap 32 (round k (a ++ b))) ≡ swap 32 (a ++ b)
undo_one k a b ha hb sa =
    let f = cipher_function b k in
    let l : length a ≤ length f = omega (arith, length-f b k) in
    let z : length (xor_bits a f) ≡ 32 = length_xor a f l ∙ ha in
    ap (λ (y : List ℕ). round k (swap 32 y)) (round-halves k a b ha)
    ∙ ap (round k) (swap-halves b (xor_bits a f) hb)
    ∙ round-halves k (xor_bits a f) b z
    ∙ ap (λ (y : List ℕ). b ++ y) (xor_twice a f l sa)
    ∙ sym (swap-halves a b ha)

undo_round : (k y : List ℕ) → Block 64 y → round k (swap 32 (round k y)) ≡ swap 32 y
undo_round k y h =
    subst⁻¹ (λ (l : List ℕ). round k (swap 32 (round k l)) ≡ swap 32 l) (halves y)
    (undo_one k (take 32 y) (drop 32 y) (half_left y h.long) (half_right y h.long) (small-take 32 y h.small))

rounds-none : (js : ℕ → List ℕ) (x : List ℕ) → rounds js 0 x ≡ x
unfolding rounds
rounds-none js x = refl

rounds_more : (js : ℕ → List ℕ) (m : ℕ) (x : List ℕ) → rounds js (suc m) x ≡ round (js m) (rounds js m x)
unfolding rounds
rounds_more js m x = refl

undo_rounds : (ks : ℕ → List ℕ) (y : List ℕ) → Block 64 y → (n : ℕ) → n ≤ 16
    → rounds (λ (m : ℕ). ks (15 - m)) n (swap 32 (rounds ks 16 y)) ≡ swap 32 (rounds ks (16 - n) y)
undo_rounds ks y h zero l = rounds-none (λ (m : ℕ). ks (15 - m)) (swap 32 (rounds ks 16 y))
undo_rounds ks y h (suc n) l =
    let e : 16 - n ≡ suc (15 - n) = omega arith in
    let d : 15 - n ≡ 16 - suc n = omega arith in
    rounds_more (λ (m : ℕ). ks (15 - m)) n (swap 32 (rounds ks 16 y))
    ∙ ap (round (ks (15 - n))) (undo_rounds ks y h n (omega arith) ∙ ap (λ (m : ℕ). swap 32 (rounds ks m y)) e ∙ ap (swap 32) (rounds_more ks (15 - n) y))
    ∙ undo_round (ks (15 - n)) (rounds ks (15 - n) y) (rounds-block ks (15 - n) y h)
    ∙ ap (λ (m : ℕ). swap 32 (rounds ks m y)) d

-- ---- IP and IP⁻¹

-- one table after another
pub compose : (s t x : List ℕ) → every (λ (k : ℕ). ltb (k - 1) (length t)) s ≡ true → permute s (permute t x) ≡ permute (map (λ (k : ℕ). get_or t (k - 1) 0) s) x
unfolding permute
compose s t x h =
    map-every (λ (k : ℕ). ltb (k - 1) (length t)) (λ (k : ℕ). get_or (map (λ (j : ℕ). get_or x (j - 1) 0) t) (k - 1) 0) (λ (k : ℕ). get_or x (get_or t (k - 1) 0 - 1) 0)
    (λ k l. get_d_map (λ (j : ℕ). get_or x (j - 1) 0) t (k - 1) (ltb-true (k - 1) (length t) l)) s h
    ∙ sym (map-map (λ (j : ℕ). get_or x (j - 1) 0) (λ (k : ℕ). get_or t (k - 1) 0) s)

up-all : (x : List ℕ) (n i : ℕ) → i + n ≡ length x → map (λ (k : ℕ). get_or x (k - 1) 0) (up_from (suc i) n) ≡ drop i x
up-all x zero i h =
    let l : length x ≤ i = omega arith in
    sym (drop_of_length-le x l)
up-all x (suc n) i h =
    let l : i < length x = omega arith in
    let z : suc i - 1 ≡ i = omega arith in
    let s : suc i + n ≡ length x = omega arith in
    ap₂ (λ (y : ℕ) (ys : List ℕ). y ∷ ys) (ap (λ (m : ℕ). get_or x m 0) z) (up-all x n (suc i) s) ∙ sym (drop-cons x i 0 l)

pub up_is : (n : ℕ) (x : List ℕ) → length x ≡ n → permute (up_from 1 n) x ≡ x
unfolding permute
up_is n x h = up-all x n 0 (omega arith)

pub after-ip : (x : List ℕ) → length x ≡ 64 → permute ip_inverse (permute ip x) ≡ x
unfolding ip ip_inverse
after-ip x h = compose ip_inverse ip x refl ∙ up_is 64 x h

pub before-ip : (x : List ℕ) → length x ≡ 64 → permute ip (permute ip_inverse x) ≡ x
unfolding ip ip_inverse
before-ip x h = compose ip ip_inverse x refl ∙ up_is 64 x h

pub ip-block : (x : List ℕ) → Block 64 x → Block 64 (permute ip x)
unfolding ip
ip-block x h = record { long = length-permute ip x; small = small-permute ip x h.small }

swap-twice : (y : List ℕ) → length y ≡ 64 → swap 32 (swap 32 y) ≡ y
swap-twice y h =
    ap (λ (l : List ℕ). swap 32 (swap 32 l)) (halves y) ∙ ap (swap 32) (swap-halves (take 32 y) (drop 32 y) (half_left y h))
    ∙ swap-halves (drop 32 y) (take 32 y) (half_right y h) ∙ sym (halves y)

cipher-back : (ks : ℕ → List ℕ) (bs : List ℕ) → Block 64 bs → cipher (λ (n : ℕ). ks (15 - n)) (cipher ks bs) ≡ bs
unfolding cipher
cipher-back ks bs h =
    let y = permute ip bs in
    let b : Block 64 y = ip-block bs h in
    let z = rounds ks 16 y in
    let zl : length z ≡ 64 = (rounds-block ks 16 y b).long in
    let sl : length (swap 32 z) ≡ 64 = length-swap 32 z ∙ zl in
    ap (λ (l : List ℕ). permute ip_inverse (swap 32 (rounds (λ (n : ℕ). ks (15 - n)) 16 l))) (before-ip (swap 32 z) sl)
    ∙ ap (λ (l : List ℕ). permute ip_inverse (swap 32 l)) (undo_rounds ks y b 16 (lit≤ tt) ∙ ap (swap 32) (rounds-none ks y))
    ∙ ap (permute ip_inverse) (swap-twice y b.long)
    ∙ after-ip bs h.long

pub cipher-block : (ks : ℕ → List ℕ) (bs : List ℕ) → Block 64 bs → Block 64 (cipher ks bs)
unfolding cipher ip_inverse
cipher-block ks bs h =
    let z = rounds ks 16 (permute ip bs) in
    let b : Block 64 z = rounds-block ks 16 (permute ip bs) (ip-block bs h) in
    record { long = length-permute ip_inverse (swap 32 z); small = small-permute ip_inverse (swap 32 z) (small-swap 32 z b.small) }

pub decipher_back : (key bs : List ℕ) → Block 64 bs → decipher_bits key (encipher_bits key bs) ≡ bs
unfolding encipher_bits decipher_bits
decipher_back key bs h = cipher-back (λ (n : ℕ). subkey key n) bs h

-- the reverse of the reverse order is the order
pub encipher_back : (key bs : List ℕ) → Block 64 bs → encipher_bits key (decipher_bits key bs) ≡ bs
unfolding encipher_bits decipher_bits
encipher_back key bs h =
    let ks : ℕ → List ℕ = λ n. subkey key (15 - n) in
    cipher-by (λ (n : ℕ). subkey key n) (λ (n : ℕ). ks (15 - n)) (cipher ks bs) (λ m l. ap (subkey key) (twice m l)) ∙ cipher-back ks bs h
  where
    twice : (m : ℕ) → m < 16 → m ≡ 15 - (15 - m)
    twice m l = omega arith
