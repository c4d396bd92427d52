-- Functions on words that are linear for `xor`: such a one permutes bits where it does so at 0 and at each power of two.
-- Assumes nothing.
use mathlib.Core.Path.{◌≡◌, refl, sym, ap, ap₂, ◌∙◌, subst, subst⁻¹}
use mathlib.Core.Bool.{Bool, true, ◌&&◌}
use mathlib.Core.List.{List, [], ◌∷◌}
use Prim.Native.Nat.{ℕ, zero, suc, ◌+◌, ◌-◌, ◌*◌, ◌/◌, ◌%◌, ◌^◌, ◌≤◌, ◌<◌, min}
use native.Mathlib.Nat.{mod-lt, add-zero, zero-mul, one-mul}
use native.Mathlib.Omega.{arith}
use native.Mathlib.Numerals.{one-add}
use lib.Arith.{bin_ind, lt-one}
use lib.Dec.{ltb, lit≤}
use borrow.Author.Tests.{ltb-true}
use lib.Pow.{pow_pos, shr_lt, split}
use lib.Bits.{bit_and, bit_xor, and_step, and_shr, xor_shr, xor_mod, xor_block, xor_comm, xor_shifted, xor_add_and}
use lib.ListN.{length, get_or}
use Rattle.octets.specs.Bytes.{same, all_below}
use Rattle.octets.proofs.BoolLaws.{and_left, and_right, all_below-at, same_true}
use Rattle.des.specs.Bits.{bits, xor_bits}
use Rattle.des.specs.Des.{permute, shift_both}
use Rattle.des.specs.Words.{up_from, Holds}
use Rattle.fast_des.specs.Networks.{exchange_bits, spread_parts, gather_parts, shift_parts}
use Rattle.des.proofs.MapLaws.{shift_map}
use Rattle.des.proofs.BitLaws.{length-bits, xor_digit, xor_bits_lem}
use Rattle.des.proofs.WordLaws.{recast, xored}
use Rattle.des.proofs.CipherLaws.{up_is}

-- ---- permutations of sums

get_d_xor : (a b : List ℕ) (i : ℕ) → length a ≡ length b → get_or (xor_bits a b) i 0 ≡ (get_or a i 0 + get_or b i 0) % 2
unfolding xor_bits
get_d_xor [] [] i h = refl
get_d_xor [] (y ∷ b) i h = absurd (omega arith)
get_d_xor (x ∷ a) [] i h = absurd (omega arith)
get_d_xor (x ∷ a) (y ∷ b) zero h = refl
get_d_xor (x ∷ a) (y ∷ b) (suc i) h = get_d_xor a b i (omega arith)

pub permute_xor : (t a b : List ℕ) → length a ≡ length b → permute t (xor_bits a b) ≡ xor_bits (permute t a) (permute t b)
unfolding permute xor_bits
permute_xor [] a b h = refl
permute_xor (k ∷ t) a b h = ap₂ (λ (z : ℕ) (zs : List ℕ). z ∷ zs) (get_d_xor a b (k - 1) h) (permute_xor t a b h)

-- ---- `xor` with itself, with `and` and with shifts, by halves and last digits

by-halves : (a b : ℕ) → a / 2 ≡ b / 2 → a % 2 ≡ b % 2 → a ≡ b
by-halves a b h d = omega arith

xor_half : (a b : ℕ) → bit_xor a b / 2 ≡ bit_xor (a / 2) (b / 2)
xor_half a b = xor_shr a b 1

and_half : (a m : ℕ) → bit_and a m / 2 ≡ bit_and (a / 2) (m / 2)
and_half a m = and_shr a m 1

and_digit : (a m : ℕ) → bit_and a m % 2 ≡ min (a % 2) (m % 2)
and_digit a m = omega (arith, and_step a m)

min-sum : (x y z : ℕ) → min ((x % 2 + y % 2) % 2) (z % 2) ≡ (min (x % 2) (z % 2) + min (y % 2) (z % 2)) % 2
min-sum x y z = omega arith

xor_assoc : (a b c : ℕ) → bit_xor (bit_xor a b) c ≡ bit_xor a (bit_xor b c)
xor_assoc =
    bin_ind (λ (n : ℕ). (b c : ℕ) → bit_xor (bit_xor n b) c ≡ bit_xor n (bit_xor b c)) (λ b c. refl)
    (λ n ih b c.
    by-halves (bit_xor (bit_xor n b) c) (bit_xor n (bit_xor b c)) (simp (xor_half, ih))
    (omega (arith, xor_add_and (bit_xor n b) c, xor_add_and n b, xor_add_and n (bit_xor b c), xor_add_and b c)))

and_xor : (a m b : ℕ) → bit_and (bit_xor a b) m ≡ bit_xor (bit_and a m) (bit_and b m)
and_xor =
    bin_ind (λ (n : ℕ). (m b : ℕ) → bit_and (bit_xor n b) m ≡ bit_xor (bit_and n m) (bit_and b m)) (λ m b. refl)
    (λ n ih m b.
    by-halves (bit_and (bit_xor n b) m) (bit_xor (bit_and n m) (bit_and b m)) (simp (xor_half, and_half, ih))
    (simp (and_digit, xor_digit) (min-sum n b m)))

xor_four : (a b c d : ℕ) → bit_xor (bit_xor a b) (bit_xor c d) ≡ bit_xor (bit_xor a c) (bit_xor b d)
xor_four a b c d =
    xor_assoc a b (bit_xor c d)
    ∙ ap (bit_xor a) (sym (xor_assoc b c d) ∙ ap (λ (x : ℕ). bit_xor x d) (xor_comm b c) ∙ xor_assoc c b d)
    ∙ sym (xor_assoc a c (bit_xor b d))

shl_xor : (k a b : ℕ) → bit_xor a b * 2 ^ k % 2 ^ 64 ≡ bit_xor (a * 2 ^ k % 2 ^ 64) (b * 2 ^ k % 2 ^ 64)
shl_xor k a b =
    ap (λ (n : ℕ). n % 2 ^ 64)
    (sym (add-zero (bit_xor a b * 2 ^ k)) ∙ sym (xor_block k a b 0 0 (pow_pos k) (pow_pos k)) ∙ ap₂ bit_xor (add-zero (a * 2 ^ k)) (add-zero (b * 2 ^ k)))
    ∙ xor_mod (a * 2 ^ k) (b * 2 ^ k) 64

-- ---- linear functions

pub record Linear (f : ℕ → ℕ) : Type 0 where
  pub sums : (a b : ℕ) → f (bit_xor a b) ≡ bit_xor (f a) (f b)

pub same-linear : Linear (λ (x : ℕ). x)
same-linear = record { sums = λ a b. refl }

pub xor_linear : {f g : ℕ → ℕ} → Linear f → Linear g → Linear (λ (x : ℕ). bit_xor (f x) (g x))
xor_linear {f} {g} lf lg = record { sums = λ a b. ap₂ bit_xor (lf.sums a b) (lg.sums a b) ∙ xor_four (f a) (f b) (g a) (g b) }

pub and_linear : (m : ℕ) {f : ℕ → ℕ} → Linear f → Linear (λ (x : ℕ). bit_and (f x) m)
and_linear m {f} l = record { sums = λ a b. ap (λ (x : ℕ). bit_and x m) (l.sums a b) ∙ and_xor (f a) m (f b) }

pub shl_linear : (k : ℕ) {f : ℕ → ℕ} → Linear f → Linear (λ (x : ℕ). f x * 2 ^ k % 2 ^ 64)
shl_linear k {f} l = record { sums = λ a b. ap (λ (x : ℕ). x * 2 ^ k % 2 ^ 64) (l.sums a b) ∙ shl_xor k (f a) (f b) }

pub shr_linear : (k : ℕ) {f : ℕ → ℕ} → Linear f → Linear (λ (x : ℕ). f x / 2 ^ k)
shr_linear k {f} l = record { sums = λ a b. ap (λ (x : ℕ). x / 2 ^ k) (l.sums a b) ∙ xor_shr (f a) (f b) k }

pub exchange_linear : (d m : ℕ) {f : ℕ → ℕ} → Linear f → Linear (λ (x : ℕ). exchange_bits d m (f x))
unfolding exchange_bits
exchange_linear d m l =
    let t : Linear _ = and_linear m (xor_linear (shr_linear d l) l) in
    xor_linear (xor_linear l t) (shl_linear d t)

pub spread_linear : (high n low : ℕ) {f : ℕ → ℕ} → Linear f → Linear (λ (x : ℕ). spread_parts high n low (f x))
unfolding spread_parts
spread_linear high n low l = xor_linear (shl_linear n (and_linear high l)) (and_linear low l)

pub gather_linear : (high n low : ℕ) {f : ℕ → ℕ} → Linear f → Linear (λ (x : ℕ). gather_parts high n low (f x))
unfolding gather_parts
gather_linear high n low l = xor_linear (shr_linear n (and_linear high l)) (and_linear low l)

-- ---- a linear function by its values at 0 and the powers of two

-- f does at x what the table says: v bits, of the w of x
abbrev permutes : ℕ → ℕ → List ℕ → (ℕ → ℕ) → ℕ → Bool
permutes v w t f x = ltb (f x) (2 ^ v) && same (bits v (f x)) (permute t (bits w x))

unfoldable pub permutes_powers : ℕ → ℕ → List ℕ → (ℕ → ℕ) → Bool
permutes_powers v w t f = permutes v w t f 0 && all_below 64 (λ (i : ℕ). permutes v w t f (2 ^ i))

module _ (v w : ℕ) (t : List ℕ) {f : ℕ → ℕ} (l : Linear f) (test : permutes_powers v w t f ≡ true) where
  passed : (x : ℕ) → permutes v w t f x ≡ true → Holds v (f x) (permute t (bits w x))
  passed x h =
      let small = ltb (f x) (2 ^ v) in
      let alike = same (bits v (f x)) (permute t (bits w x)) in
      record { fits = ltb-true (f x) (2 ^ v) (and_left small alike h); same = same_true (bits v (f x)) (permute t (bits w x)) (and_right small alike h) }

  at_zero : Holds v (f 0) (permute t (bits w 0))
  unfolding permutes_powers
  at_zero = passed 0 (and_left (permutes v w t f 0) (all_below 64 (λ (i : ℕ). permutes v w t f (2 ^ i))) test)

  at_power : (i : ℕ) → i < 64 → Holds v (f (2 ^ i)) (permute t (bits w (2 ^ i)))
  unfolding permutes_powers
  at_power i h =
      let each : ℕ → Bool = λ i. permutes v w t f (2 ^ i) in
      passed (2 ^ i) (all_below-at 64 i each (and_right (permutes v w t f 0) (all_below 64 each) test) h)

  -- one bit or none
  at-digit : (i q : ℕ) → i < 64 → q < 2 → Holds v (f (q * 2 ^ i)) (permute t (bits w (q * 2 ^ i)))
  at-digit i zero h hq = rw zero-mul at_zero
  at-digit i (suc zero) h hq = rw one-mul (at_power i h)
  at-digit i (suc (suc q)) h hq = absurd (omega arith)

  below : (n x : ℕ) → n ≤ 64 → x < 2 ^ n → Holds v (f x) (permute t (bits w x))
  below zero x h hx = subst⁻¹ (λ (y : ℕ). Holds v (f y) (permute t (bits w y))) (lt-one hx) at_zero
  below (suc n) x h hx =
      let top = x / 2 ^ n * 2 ^ n in
      let rest = x % 2 ^ n in
      let r : rest < 2 ^ n = mod-lt x (pow_pos n) in
      let e : bit_xor top rest ≡ x = xor_shifted (x / 2 ^ n) n rest r ∙ split x n in
      subst (λ (y : ℕ). Holds v (f y) (permute t (bits w y))) e
      (subst⁻¹ (λ (y : ℕ). Holds v y (permute t (bits w (bit_xor top rest)))) (l.sums top rest)
      (recast (xored v (at-digit n (x / 2 ^ n) (omega arith) (shr_lt 1 n (rw one-add hx))) (below n rest (omega arith) r))
      (sym (permute_xor t (bits w top) (bits w rest) (length-bits w top ∙ sym (length-bits w rest))) ∙ ap (permute t) (sym (xor_bits_lem w top rest)))))

  pub by_powers : (x : ℕ) {r : ℕ} → x < 2 ^ 64 → r ≡ f x → Holds v r (permute t (bits w x))
  by_powers x h e = rw e (below 64 x (lit≤ tt) h)

-- ---- left shifts

shift_permute : (n : ℕ) (t bs : List ℕ) → permute (shift_both n t) bs ≡ shift_both n (permute t bs)
unfolding permute
shift_permute n t bs = sym (shift_map (λ (k : ℕ). get_or bs (k - 1) 0) n t)

-- C and D shifted by each of the numbers, the last of them first
unfoldable pub along : List ℕ → List ℕ → List ℕ
along [] cd = cd
along (n ∷ ns) cd = shift_both n (along ns cd)

along-permute : (ns t bs : List ℕ) → permute (along ns t) bs ≡ along ns (permute t bs)
unfolding along
along-permute [] t bs = refl
along-permute (n ∷ ns) t bs = shift_permute n (along ns t) bs ∙ ap (shift_both n) (along-permute ns t bs)

-- as one permutation
pub along-table : (ns cd : List ℕ) → length cd ≡ 56 → along ns cd ≡ permute (along ns (up_from 1 56)) cd
along-table ns cd h = sym (along-permute ns (up_from 1 56) cd ∙ ap (along ns) (up_is 56 cd h))

pub shift_table : (n : ℕ) (cd : List ℕ) → length cd ≡ 56 → shift_both n cd ≡ permute (shift_both n (up_from 1 56)) cd
unfolding along
shift_table n cd h = along-table (n ∷ []) cd h

pub shift_word : (n high low : ℕ) → permutes_powers 56 56 (shift_both n (up_from 1 56)) (shift_parts n high low) ≡ true → (cd : ℕ) {r : ℕ} → cd < 2 ^ 64 → r ≡ shift_parts n high low cd
    → Holds 56 r (shift_both n (bits 56 cd))
unfolding shift_parts
shift_word n high low test cd h e =
    let linear : Linear (shift_parts n high low) = xor_linear (and_linear high (shl_linear n same-linear)) (and_linear low (shr_linear (28 - n) same-linear)) in
    recast (by_powers 56 56 (shift_both n (up_from 1 56)) linear test cd h e) (sym (shift_table n (bits 56 cd) (length-bits 56 cd)))
