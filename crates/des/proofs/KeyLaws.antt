-- The keys of the iterations: made one by one, and the order in which they are used.
-- Assumes nothing.
use mathlib.Core.Path.{◌≡◌, refl, ap, ap₂, ◌∙◌}
use mathlib.Core.Bool.{Bool, true, false}
use mathlib.Core.List.{List}
use Prim.Native.Nat.{ℕ, zero, suc, ◌+◌, ◌-◌, ◌≤◌, ◌<◌}
use native.Mathlib.Omega.{arith}
use borrow.Author.Count.{below_more}
use borrow.Author.Tests.{leb-true}
use lib.Dec.{leb}
use lib.ListN.{length, get_or, set}
use lib.Seq.{get_or-set_same, get_or-set_other}
use Rattle.des.specs.Bits.{bits}
use Rattle.des.specs.Tables.{ip, ip_inverse, shifts}
use Rattle.des.specs.Words.{Keys, turned, keys_of}
use Rattle.des.specs.Des.{permute, swap, shift_both, shifted, subkey, round, rounds, cipher, encipher_bits, decipher_bits}
use Rattle.des.proofs.MapLaws.{every-at}

rounds-by : (ks js : ℕ → List ℕ) (n : ℕ) (l : List ℕ) → ((m : ℕ) → m < n → ks m ≡ js m) → rounds ks n l ≡ rounds js n l
unfolding rounds
rounds-by ks js zero l h = refl
rounds-by ks js (suc n) l h = ap₂ round (h n (omega arith)) (rounds-by ks js n l (λ m k. h m (omega arith)))

pub keys_step : (key keys : List ℕ) (n q : ℕ) → n < length keys → ((m : ℕ) → m < n → bits 48 (get_or keys m 0) ≡ subkey key m) → bits 48 q ≡ subkey key n
    → (m : ℕ) → m < n + 1 → bits 48 (get_or (set keys n q) m 0) ≡ subkey key m
keys_step key keys n q h all e =
    below_more (λ (m : ℕ). bits 48 (get_or (set keys n q) m 0) ≡ subkey key m) n
    (λ m l. ap (bits 48) (get_or-set_other keys n m q 0 (λ (p : m ≡ n). omega arith)) ∙ all m l)
    (ap (bits 48) (get_or-set_same keys n q 0 h) ∙ e)

pub shifted_step : (key : List ℕ) (n cd d : ℕ) {s : ℕ} → s ≡ get_or shifts n 0 → bits 56 cd ≡ shifted key n → bits 56 d ≡ shift_both s (bits 56 cd)
    → bits 56 d ≡ shifted key (suc n)
unfolding shifted
shifted_step key n cd d hs h e = e ∙ ap₂ shift_both hs h

pub shifts_fit : (n : ℕ) → n < 16 → get_or shifts n 0 ≤ 28
unfolding shifts
shifts_fit n h = leb-true (get_or shifts n 0) 28 (every-at (λ (x : ℕ). leb x 28) shifts refl n h)

-- the place of a key, whatever the order
pub turned-below : (back : Bool) (n at : ℕ) → n < 16 → at ≡ turned back n → at < 16
turned-below true n at h e = omega arith
turned-below false n at h e = omega arith

-- a cipher looks at its sixteen keys alone
pub cipher-by : (ks js : ℕ → List ℕ) (x : List ℕ) → ((m : ℕ) → m < 16 → ks m ≡ js m) → cipher ks x ≡ cipher js x
unfolding cipher
cipher-by ks js x h = ap (λ (l : List ℕ). permute ip_inverse (swap 32 l)) (rounds-by ks js 16 (permute ip x) h)

-- with the sixteen keys of a key
pub enciphers : (key ks bs : List ℕ) → Keys key ks → cipher (keys_of ks false) bs ≡ encipher_bits key bs
unfolding encipher_bits
enciphers key ks bs h = cipher-by (keys_of ks false) (λ (n : ℕ). subkey key n) bs (λ m l. h.each m l)

pub deciphers : (key ks bs : List ℕ) → Keys key ks → cipher (keys_of ks true) bs ≡ decipher_bits key bs
unfolding decipher_bits
deciphers key ks bs h = cipher-by (keys_of ks true) (λ (n : ℕ). subkey key (15 - n)) bs (λ m l. h.each (15 - m) (omega arith))
