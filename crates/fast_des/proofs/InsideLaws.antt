-- A block inside DES: what one word of each half becomes, and why the permutations between blocks cancel.
-- Assumes nothing.
use mathlib.Core.Path.{◌≡◌, refl, sym, ap, ap₂, ◌∙◌, subst, subst⁻¹}
use mathlib.Core.Bool.{Bool, true, false}
use mathlib.Core.List.{List, [], ◌∷◌, ◌++◌}
use Prim.Native.Nat.{ℕ, zero, suc, ◌+◌, ◌*◌, ◌/◌, ◌%◌, ◌^◌, ◌≤◌, ◌<◌}
use native.Mathlib.Omega.{arith}
use native.Mathlib.Numerals.{add-one}
use lib.Bits.{bit_or, bit_xor}
use lib.Dec.{lit≤}
use lib.ListN.{length, get_or, set, take, drop, length-append, length-set, take-append-drop}
use lib.Seq.{take_at, drop_at, get_or-set_same, get_or-set_other}
use Rattle.std.proofs.lemmas.List.{get_or_default}
use borrow.Author.Count.{below_more}
use native.Mathlib.Nat.{not-suc-le-zero}
use Rattle.des.specs.Bits.{bits, xor_bits}
use Rattle.des.specs.Tables.{e, p, ip, ip_inverse}
use Rattle.des.specs.Des.{permute, selects, cipher_function, swap, round, rounds, cipher}
use Rattle.des.specs.Words.{keys_of, Holds, turned}
use Rattle.fast_des.specs.Networks.{middle}
use Rattle.fast_des.specs.declared.Halves.{Halves}
use Rattle.fast_des.specs.Inside.{Sides, Entered, Leaves, Adds, Rounds, Iterates, Passes, EnciphersInside, DeciphersInside, Each}
use Rattle.des.proofs.BitLaws.{take-bits, drop_bits, length-bits, xor_bits_lem}
use Rattle.des.proofs.BlockLaws.{length-permute, length_xor, length-f}
use Rattle.des.proofs.KeyLaws.{enciphers, deciphers}
use Rattle.des.proofs.CipherLaws.{half_left, half_right, compose, up_is, before-ip, after-ip}
use Rattle.fast_des.proofs.LinearLaws.{permute_xor}
use Rattle.des.proofs.WordLaws.{pushed}

-- ---- one iteration

-- the words of two halves of one length, added
added : (a b : ℕ) (x y z : List ℕ) → length x ≡ length y → z ≡ xor_bits x y → bits 48 a ≡ permute e x → bits 48 b ≡ permute e y → bits 48 (bit_xor a b) ≡ permute e z
added a b x y z l d ha hb = xor_bits_lem 48 a b ∙ ap₂ xor_bits ha hb ∙ sym (permute_xor e x y l) ∙ ap (permute e) (sym d)

pub round-sides : (h r : Halves) (k q : ℕ) → Holds 48 q (permute e (permute p (selects 8 (bits 48 (bit_xor h.right k))))) → r.left ≡ h.right → r.right ≡ bit_xor h.left q → Rounds h k r
unfolding round cipher_function
round-sides h r k q o el er =
    record {
      by = λ lr s.
          let a = take 32 lr in
          let b = drop 32 lr in
          let f = cipher_function b (bits 48 k) in
          let la : length a ≡ 32 = half_left lr s.long in
          let lb : length b ≡ 32 = half_right lr s.long in
          let lf : length f ≡ 32 = length-f b (bits 48 k) in
          let x : length (xor_bits a f) ≡ 32 = length_xor a f (omega arith) ∙ la in
          let eq : bits 48 q ≡ permute e f = o.same ∙ ap (λ (y : List ℕ). permute e (permute p (selects 8 y))) (xor_bits_lem 48 h.right k ∙ ap (λ (y : List ℕ). xor_bits y (bits 48 k)) s.rights) in
          record {
            long = omega (arith, length-append b (xor_bits a f));
            lefts = ap (bits 48) el ∙ s.rights ∙ ap (permute e) (sym (take_at b (xor_bits a f) 32 lb));
            rights = ap (bits 48) er ∙ added h.left q a f (drop 32 (b ++ xor_bits a f)) (la ∙ sym lf) (drop_at b (xor_bits a f) 32 lb) s.lefts eq;
          };
    }

-- ---- the sixteen

pub iterate_none : (h : Halves) (keys : List ℕ) (back : Bool) → Iterates h keys back 0 h
unfolding rounds
iterate_none h keys back = record { by = λ lr s. s }

pub iterate_more : (h s r : Halves) (keys : List ℕ) (back : Bool) (n at : ℕ) → at ≡ turned back n → Iterates h keys back n s → Rounds s (get_or keys at 0) r → Iterates h keys back (n + 1) r
unfolding rounds
iterate_more h s r keys back n at e i o =
    record {
      by = λ lr b.
          subst (λ (m : ℕ). Sides r (rounds (keys_of keys back) m lr)) (sym (add-one n))
          (subst (λ (m : ℕ). Sides r (round (bits 48 (get_or keys m 0)) (rounds (keys_of keys back) n lr))) e (o.by (rounds (keys_of keys back) n lr) (i.by lr b)));
    }

-- ---- blocks side by side, one after another

-- R holds of the first k, and Q of the others
pub record Partly (R Q : Halves → Halves → Type 0) (k : ℕ) (hs rs : List Halves) : Type 0 where
  pub long : length rs ≡ length hs
  pub before : (i : ℕ) (h : Halves) → i < k → i < length hs → R (get_or hs i h) (get_or rs i h)
  pub behind : (i : ℕ) (h : Halves) → k ≤ i → i < length hs → Q (get_or hs i h) (get_or rs i h)

pub partly-none : (R Q : Halves → Halves → Type 0) (hs rs : List Halves) → Each Q hs rs → Partly R Q 0 hs rs
partly-none R Q hs rs o = record { long = o.long; before = λ i h l m. absurd (not-suc-le-zero l); behind = λ i h l m. o.by i h m }

pub partly-more : (R Q : Halves → Halves → Type 0) (k : ℕ) (hs rs : List Halves) (d r : Halves) → k < length hs → Partly R Q k hs rs → ((h : Halves) → Q h (get_or rs k d) → R h r) → Partly R Q (k + 1) hs (set rs k r)
partly-more R Q k hs rs d r l held o =
    record {
      long = length-set rs k r ∙ held.long;
      before =
          λ i h m b. below_more (λ (j : ℕ). j < length hs → R (get_or hs j h) (get_or (set rs k r) j h)) k
          (λ j lt w. subst⁻¹ (R (get_or hs j h)) (get_or-set_other rs k j r h (λ (p : j ≡ k). omega arith)) (held.before j h lt w))
          (λ w.
          subst⁻¹ (R (get_or hs k h)) (get_or-set_same rs k r h (omega (arith, held.long)))
          (o (get_or hs k h) (subst (Q (get_or hs k h)) (get_or_default rs k h d (omega (arith, held.long))) (held.behind k h (omega arith) w))))
          i m b;
      behind = λ i h m b. subst⁻¹ (Q (get_or hs i h)) (get_or-set_other rs k i r h (λ (p : i ≡ k). omega arith)) (held.behind i h (omega arith) b);
    }

pub partly-all : (R Q : Halves → Halves → Type 0) (k : ℕ) (hs rs : List Halves) → k ≡ length hs → Partly R Q k hs rs → Each R hs rs
partly-all R Q k hs rs e held = record { long = held.long; by = λ i h m. held.before i h (omega arith) m }

pub each-none : (keys : List ℕ) (back : Bool) (hs : List Halves) → Each (λ h r. Iterates h keys back 0 r) hs hs
each-none keys back hs = record { long = refl; by = λ i h m. iterate_none (get_or hs i h) keys back }

pub each-by : (R Q : Halves → Halves → Type 0) (hs rs : List Halves) → ((h r : Halves) → Q h r → R h r) → Each Q hs rs → Each R hs rs
each-by R Q hs rs f o = record { long = o.long; by = λ i h m. f (get_or hs i h) (get_or rs i h) (o.by i h m) }

-- ---- the halves exchanged; the inverse of IP, and IP of what comes next, cancel

pub passed : (h s r : Halves) (keys : List ℕ) (back : Bool) → Iterates h keys back 16 s → (r.left ≡ s.right) × (r.right ≡ s.left) → Passes h keys back r
unfolding cipher swap ip_inverse
passed h s r keys back i x =
    record {
      by = λ bs b.
          let z = rounds (keys_of keys back) 16 (permute ip bs) in
          let o : Sides s z = i.by (permute ip bs) b.sides in
          let d = drop 32 z in
          let ld : length d ≡ 32 = half_right z o.long in
          let ls : length (d ++ take 32 z) ≡ 64 = omega (arith, length-append d (take 32 z), half_left z o.long) in
          let c : d ++ take 32 z ≡ permute ip (cipher (keys_of keys back) bs) = sym (before-ip (d ++ take 32 z) ls) in
          record {
            long = length-permute ip_inverse (d ++ take 32 z);
            sides =
                subst (λ (m : List ℕ). Sides r m) c
                (record {
                  long = ls;
                  lefts = ap (bits 48) x.0 ∙ o.rights ∙ ap (permute e) (sym (take_at d (take 32 z) 32 ld));
                  rights = ap (bits 48) x.1 ∙ o.lefts ∙ ap (permute e) (sym (drop_at d (take 32 z) 32 ld));
                });
          };
    }

-- ---- in and out

pub enters : (x y : ℕ) (r : Halves) → Holds 64 y (permute ip (bits 64 x)) → Holds 48 r.left (permute e (bits 32 (y / 2 ^ 32))) → Holds 48 r.right (permute e (bits 32 y)) → Entered r (bits 64 x)
unfolding ip
enters x y r hy hl hr =
    record {
      long = length-bits 64 x;
      sides =
          record {
            long = length-permute ip (bits 64 x);
            lefts = hl.same ∙ ap (permute e) (sym (take-bits 32 32 y) ∙ ap (take 32) hy.same);
            rights = hr.same ∙ ap (permute e) (sym (drop_bits 32 32 y) ∙ ap (drop 32) hy.same);
          };
    }

-- the middle of each group of E is the half
pub middle_of : (h : List ℕ) → length h ≡ 32 → permute middle (permute e h) ≡ h
unfolding middle e
middle_of h l = compose middle e h refl ∙ up_is 32 h l

pub leaves : (h : Halves) (a b x : ℕ) → Holds 32 a (permute middle (bits 48 h.left)) → Holds 32 b (permute middle (bits 48 h.right))
    → Holds 64 x (permute ip_inverse (bits 64 (bit_or (a * 2 ^ 32 % 2 ^ 64) b))) → Leaves h x
leaves h a b x ha hb hx =
    record {
      by = λ bs o.
          let z = permute ip bs in
          let s = o.sides in
          hx.same
          ∙ ap (permute ip_inverse)
          ((pushed 32 32 (lit≤ tt) ha hb).same
          ∙ ap₂ (λ (u v : List ℕ). u ++ v) (ap (permute middle) s.lefts ∙ middle_of (take 32 z) (half_left z s.long)) (ap (permute middle) s.rights ∙ middle_of (drop 32 z) (half_right z s.long))
          ∙ take-append-drop 32 z)
          ∙ after-ip bs o.long;
    }

-- ---- two blocks added

take_xor : (n : ℕ) (a b : List ℕ) → take n (xor_bits a b) ≡ xor_bits (take n a) (take n b)
unfolding xor_bits
take_xor zero a b = refl
take_xor (suc n) [] b = refl
take_xor (suc n) (x ∷ a) [] = refl
take_xor (suc n) (x ∷ a) (y ∷ b) = ap (λ (t : List ℕ). ((x + y) % 2) ∷ t) (take_xor n a b)

xor_nil : (a : List ℕ) → xor_bits a [] ≡ []
unfolding xor_bits
xor_nil [] = refl
xor_nil (x ∷ a) = refl

drop_xor : (n : ℕ) (a b : List ℕ) → drop n (xor_bits a b) ≡ xor_bits (drop n a) (drop n b)
unfolding xor_bits
drop_xor zero a b = refl
drop_xor (suc n) [] b = refl
drop_xor (suc n) (x ∷ a) [] = sym (xor_nil (drop n a))
drop_xor (suc n) (x ∷ a) (y ∷ b) = drop_xor n a b

pub adds : (a b r : Halves) → r.left ≡ bit_xor a.left b.left → r.right ≡ bit_xor a.right b.right → Adds a b r
unfolding ip
adds a b r el er =
    record {
      by = λ xs ys hx hy.
          let u = permute ip xs in
          let v = permute ip ys in
          let same : length xs ≡ length ys = hx.long ∙ sym hy.long in
          let z : permute ip (xor_bits xs ys) ≡ xor_bits u v = permute_xor ip xs ys same in
          let sx = hx.sides in
          let sy = hy.sides in
          let ll : length (take 32 u) ≡ length (take 32 v) = half_left u sx.long ∙ sym (half_left v sy.long) in
          let lr : length (drop 32 u) ≡ length (drop 32 v) = half_right u sx.long ∙ sym (half_right v sy.long) in
          record {
            long = length_xor xs ys (omega arith) ∙ hx.long;
            sides =
                record {
                  long = length-permute ip (xor_bits xs ys);
                  lefts = ap (bits 48) el ∙ added a.left b.left (take 32 u) (take 32 v) _ ll (ap (take 32) z ∙ take_xor 32 u v) sx.lefts sy.lefts;
                  rights = ap (bits 48) er ∙ added a.right b.right (drop 32 u) (drop 32 v) _ lr (ap (drop 32) z ∙ drop_xor 32 u v) sx.rights sy.rights;
                };
          };
    }

-- ---- with the keys of a key

pub enciphers-inside : (h r : Halves) (keys : List ℕ) → Passes h keys false r → EnciphersInside h keys r
enciphers-inside h r keys o = record { by = λ key bs ks b. subst (λ (c : List ℕ). Entered r c) (enciphers key keys bs ks) (o.by bs b) }

pub deciphers-inside : (h r : Halves) (keys : List ℕ) → Passes h keys true r → DeciphersInside h keys r
deciphers-inside h r keys o = record { by = λ key bs ks b. subst (λ (c : List ℕ). Entered r c) (deciphers key keys bs ks) (o.by bs b) }
