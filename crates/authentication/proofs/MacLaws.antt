-- The chain of blocks inside DES, the MAC, and two MACs compared as words.
-- Assumes nothing.
use mathlib.Core.Path.{◌≡◌, refl, sym, ap, ap₂, ◌∙◌, subst}
use mathlib.Core.Bool.{Bool, true, false}
use mathlib.Core.List.{List}
use Prim.Native.Nat.{ℕ, ◌+◌, ◌*◌, ◌/◌, ◌^◌, ◌≤◌, ◌<◌}
use native.Mathlib.Numerals.{add-one}
use native.Mathlib.Omega.{arith}
use lib.Dec.{eqb}
use lib.ListN.{length}
use borrow.Author.Tests.{eqb-true, eqb-false}
use Rattle.octets.specs.Bytes.{Bytes, bytes, number, same}
use Rattle.octets.proofs.BoolLaws.{same_refl, same_true}
use Rattle.octets.proofs.NumberLaws.{part_bytes, bytes_one}
use Rattle.octets.proofs.PartLaws.{part-whole}
use Rattle.des.specs.Bits.{bits, xor_bits, bytes_of_bits}
use Rattle.des.specs.Des.{decipher_bits}
use Rattle.des.specs.Words.{Keys}
use Rattle.fast_des.specs.declared.Halves.{Halves}
use Rattle.fast_des.specs.Inside.{Entered, Leaves, Adds, EnciphersInside, DeciphersInside}
use Rattle.des.proofs.ByteLaws.{bytes_bits, length-bytes_of_bits}
use Rattle.authentication.specs.Mac.{block, chain, finish, cbc_mac, mac_string, mac}
use Rattle.authentication.proofs.PairLaws.{length-string}
use Rattle.authentication.proofs.StringLaws.{block-number}

-- ---- the chain, of blocks inside DES

pub chain-start : (k1 s : List ℕ) (h : Halves) → Entered h (bits 64 0) → Entered h (chain k1 s 0)
unfolding chain
chain-start k1 s h o = o

-- block k of a string, inside DES
pub block_entered : (s : List ℕ) (k x : ℕ) (h : Halves) → 8 * k + 8 ≤ length s → x ≡ number 8 s (8 * k) → Entered h (bits 64 x) → Entered h (block s k)
block_entered s k x h l e b = subst (λ (bs : List ℕ). Entered h bs) (block-number s k x l e) b

pub chain-step : (k1 s keys : List ℕ) (k : ℕ) (h b sum r : Halves) → Keys k1 keys → Entered h (chain k1 s k) → Entered b (block s k) → Adds h b sum → EnciphersInside sum keys r
    → Entered r (chain k1 s (k + 1))
unfolding chain
chain-step k1 s keys k h b sum r ks eh eb a p =
    subst (λ (n : ℕ). Entered r (chain k1 s n)) (sym (add-one k)) (p.by k1 (xor_bits (chain k1 s k) (block s k)) ks (a.by (chain k1 s k) (block s k) eh eb))

-- ---- the schedules of a triple key

pub keyed : (key ks : List ℕ) (n x : ℕ) → 8 * n + 8 ≤ length key → x ≡ number 8 key (8 * n) → Keys (bits 64 x) ks → Keys (block key n) ks
keyed key ks n x h e k = subst (λ (l : List ℕ). Keys l ks) (block-number key n x h e) k

-- ---- the MAC: the chain, the two last steps, and out of DES

pub mac_of_lem : (key d m k2 k3 : List ℕ) (h u v : Halves) (x : ℕ) → length d ≡ 3 → Entered h (chain (block key 0) (mac_string d m) ((length m + 12) / 8)) → Keys (block key 1) k2
    → DeciphersInside h k2 u → Keys (block key 2) k3 → EnciphersInside u k3 v → Leaves v x → bytes 8 x ≡ mac key d m
unfolding mac cbc_mac finish
mac_of_lem key d m k2 k3 h u v x three eh s2 p2 s3 p3 out =
    let n : (length m + 12) / 8 ≡ length (mac_string d m) / 8 = omega (arith, length-string d m three) in
    let c = chain (block key 0) (mac_string d m) ((length m + 12) / 8) in
    sym (bytes_bits 8 x)
    ∙ ap (bytes_of_bits 8)
    (out.by (finish key c) (p3.by (block key 2) (decipher_bits (block key 1) c) s3 (p2.by (block key 1) c s2 eh)) ∙ ap (λ (k : ℕ). finish key (chain (block key 0) (mac_string d m) k)) n)

pub length-mac : (key destination m : List ℕ) → length (mac key destination m) ≡ 8
unfolding mac cbc_mac
length-mac key destination m = length-bytes_of_bits 8 _

-- ---- words are equal exactly where their bytes are

words_same : (x y : ℕ) → x < 2 ^ 64 → y < 2 ^ 64 → eqb x y ≡ same (bytes 8 x) (bytes 8 y)
words_same x y hx hy = go (eqb x y) (same (bytes 8 x) (bytes 8 y)) refl refl
  where
    go : (a b : Bool) → eqb x y ≡ a → same (bytes 8 x) (bytes 8 y) ≡ b → a ≡ b
    go true true p q = refl
    go true false p q =
        let s : same (bytes 8 x) (bytes 8 y) ≡ true = subst (λ (n : ℕ). same (bytes 8 x) (bytes 8 n) ≡ true) (eqb-true x y p) (same_refl (bytes 8 x)) in
        sym s ∙ q
    go false true p q = absurd (eqb-false x y p (bytes_one 8 x y hx hy (same_true (bytes 8 x) (bytes 8 y) q)))
    go false false p q = refl

-- two MACs as words, the second read from the bytes that were sent
pub macs-same : (sent m : List ℕ) (made x : ℕ) → Bytes sent → length sent ≡ 8 → made < 2 ^ 64 → x < 2 ^ 64 → bytes 8 made ≡ m → x ≡ number 8 sent 0
    → eqb made x ≡ same m sent
macs-same sent m made x b l hx hy ex ey =
    let e : bytes 8 x ≡ sent = ap (bytes 8) ey ∙ sym (part_bytes 8 sent 0 b (omega arith)) ∙ part-whole sent 8 l in
    words_same made x hx hy ∙ ap₂ same ex e

-- and what has not eight bytes is no MAC
pub mac_long : (key destination m sent : List ℕ) → (length sent ≡ 8 → ⊥) → false ≡ same (mac key destination m) sent
mac_long key destination m sent h = go (same (mac key destination m) sent) refl
  where
    go : (b : Bool) → same (mac key destination m) sent ≡ b → false ≡ b
    go true e = absurd (h (sym (ap length (same_true (mac key destination m) sent e)) ∙ length-mac key destination m))
    go false e = refl
