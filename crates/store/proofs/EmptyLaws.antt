-- The bytes of the empty store, written into a buffer of its length.
-- Assumes nothing.
use mathlib.Core.Path.{◌≡◌, refl, sym, ap, ap₂, ◌∙◌}
use mathlib.Core.List.{List, [], ◌++◌}
use Prim.Native.Nat.{ℕ, ◌+◌, ◌*◌}
use native.Mathlib.Nat.{sub-zero}
use native.Mathlib.Omega.{arith}
use lib.ListN.{length, replicate, length-replicate, replicate-append-replicate}
use Rattle.octets.specs.Bytes.{be16, splice}
use Rattle.octets.specs.Words.{words}
use Rattle.octets.proofs.SpliceLaws.{splice_all}
use Rattle.store.specs.Layout.{peers_at, total}
use Rattle.store.specs.Store.{header, key_records, peers_of, encode}
use Rattle.store.specs.declared.Limits.{Limits}

-- the four fixed header numbers, written over zeros
header-written : (L : Limits) (r : List ℕ)
    → splice (splice (splice (splice (replicate 12 0 ++ r) 0 (be16 L.edition)) 4 (be16 12)) 8 (be16 (peers_at L))) 10 (be16 (total L)) ≡ header L 0 0 ++ r
unfolding splice header
header-written L r = refl

encode-none : (L : Limits) → encode L [] ≡ header L 0 0 ++ (replicate (44 * L.keys) 0 ++ replicate (4 * L.peers) 0)
unfolding encode key_records peers_of words
encode-none L = rw (sub-zero L.keys, sub-zero L.peers)

zeros-cut : (K P n : ℕ) → n ≡ 12 + 44 * K + 4 * P → replicate {A = ℕ} n 0 ≡ replicate 12 0 ++ (replicate (44 * K) 0 ++ replicate (4 * P) 0)
zeros-cut K P n e =
    let f : n ≡ 12 + (44 * K + 4 * P) = omega arith in
    ap (λ (x : ℕ). replicate x 0) f
    ∙ sym (replicate-append-replicate {A = ℕ} 12 (44 * K + 4 * P) 0)
    ∙ ap (λ (x : List ℕ). replicate 12 0 ++ x) (sym (replicate-append-replicate {A = ℕ} (44 * K) (4 * P) 0))

pub empty-written : (L : Limits) (s t0 t1 t2 t3 t4 : List ℕ) → length s ≡ total L
    → t0 ≡ splice s 0 (replicate (length s) 0)
    → t1 ≡ splice t0 0 (be16 L.edition)
    → t2 ≡ splice t1 4 (be16 12)
    → t3 ≡ splice t2 8 (be16 (peers_at L))
    → t4 ≡ splice t3 10 (be16 (length s))
    → t4 ≡ encode L []
empty-written L s t0 t1 t2 t3 t4 h e0 e1 e2 e3 e4 =
    let z : t0 ≡ replicate 12 0 ++ (replicate (44 * L.keys) 0 ++ replicate (4 * L.peers) 0) =
    e0 ∙ splice_all s (replicate (length s) 0) (sym (length-replicate {A = ℕ} (length s) 0)) ∙ zeros-cut L.keys L.peers (length s) h in
    e4
    ∙ ap₂ (λ (x : List ℕ) (n : ℕ). splice x 10 (be16 n))
    (e3 ∙ ap (λ (x : List ℕ). splice x 8 (be16 (peers_at L)))
    (e2 ∙ ap (λ (x : List ℕ). splice x 4 (be16 12)) (e1 ∙ ap (λ (x : List ℕ). splice x 0 (be16 L.edition)) z))) h
    ∙ header-written L (replicate (44 * L.keys) 0 ++ replicate (4 * L.peers) 0)
    ∙ sym (encode-none L)
