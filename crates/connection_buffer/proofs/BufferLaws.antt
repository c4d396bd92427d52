-- Laws of a connection as bytes.
-- Assumes nothing.
use mathlib.Core.Path.{◌≡◌, refl, sym, ap, ◌∙◌}
use mathlib.Core.List.{List, [], ◌++◌, append_assoc}
use Prim.Native.Nat.{ℕ, ◌+◌, ◌≤◌}
use native.Mathlib.Omega.{arith}
use lib.ListN.{length, replicate, set, length-append, length-replicate}
use Rattle.octets.specs.Bytes.{be32, part, splice}
use Rattle.octets.proofs.PartLaws.{part_length, part-whole}
use Rattle.octets.proofs.SpliceLaws.{splice_all, splice_mid}
use Rattle.authentication.specs.Unit.{flag}
use Rattle.table.specs.declared.Connection.{Connection}
use Rattle.connection_buffer.specs.ConnectionBuffer.{head, connection_bytes}

-- ---- a part, copied out

-- ---- the first twelve, written

pub head-written : (state role own peer : ℕ) {one two : List ℕ} → one ≡ splice (set (set (replicate 12 0) 0 state) 1 role) 4 (be32 own) → two ≡ splice one 8 (be32 peer)
    → two ≡ head state role own peer
unfolding splice
head-written state role own peer p q = q ∙ ap (λ (b : List ℕ). splice b 8 (be32 peer)) p

-- ---- the bytes, joined

-- a list of k bytes, copied behind a over as many bytes x
copied : (a x rest v b s : List ℕ) (i k : ℕ) → length a ≡ i → length x ≡ k → length v ≡ k → b ≡ a ++ (x ++ rest) → s ≡ splice b i (part v 0 k) → s ≡ a ++ (v ++ rest)
copied a x rest v b s i k p q r e f =
    f ∙ ap (λ (y : List ℕ). splice y i (part v 0 k)) e ∙ ap (λ (y : List ℕ). splice (a ++ (x ++ rest)) i y) (part-whole v k r) ∙ splice_mid a x rest v i p (q ∙ sym r)

pub filled : (front ra rb key one two three four : List ℕ) → length front ≡ 12 → length ra ≡ 8 → length rb ≡ 8 → length key ≡ 24
    → one ≡ splice (replicate 64 0) 0 (part front 0 12) → two ≡ splice one 12 (part ra 0 8) → three ≡ splice two 20 (part rb 0 8) → four ≡ splice three 28 (part key 0 24)
    → four ≡ front ++ (ra ++ (rb ++ (key ++ replicate 12 0)))
filled front ra rb key one two three four l m n o p q r t =
    let z : ℕ → List ℕ = λ k. replicate k 0 in
    let e1 : one ≡ front ++ (z 8 ++ z 44) = copied [] (z 12) (z 52) front (z 64) one 0 12 refl refl l refl p in
    let e2 : two ≡ (front ++ ra) ++ (z 8 ++ z 36) = copied front (z 8) (z 44) ra one two 12 8 l refl m e1 q ∙ sym (append_assoc front ra (z 44)) in
    let lf : length (front ++ ra) ≡ 20 = omega (arith, length-append front ra) in
    let e3 : three ≡ (front ++ (ra ++ rb)) ++ (z 24 ++ z 12) =
    copied (front ++ ra) (z 8) (z 36) rb two three 20 8 lf refl n e2 r ∙ regroup front ra rb (z 36) in
    let lg : length (front ++ (ra ++ rb)) ≡ 28 = omega (arith, length-append front (ra ++ rb), length-append ra rb) in
    copied (front ++ (ra ++ rb)) (z 24) (z 12) key three four 28 24 lg refl o e3 t ∙ regroup' front ra rb (key ++ z 12)
  where
    regroup : (a b c d : List ℕ) → (a ++ b) ++ (c ++ d) ≡ (a ++ (b ++ c)) ++ d
    regroup a b c d = simp append_assoc

    regroup' : (a b c d : List ℕ) → (a ++ (b ++ c)) ++ d ≡ a ++ (b ++ (c ++ d))
    regroup' a b c d = simp append_assoc
