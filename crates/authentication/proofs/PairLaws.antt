-- The string of the MAC: its parts and its length. It tells the destination and the message that it was made of, and so has one such pair.
-- Assumes nothing.
use mathlib.Core.Path.{◌≡◌, refl, sym, ap, ◌∙◌}
use mathlib.Core.List.{List, [], ◌++◌, append_assoc}
use Prim.Native.Nat.{ℕ, ◌+◌, ◌-◌, ◌*◌, ◌/◌, ◌%◌}
use native.Mathlib.Omega.{arith}
use lib.ListN.{length, get_or, replicate, length-append, length-replicate}
use lib.Seq.{drop_at}
use Rattle.octets.specs.Bytes.{be16, part, all_zero}
use Rattle.octets.proofs.PartLaws.{part-long, part_mid, all_zero-replicate}
use Rattle.authentication.specs.Mac.{unpadded, padded, mac_string}
use Rattle.authentication.specs.Claims.{TellsPair}

-- how many bytes of padding stand behind s, and the padding
abbrev fill : List ℕ → ℕ
fill s = (8 - length s % 8) % 8

abbrev padding : List ℕ → List ℕ
padding s = replicate (fill s) 0

module _ (d m : List ℕ) (three : length d ≡ 3) where
  -- l | DA | m | p
  string-parts : mac_string d m ≡ be16 (length (d ++ m)) ++ (d ++ (m ++ padding (unpadded d m)))
  unfolding mac_string padded unpadded
  string-parts = simp append_assoc

  length-unpadded : length (unpadded d m) ≡ length m + 5
  unfolding unpadded
  length-unpadded = omega (arith, length-append d m)

  pub length-string : length (mac_string d m) ≡ 8 * ((length m + 12) / 8)
  unfolding mac_string padded
  length-string = omega (arith, length-unpadded, length-append (unpadded d m) (padding (unpadded d m)), length-replicate {A = ℕ} (fill (unpadded d m)) 0)

  pub string-tells-pair : TellsPair d m (mac_string d m)
  unfolding mac_string padded
  string-tells-pair =
      let l = length (d ++ m) in
      let p = padding (unpadded d m) in
      let n : l ≡ length m + 3 = omega (arith, length-append d m) in
      record {
        l = ap (λ (s : List ℕ). part s 0 2) string-parts ∙ part_mid [] (be16 l) (d ++ (m ++ p)) 0 2 refl refl ∙ ap be16 n;
        da = ap (λ (s : List ℕ). part s 2 3) string-parts ∙ part_mid (be16 l) d (m ++ p) 2 3 refl three;
        unit = ap (λ (s : List ℕ). part s 5 (length m)) string-parts ∙ part_mid (be16 l ++ d) m p 5 (length m) (omega arith) refl;
        zeros = ap all_zero (drop_at (unpadded d m) p (length m + 5) length-unpadded) ∙ all_zero-replicate (fill (unpadded d m));
        few = omega (arith, length-string);
        whole = omega (arith, length-string);
      }

-- a string tells one pair: its length leaves the message's eight choices, and l takes one of them
pub one_told : {d e m n s : List ℕ} → TellsPair d m s → TellsPair e n s → (d ≡ e) × (m ≡ n)
one_told {m = m} {n = n} {s = s} t u =
    let low : (length m + 3) % 256 ≡ (length n + 3) % 256 = ap (λ (v : List ℕ). get_or v 1 0) (sym t.l ∙ u.l) in
    let k : length m ≡ length n =
    omega (arith, t.few, u.few, part-long s 5 (length m), part-long s 5 (length n), ap length t.unit, ap length u.unit) in
    (sym t.da ∙ u.da, sym t.unit ∙ ap (part s 5) k ∙ u.unit)
