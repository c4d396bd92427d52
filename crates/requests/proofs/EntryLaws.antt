-- The peers that a request brings, as bytes and as numbers.
-- Assumes nothing.
use mathlib.Core.Path.{◌≡◌, refl, sym, ap, ◌∙◌}
use mathlib.Core.List.{List}
use Prim.Native.Nat.{ℕ, ◌*◌, ◌/◌, ◌%◌}
use native.Mathlib.Omega.{arith}
use lib.ListN.{length}
use Rattle.octets.specs.Bytes.{Bytes, part}
use Rattle.octets.specs.Words.{numbers, words}
use Rattle.octets.proofs.PartLaws.{part-whole}
use Rattle.octets.proofs.WordLaws.{part-words}

module _ (b : List ℕ) (w : length b % 4 ≡ 0) where
  pub peers-whole : 4 * (length b / 4) ≡ length b
  peers-whole = omega arith

  pub peers-words : Bytes b → b ≡ words (numbers b 0 (length b / 4))
  peers-words y =
      sym (part-whole b (length b) refl) ∙ ap (part b 0) (sym peers-whole) ∙ part-words b y (length b / 4) 0 (omega (arith, peers-whole))
