-- The claims of specs/Claims.antt.
-- Assumes nothing.
use mathlib.Core.Path.{◌≡◌, refl, sym, ap, ap₂, ◌∙◌}
use mathlib.Core.Bool.{Bool, true, ◌&&◌}
use mathlib.Core.List.{List}
use Prim.Native.Nat.{ℕ}
use lib.Dec.{eqb}
use borrow.Author.Tests.{eqb-true}
use lib.ListN.{length}
use Rattle.octets.specs.Bytes.{all_below}
use Rattle.octets.proofs.BoolLaws.{and_left, and_right, all_below-at}
use Rattle.des.specs.Bits.{bits_of_bytes, bytes_of_bits}
use Rattle.des.specs.Tables.{sboxes}
use Rattle.des.specs.Des.{encipher_bits, decipher_bits, des_encipher, des_decipher}
use Rattle.des.specs.Claims.{box_row, times, RowsArePermutations, Inverses, Block8, ParityFree, complement, Complements}
use Rattle.des.proofs.BlockLaws.{Block}
use Rattle.des.proofs.ByteLaws.{block_of_bytes, bytes_of_bits_lem, bits_of_bytes_lem}
use Rattle.des.proofs.CipherLaws.{cipher-block, decipher_back, encipher_back}
use Rattle.des.proofs.ParityLaws.{same_encipher, same_decipher, same-used}
use Rattle.des.proofs.ComplementLaws.{complement_bits, encipher_complement, decipher_complement, bits-complement, bytes-complement}

-- ---- the rows of the S-boxes: one test, computed over the table, and what it says of each row

once_each : ℕ → Bool
once_each i = all_below 16 (λ (v : ℕ). eqb (times v (box_row i)) 1)

row_test : ℕ → Bool
row_test i = eqb (length (box_row i)) 16 && once_each i

row_tests : all_below 32 row_test ≡ true
unfolding row_test once_each box_row times sboxes all_below
row_tests = refl

pub rows : RowsArePermutations
unfolding row_test once_each
rows =
    record {
      row = λ i h.
          let t : row_test i ≡ true = all_below-at 32 i row_test row_tests h in
          record {
            sixteen = eqb-true (length (box_row i)) 16 (and_left (eqb (length (box_row i)) 16) (once_each i) t);
            once = λ v l.
                eqb-true (times v (box_row i)) 1
                (all_below-at 16 v (λ (w : ℕ). eqb (times w (box_row i)) 1) (and_right (eqb (length (box_row i)) 16) (once_each i) t) l);
          };
    }

-- ---- inverses

-- what undoes f on blocks of 64 bits undoes it on eight bytes
undone : (f g : List ℕ → List ℕ) → ((bs : List ℕ) → Block 64 bs → Block 64 (f bs)) → ((bs : List ℕ) → Block 64 bs → g (f bs) ≡ bs) → (block : List ℕ) → Block8 block
    → bytes_of_bits 8 (g (bits_of_bytes (bytes_of_bits 8 (f (bits_of_bytes block))))) ≡ block
undone f g keeps back block h =
    let b : Block 64 (bits_of_bytes block) = block_of_bytes block h in
    let c : Block 64 (f (bits_of_bytes block)) = keeps (bits_of_bytes block) b in
    ap (λ (l : List ℕ). bytes_of_bits 8 (g l)) (bits_of_bytes_lem 8 (f (bits_of_bytes block)) c.long c.small)
    ∙ ap (bytes_of_bits 8) (back (bits_of_bytes block) b)
    ∙ ap (λ (n : ℕ). bytes_of_bits n (bits_of_bytes block)) (sym h.eight) ∙ bytes_of_bits_lem block h.bytes

pub inverses : Inverses
unfolding des_encipher des_decipher encipher_bits decipher_bits
inverses =
    record {
      decipher_encipher = λ key block h.
          undone (encipher_bits (bits_of_bytes key)) (decipher_bits (bits_of_bytes key)) (λ bs b. cipher-block _ bs b) (λ bs b. decipher_back (bits_of_bytes key) bs b) block h;
      encipher_decipher = λ key block h.
          undone (decipher_bits (bits_of_bytes key)) (encipher_bits (bits_of_bytes key)) (λ bs b. cipher-block _ bs b) (λ bs b. encipher_back (bits_of_bytes key) bs b) block h;
    }

-- ---- parity

pub parity_free : ParityFree
unfolding des_encipher des_decipher
parity_free =
    record {
      enciphers = λ a b block e. ap (bytes_of_bits 8) (same_encipher (bits_of_bytes a) (bits_of_bytes b) (bits_of_bytes block) (same-used a b e));
      deciphers = λ a b block e. ap (bytes_of_bits 8) (same_decipher (bits_of_bytes a) (bits_of_bytes b) (bits_of_bytes block) (same-used a b e));
    }

-- ---- complements

-- what holds of 64 bits holds of eight bytes
complemented : (f : List ℕ → List ℕ → List ℕ) → ((k : List ℕ) → Block 64 k → (b : List ℕ) → Block 64 b → f (complement_bits k) (complement_bits b) ≡ complement_bits (f k b))
    → ((k b : List ℕ) → Block 64 b → Block 64 (f k b)) → (key block : List ℕ) → Block8 key → Block8 block
    → bytes_of_bits 8 (f (bits_of_bytes (complement key)) (bits_of_bytes (complement block))) ≡ complement (bytes_of_bits 8 (f (bits_of_bytes key) (bits_of_bytes block)))
complemented f law keeps key block hk hb =
    let k = bits_of_bytes key in
    let b = bits_of_bytes block in
    let hb64 : Block 64 b = block_of_bytes block hb in
    ap (bytes_of_bits 8) (ap₂ f (bits-complement key hk.bytes) (bits-complement block hb.bytes) ∙ law k (block_of_bytes key hk) b hb64) ∙ bytes-complement 8 (f k b) (keeps k b hb64)

pub complements : Complements
unfolding des_encipher des_decipher encipher_bits decipher_bits
complements =
    record {
      enciphers = complemented encipher_bits encipher_complement (λ k bs b. cipher-block _ bs b);
      deciphers = complemented decipher_bits decipher_complement (λ k bs b. cipher-block _ bs b);
    }
