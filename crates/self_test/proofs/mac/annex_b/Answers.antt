-- `self_test::mac::annex_b` meets its contract.
use mathlib.Core.Path.{◌≡◌, refl, sym, ◌∙◌}
use mathlib.Core.List.{[], ◌∷◌}
use lib.Dec.{lit<}
use lib.ListN.{length}
use borrow.Author.Tests.{eq-eqb}
use Rattle.octets.specs.Bytes.{part, bytes}
use Rattle.octets.proofs.NumberLaws.{bytes_one}
use Rattle.des.specs.Bits.{bits, bits_of_bytes}
use Rattle.authentication.specs.Mac.{block, padded}
use Rattle.authentication.proofs.Examples.{key, string, annex_b}
use Rattle.self_test.specs.Plain.{Blocks}
use Rattle.self_test.proofs.WordLaws.{key-words}
use native.Mathlib.Omega.{arith}
use Rattle.self_test.proofs.mac.annex_b.Goals as goal

string-long : length (padded string) ≡ 24
unfolding padded
string-long = refl

string-words : Blocks (padded string) 0x0001020304050607 0x08090a0b0c0d0e0f 0x1011121314000000
unfolding padded block part bits_of_bytes bits
string-words = record { first = refl; second = refl; third = refl }

word_bytes : bytes 8 0x361d431ed396c175 ≡ 0x36 ∷ 0x1d ∷ 0x43 ∷ 0x1e ∷ 0xd3 ∷ 0x96 ∷ 0xc1 ∷ 0x75 ∷ []
unfolding bytes
word_bytes = refl

pub returns : goal.returns
returns c =
    let r = c.fast_cbc_mac.result in
    eq-eqb r 0x361d431ed396c175
    (bytes_one 8 r 0x361d431ed396c175 (omega arith) (lit< tt) (c.fast_cbc_mac.ensures.by key (padded string) string-long key-words string-words ∙ annex_b ∙ sym word_bytes))
