-- `des::decipher` meets its contract.
use mathlib.Core.Path.{ap, ◌∙◌, subst}
use mathlib.Core.List.{List}
use Prim.Native.Nat.{ℕ}
use Rattle.des.specs.Bits.{bits_of_bytes, bytes_of_bits}
use Rattle.des.specs.Des.{decipher_bits, des_decipher}
use Rattle.des.specs.Words.{Keys}
use Rattle.des.proofs.KeyLaws.{deciphers}
use Rattle.des.proofs.decipher.Goals as goal

pub returns : goal.returns
unfolding des_decipher
returns c =
    let a = c.args in
    let key = bits_of_bytes a.key in
    let keys : Keys key c.schedule.result = subst (λ (l : List ℕ). Keys l c.schedule.result) c.load.ensures c.schedule.ensures in
    c.store.ensures
    ∙ ap (bytes_of_bits 8) (c.decipher_word.ensures ∙ deciphers key c.schedule.result _ keys ∙ ap (decipher_bits key) c.load-2.ensures)
