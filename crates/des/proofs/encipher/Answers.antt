-- `des::encipher` meets its contract.
use mathlib.Core.Path.{ap, ◌∙◌, subst}
use mathlib.Core.List.{List}
use Prim.Native.Nat.{ℕ}
use Rattle.des.specs.Bits.{bits_of_bytes, bytes_of_bits}
use Rattle.des.specs.Des.{encipher_bits, des_encipher}
use Rattle.des.specs.Words.{Keys}
use Rattle.des.proofs.KeyLaws.{enciphers}
use Rattle.des.proofs.encipher.Goals as goal

pub returns : goal.returns
unfolding des_encipher
returns c =
    let a = c.args in
    let key = bits_of_bytes a.key in
    let keys : Keys key c.schedule.result = subst (λ (l : List ℕ). Keys l c.schedule.result) c.load.ensures c.schedule.ensures in
    c.store.ensures
    ∙ ap (bytes_of_bits 8) (c.encipher_word.ensures ∙ enciphers key c.schedule.result _ keys ∙ ap (encipher_bits key) c.load-2.ensures)
