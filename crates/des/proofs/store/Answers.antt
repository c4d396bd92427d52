-- `des::store` meets its contract.
use mathlib.Core.Path.{sym, ◌∙◌}
use Rattle.octets.specs.Bytes.{bytes}
use Rattle.octets.proofs.SpliceLaws.{splice_all}
use Rattle.octets.proofs.NumberLaws.{length-bytes}
use Rattle.des.proofs.ByteLaws.{bytes_bits}
use Rattle.des.proofs.store.Goals as goal

pub returns : goal.returns
returns c =
    let x = c.args.x in
    c.put64.ensures ∙ splice_all _ (bytes 8 x) (sym (length-bytes 8 x)) ∙ sym (bytes_bits 8 x)
