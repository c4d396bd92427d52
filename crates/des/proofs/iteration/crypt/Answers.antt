-- `des::iteration::crypt` meets its contract.
use mathlib.Core.Path.{ap, ◌∙◌}
use Rattle.des.specs.Tables.{ip_inverse}
use Rattle.des.specs.Des.{permute, swap, rounds, cipher}
use Rattle.des.specs.Words.{keys_of}
use Rattle.des.proofs.iteration.crypt.Goals as goal

pub returns : goal.returns
unfolding cipher
returns c =
    let a = c.args in
    c.inverse_initial.ensures.same
    ∙ ap (permute ip_inverse)
    (c.exchange.ensures ∙ ap (swap 32) (c.iterations-s.ensures ∙ ap (rounds (keys_of a.keys a.back) 16) c.initial.ensures.same))
