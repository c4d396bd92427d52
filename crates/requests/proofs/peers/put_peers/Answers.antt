-- `requests::peers::put_peers` meets its contract.
use mathlib.Core.Path.{refl, ap, ◌∙◌}
use lib.ListN.{length}
use Rattle.octets.specs.Bytes.{splice}
use Rattle.octets.proofs.PartLaws.{part-whole}
use Rattle.requests.proofs.EntryLaws.{peers-words}
use Rattle.requests.proofs.peers.put_peers.Goals as goal

pub returns : goal.returns
returns c =
    let a = c.args in
    let v = a.new.now in
    c.copy.ensures ∙ ap (splice a.s.now a.i) (part-whole v (length v) refl ∙ peers-words v c.requires.1 (λ j. (c.type_inv.new j).fits))
