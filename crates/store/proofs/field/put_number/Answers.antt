-- `store::field::put_number` meets its contract.
use mathlib.Core.Path.{ap, ◌∙◌}
use Rattle.octets.specs.Bytes.{splice}
use Rattle.octets.proofs.WordLaws.{be16_mod}
use Rattle.store.proofs.field.put_number.Goals as goal

pub returns : goal.returns
returns c =
    c.put16.ensures ∙ ap (splice c.args.s.now c.args.i) (be16_mod c.args.v)
