-- `convert::write` meets its contract.
use mathlib.Core.Path.{◌∙◌}
use native.Mathlib.Omega.{arith}
use Rattle.store.specs.Store.{entries}
use Rattle.store.proofs.SoundLaws.{sound_says}
use Rattle.convert.proofs.ConvertLaws.{room_says, records_lie, peers_lie, copied}
use Rattle.convert.proofs.write.Goals as goal

pub number_at-n-requires : goal.number_at-n-requires
number_at-n-requires c =
    let w = sound_says c.args.source c.args.from.now c.requires.from_value in
    omega (arith, w.size)

pub number_at-m-requires : goal.number_at-m-requires
number_at-m-requires c =
    let w = sound_says c.args.source c.args.from.now c.requires.from_value in
    omega (arith, w.size)

-- the header once written, the target is as long as it was
pub copy-requires : goal.copy-requires
copy-requires c =
    let a = c.args in
    let long = c.put_number-2.auto.s ∙ c.put_number.auto.s ∙ c.write_empty.auto.s ∙ c.requires.bounded.2 in
    let l = records_lie a.source a.target a.from.now c.put_number-2.new.s c.requires.from_value c.requires.from_value_2 long c.number_at-n.result c.number_at-n.ensures.0 in
    (omega (arith, l.0), omega (arith, l.1))

pub copy-requires-2 : goal.copy-requires-2
copy-requires-2 c =
    let a = c.args in
    let long = c.copy.auto.s ∙ c.put_number-2.auto.s ∙ c.put_number.auto.s ∙ c.write_empty.auto.s ∙ c.requires.bounded.2 in
    let l = peers_lie a.source a.target a.from.now c.copy.new.s c.requires.from_value c.requires.from_value_2 long c.number_at-m.result c.number_at-m.ensures.0 in
    (omega (arith, l.0), omega (arith, l.1))

pub returns : goal.returns
returns c =
    let a = c.args in
    copied a.source a.target a.from.now (λ j. (c.type_inv.from j).fits) c.requires.from_value (room_says a.target (entries a.source a.from.now) c.requires.from_value_2)
    c.number_at-n.result c.number_at-m.result c.write_empty.new.s c.put_number.new.s c.put_number-2.new.s c.copy.new.s c.copy-2.new.s c.number_at-n.ensures.0 c.number_at-m.ensures.0
    c.write_empty.ensures c.put_number.ensures c.put_number-2.ensures c.copy.ensures c.copy-2.ensures
