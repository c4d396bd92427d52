use native.Mathlib.Omega.{arith}
use mathlib.Core.Path.{refl, sym, ◌∙◌}
use Rattle.sheet.proofs.RowLaws.{fields_turn, fields-room, fields-end}
use Rattle.sheet.proofs.row.put_fields.Goals as goal

pub loop-n-init : goal.loop-n-init
loop-n-init c = (refl, refl)

pub put_field-end-requires : goal.put_field-end-requires
put_field-end-requires c =
    let a = c.args in
    omega (arith, fields-room a.numbers.now c.loop-n.n-index (omega arith), c.loop-n.invariant.1, c.requires, c.loop-n.auto.out)

pub loop-n-preserved : goal.loop-n-preserved
loop-n-preserved c =
    let a = c.args in
    let v = c.loop-n.invariant in
    let t = fields_turn c.loop-n.out c.put_field-end.new.out a.numbers.now c.loop-n.«end» c.put_field-end.result c.loop-n.n-index (omega arith) (omega (arith, v.1, c.loop-n.auto.out, c.requires)) c.put_field-end.ensures.0 c.put_field-end.ensures.1 in
    (v.0 ∙ t.0, t.1 ∙ v.1)

pub returns : goal.returns
returns c =
    let a = c.args in
    let v = c.loop-n.invariant in
    let t = fields-end c.loop-n.out a.numbers.now c.loop-n.«end» c.loop-n.n-index (omega arith) in
    (sym (v.0 ∙ t.0), sym t.1 ∙ v.1)
