use mathlib.Core.Path.{sym, ◌∙◌}
use Rattle.message.proofs.BodyLaws.{size_fits, fields_turn, fields-bad, fields-end}
use native.Mathlib.Omega.{arith}
use Rattle.message.proofs.body.fields_ok.Goals as goal

pub returns-in_default : goal.returns-in_default
returns-in_default c =
    let a = c.args in
    sym (c.loop.invariant.1 ∙ fields-bad a.command a.m.now c.loop.i a.n c.loop.counter c.loop-test.true (sym c.request_size.ensures ∙ c.in_default.is))

pub overflow_add-i : goal.overflow_add-i
overflow_add-i c =
    let a = c.args in
    omega (arith, size_fits a.command a.m.now c.loop.i c.in-Some.size (sym c.request_size.ensures ∙ c.in-Some.is))

pub loop-preserved : goal.loop-preserved
loop-preserved c =
    let a = c.args in
    let e = sym c.request_size.ensures ∙ c.in-Some.is in (
      size_fits a.command a.m.now c.loop.i c.in-Some.size e,
      c.loop.invariant.1 ∙ fields_turn a.command a.m.now c.loop.i a.n c.loop.counter c.in-Some.size c.loop-test.true e,
    )

pub returns : goal.returns
returns c =
    let a = c.args in
    sym (c.loop.invariant.1 ∙ fields-end a.command a.m.now c.loop.i a.n c.loop.counter c.loop-test.false)
