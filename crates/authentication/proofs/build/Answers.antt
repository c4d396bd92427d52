-- `authentication::build` meets its contract. Each test decides one case of the definition.
use mathlib.Core.Path.{sym, ap, ◌∙◌}
use mathlib.Core.List.{List}
use Prim.Native.Nat.{ℕ}
use Rattle.std.proofs.lemmas.Result.{err_from_is_err_and}
use Rattle.octets.specs.Bytes.{splice}
use Rattle.authentication.specs.Unit.{unit_of}
use Rattle.authentication.proofs.AnswerLaws.{build_key_wrong, build_out_wrong, build_data_wrong, build_right}
use Rattle.authentication.proofs.build.Goals as goal

pub returns-in_err-key : goal.returns-in_err-key
returns-in_err-key c =
    let a = c.args in
    let h = c.in_err-key.ensures.err in
    let p = err_from_is_err_and c.from_residual.result c.from_residual.ensures.1 in
    rw (p.1, p.2, h.0) (build_key_wrong a.key.now a.destination a.direction a.user.now a.out.now h.1)

pub returns-then-out-lt-UNIT_MOST : goal.returns-then-out-lt-UNIT_MOST
returns-then-out-lt-UNIT_MOST c =
    let a = c.args in
    build_out_wrong a.key.now a.destination a.direction a.user.now a.out.now c.in_ok-key.ensures.ok.1 c.if-out-lt-UNIT_MOST.true

pub returns-then-not-between : goal.returns-then-not-between
returns-then-not-between c =
    let a = c.args in
    build_data_wrong a.key.now a.destination a.direction a.user.now a.out.now c.in_ok-key.ensures.ok.1 c.if-out-lt-UNIT_MOST.false (sym c.between.ensures ∙ c.if-not-between.true)

pub returns : goal.returns
returns c =
    let a = c.args in
    let k = c.in_ok-key.ensures.ok in
    build_right a.key.now a.destination a.direction a.user.now a.out.now c.put_unit.new.out k.1 c.if-out-lt-UNIT_MOST.false (sym c.between.ensures ∙ c.if-not-between.false)
    (c.put_unit.ensures ∙ ap (λ (x : List ℕ). splice a.out.now 0 (unit_of x a.destination a.direction a.user.now)) k.0)
