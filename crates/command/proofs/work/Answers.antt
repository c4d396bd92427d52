use Rattle.std.proofs.Common.{rules, arith, ◌∙◌, sym}
use Rattle.command.proofs.ReadLaws.{stands, same_size}
use Rattle.command.proofs.WorkLaws.{going_start, going_sound, next-ok, next_fits, going_turn, going_end}
use Rattle.command.proofs.work.Goals as goal

pub loop-k-init : goal.loop-k-init
loop-k-init c = going_start _ _ _ _ _ _ _ (search rules) c.requires.s_value c.requires.n_value

pub request_size-requires : goal.request_size-requires
request_size-requires c = omega (arith, next_fits _ _ _ _ _ _ _ _ _ _ _ c.loop-k.invariant c.loop-k-test.true)

pub unwrap-size-requires : goal.unwrap-size-requires
unwrap-size-requires c =
    let w = c.loop-k.invariant in
    let l = c.loop-k-test.true in
    rw (c.request_size.ensures, stands c.args.command c.args.m.now c.loop-k.i (next-ok _ _ _ _ _ _ _ _ _ _ _ w l) (next_fits _ _ _ _ _ _ _ _ _ _ _ w l))

pub one-requires-clause-s_value : goal.one-requires-clause-s_value
one-requires-clause-s_value c = going_sound _ _ _ _ _ _ _ c.requires.bounded _ _ _ _ c.loop-k.invariant

pub one-requires-clause-i_in_bounds : goal.one-requires-clause-i_in_bounds
one-requires-clause-i_in_bounds c = next_fits _ _ _ _ _ _ _ _ _ _ _ c.loop-k.invariant c.loop-k-test.true

pub overflow_add-i : goal.overflow_add-i
overflow_add-i c =
    let w = c.loop-k.invariant in
    let l = c.loop-k-test.true in
    let fits = next_fits _ _ _ _ _ _ _ _ _ _ _ w l in
    let size = same_size _ _ _ (next-ok _ _ _ _ _ _ _ _ _ _ _ w l) fits _ (sym c.request_size.ensures ∙ c.unwrap-size.ensures) in
    omega (arith, fits, size)

pub loop-k-preserved : goal.loop-k-preserved
loop-k-preserved c =
    let w = c.loop-k.invariant in
    let l = c.loop-k-test.true in
    let size = same_size _ _ _ (next-ok _ _ _ _ _ _ _ _ _ _ _ w l) (next_fits _ _ _ _ _ _ _ _ _ _ _ w l) _ (sym c.request_size.ensures ∙ c.unwrap-size.ensures) in
    going_turn _ _ _ _ _ _ _ _ _ _ _ w l c.requires.bounded (λ j. (c.type_inv.m j).fits) c.loop-k.auto.out c.requires.n_in_bounds _ _ _ size (rw c.result_number.ensures c.one.ensures)

pub returns : goal.returns
returns c = going_end _ _ _ _ _ _ _ _ _ _ _ c.loop-k.invariant c.loop-k-test.false
