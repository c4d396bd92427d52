-- `depot::added` meets its contract.
use Rattle.std.proofs.Common.{sym, ◌∙◌, arith}
use Rattle.depot.specs.Claims.{Within}
use Rattle.depot.proofs.CountLaws.{given, refused}
use Rattle.depot.proofs.added.Goals as goal

pub returns-in_err-checked_add : goal.returns-in_err-checked_add
returns-in_err-checked_add c =
    c.from_residual.ensures ∙ sym (refused c.args.a c.args.b (λ w. c.in_err-checked_add.ensures (omega (arith, w.held))))

pub returns-in_err-checked_add-2 : goal.returns-in_err-checked_add-2
returns-in_err-checked_add-2 c =
    c.from_residual-in_err-checked_add-2.ensures ∙ sym (refused c.args.a c.args.b (λ w. c.in_err-checked_add-2.ensures (omega (arith, w.fit))))

pub returns-in_err-checked_add-3 : goal.returns-in_err-checked_add-3
returns-in_err-checked_add-3 c =
    c.from_residual-in_err-checked_add-3.ensures ∙ sym (refused c.args.a c.args.b (λ w. c.in_err-checked_add-3.ensures (omega (arith, w.ended))))

pub returns-in_err-checked_add-4 : goal.returns-in_err-checked_add-4
returns-in_err-checked_add-4 c =
    c.from_residual-in_err-checked_add-4.ensures ∙ sym (refused c.args.a c.args.b (λ w. c.in_err-checked_add-4.ensures (omega (arith, w.early))))

pub returns-in_err-checked_add-5 : goal.returns-in_err-checked_add-5
returns-in_err-checked_add-5 c =
    c.from_residual-in_err-checked_add-5.ensures ∙ sym (refused c.args.a c.args.b (λ w. c.in_err-checked_add-5.ensures (omega (arith, w.reversed))))

pub returns-in_err-checked_add-6 : goal.returns-in_err-checked_add-6
returns-in_err-checked_add-6 c =
    c.from_residual-in_err-checked_add-6.ensures ∙ sym (refused c.args.a c.args.b (λ w. c.in_err-checked_add-6.ensures (omega (arith, w.peers))))

pub returns : goal.returns
returns c =
    let held = c.in_ok-checked_add.ensures in
    let fit = c.in_ok-checked_add-2.ensures in
    let ended = c.in_ok-checked_add-3.ensures in
    let early = c.in_ok-checked_add-4.ensures in
    let reversed = c.in_ok-checked_add-5.ensures in
    let peers = c.in_ok-checked_add-6.ensures in
    let w : Within c.args.a c.args.b = record {
      held = omega (arith, held.0);
      fit = omega (arith, fit.0);
      ended = omega (arith, ended.0);
      early = omega (arith, early.0);
      reversed = omega (arith, reversed.0);
      peers = omega (arith, peers.0);
    } in
    rw (held.1, fit.1, ended.1, early.1, reversed.1, peers.1) (sym (given c.args.a c.args.b w))
