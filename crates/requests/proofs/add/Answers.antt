-- `requests::add` meets its contract.
use Rattle.std.proofs.Common.{sym, ◌/◌, length, rules}
use Rattle.std.proofs.lemmas.Result.{err_from_is_err_and}
use Rattle.octets.proofs.WordLaws.{length-numbers}
use Rattle.requests.specs.Worked.{new_entry, addition}
use Rattle.requests.proofs.ResultLaws.{refused, is-failure, add-room, add-worked}
use Rattle.requests.proofs.add.Goals as goal

pub returns-in_err-add_result : goal.returns-in_err-add_result
returns-in_err-add_result c =
    let a = c.args in
    let f = c.in_err-add_result.field-0.0 in
    let p = err_from_is_err_and c.from_residual.result c.from_residual.ensures.1 in
    rw (p.1, p.2) (refused a.lim a.own (addition a.new) a.s.now _ (search rules) c.requires c.in_err-add_result.ensures (is-failure f))

pub append-requires-clause-s_bound : goal.append-requires-clause-s_bound
append-requires-clause-s_bound c =
    let a = c.args in
    let b = a.new.peers.bytes.now in
    add-room a.lim a.own a.s.now a.new.recipient (new_entry a.new) (length b / 4) c.requires (sym (length-numbers b 0 (length b / 4))) (sym c.in_ok-add_result.ensures)

pub returns : goal.returns
returns c =
    let a = c.args in
    add-worked a.lim a.own a.s.now a.new.recipient (new_entry a.new) c.append.new.s (sym c.in_ok-add_result.ensures) c.append.ensures
