-- `units::ar_fault` meets its contract.
use Rattle.std.proofs.Common.{arith}
use Rattle.units.specs.Units.{ar_fault, first_fault}
use Rattle.units.proofs.TestLaws.{ar-judged}
use Rattle.units.proofs.ar_fault.Goals as goal

pub returns-in_err-test-2 : goal.returns-in_err-test-2
unfolding ar_fault first_fault
returns-in_err-test-2 c =
    let a = c.args in
    let judged = ar-judged a.key c.etcs_id.result a.unit.now a.own c.mac_is-sealed.result (grind arith) c.etcs_id.ensures c.mac_is-sealed.ensures in
    grind arith

pub returns : goal.returns
unfolding ar_fault first_fault
returns c =
    let a = c.args in
    let judged = ar-judged a.key c.etcs_id.result a.unit.now a.own c.mac_is-sealed.result (grind arith) c.etcs_id.ensures c.mac_is-sealed.ensures in
    grind arith
