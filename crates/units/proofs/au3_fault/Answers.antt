-- `units::au3_fault` meets its contract.
use Rattle.std.proofs.Common.{arith}
use Rattle.units.specs.Units.{au3_fault, first_fault}
use Rattle.units.proofs.TestLaws.{au3-judged}
use Rattle.units.proofs.au3_fault.Goals as goal

pub returns-in_err-test-2 : goal.returns-in_err-test-2
unfolding au3_fault first_fault
returns-in_err-test-2 c =
    let a = c.args in
    let judged = au3-judged a.key c.etcs_id.result c.au3_message-m.result a.ra a.rb a.unit.now a.own c.mac_is-sealed.result c.etcs_id.ensures c.au3_message-m.ensures c.mac_is-sealed.ensures in
    grind arith

pub returns : goal.returns
unfolding au3_fault first_fault
returns c =
    let a = c.args in
    let judged = au3-judged a.key c.etcs_id.result c.au3_message-m.result a.ra a.rb a.unit.now a.own c.mac_is-sealed.result c.etcs_id.ensures c.au3_message-m.ensures c.mac_is-sealed.ensures in
    grind arith
