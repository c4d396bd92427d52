-- `units::au2_seal` meets its contract.
use Rattle.std.proofs.Common.{arith}
use Rattle.units.specs.Units.{au2_seal, first_fault}
use Rattle.units.proofs.TestLaws.{au2-judged}
use Rattle.units.proofs.au2_seal.Goals as goal

pub returns-in_err-test : goal.returns-in_err-test
unfolding au2_seal first_fault
returns-in_err-test c =
    let a = c.args in
    let judged = au2-judged a.key c.etcs_id.result c.au2_message-m.result a.rb a.unit.now a.own c.mac_is-sealed.result c.etcs_id.ensures c.au2_message-m.ensures c.mac_is-sealed.ensures in
    grind arith

pub returns : goal.returns
unfolding au2_seal first_fault
returns c =
    let a = c.args in
    let judged = au2-judged a.key c.etcs_id.result c.au2_message-m.result a.rb a.unit.now a.own c.mac_is-sealed.result c.etcs_id.ensures c.au2_message-m.ensures c.mac_is-sealed.ensures in
    grind arith
