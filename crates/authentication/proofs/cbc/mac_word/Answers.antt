-- `authentication::cbc::mac_word` meets its contract.
use Rattle.authentication.proofs.MacLaws.{mac_of_lem}
use borrow.Author.Rules.{rules}
use Rattle.authentication.proofs.cbc.mac_word.Goals as goal

pub returns : goal.returns
returns c =
    let e = c.encipher_halves-e in
    let d = c.decipher_halves-d in
    let h = c.chain_halves-h in
    let a = c.args in
    mac_of_lem a.key.now a.destination a.m.now c.schedule_at.result c.schedule_at-2.result h.result d.result e.result c.leave.result (search rules)
    h.ensures c.schedule_at.ensures d.ensures c.schedule_at-2.ensures e.ensures c.leave.ensures
