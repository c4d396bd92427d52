-- `requests::set_validity` meets its contract.
use Rattle.std.proofs.Common.{rules}
use Rattle.requests.proofs.ValidityLaws.{validity-written}
use Rattle.requests.proofs.ResultLaws.{validity-worked, validity-refused, not-held-number}
use Rattle.requests.proofs.set_validity.Goals as goal

pub returns-in_err-i : goal.returns-in_err-i
returns-in_err-i c =
    let a = c.args in
    let e = c.in_err-i.ensures in
    rw (not-held-number c.key_place.result c.in_err-i.field-0.0 c.from_residual.result e.ok_part e.value c.from_residual.ensures.1)
    (λ own. validity-refused a.lim a.s.now a.id.issuer a.id.serial own (search rules) c.requires (rw e.ok_part at (c.key_place.ensures.found a.lim)) a.period.start a.period.end)

pub returns : goal.returns
returns c =
    let a = c.args in
    let i = c.in_ok-i.i in
    let place = rw c.in_ok-i.ensures.ok_part at (c.key_place.ensures.found a.lim) in
    let counted = rw c.in_ok-i.ensures.ok_part at c.key_place.ensures.counted in
    λ own. validity-worked a.lim a.s.now a.id.issuer a.id.serial own i place counted a.period.start a.period.end c.put_period.new.s
    (validity-written a.lim a.s.now i a.period.start a.period.end c.put_period.new.s (search rules) c.requires counted c.put_period.ensures)
