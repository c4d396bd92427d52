-- `requests::delete` meets its contract.
use Rattle.std.proofs.Common.{rules}
use Rattle.requests.proofs.ResultLaws.{delete-worked, delete-refused, not-held-number}
use Rattle.requests.proofs.delete.Goals as goal

pub returns-in_err-i : goal.returns-in_err-i
returns-in_err-i c =
    let a = c.args in
    let e = c.in_err-i.ensures in
    rw (not-held-number c.key_place.result c.in_err-i.field-0.0 c.from_residual.result e.ok_part e.value c.from_residual.ensures.1)
    (λ own. delete-refused a.lim a.s.now a.id.issuer a.id.serial own (search rules) c.requires (rw e.ok_part at (c.key_place.ensures.found a.lim)))

pub returns : goal.returns
returns c =
    let a = c.args in
    let place = rw c.in_ok-i.ensures.ok_part at (c.key_place.ensures.found a.lim) in
    let counted = rw c.in_ok-i.ensures.ok_part at c.key_place.ensures.counted in
    λ own. delete-worked a.lim a.s.now a.id.issuer a.id.serial own c.in_ok-i.i place counted c.remove_at.new.s c.remove_at.ensures
