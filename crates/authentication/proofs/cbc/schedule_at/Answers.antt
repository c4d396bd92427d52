-- `authentication::cbc::schedule_at` meets its contract.
use Rattle.authentication.proofs.MacLaws.{keyed}
use native.Mathlib.Omega.{arith}
use Rattle.authentication.proofs.cbc.schedule_at.Goals as goal

pub returns : goal.returns
returns c =
    let a = c.args in
    keyed a.key.now c.schedule.result a.n c.get64_at.result (omega arith) c.get64_at.ensures c.schedule.ensures
