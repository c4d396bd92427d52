-- `authentication::user_data` meets its contract: the user data lie in the unit.
use Rattle.authentication.proofs.AnswerLaws.{data_length}
use native.Mathlib.Omega.{arith}
use Rattle.authentication.proofs.user_data.Goals as goal

pub overflow_add-result : goal.overflow_add-result
overflow_add-result c =
    let a = c.args in
    omega (arith, data_length a.unit.now a.key.now a.destination a.direction c.check.result c.check.ensures c.in-Ok.n c.in-Ok.is)

pub slice_bounds-result-end : goal.slice_bounds-result-end
slice_bounds-result-end c =
    let a = c.args in
    omega (arith, data_length a.unit.now a.key.now a.destination a.direction c.check.result c.check.ensures c.in-Ok.n c.in-Ok.is)
