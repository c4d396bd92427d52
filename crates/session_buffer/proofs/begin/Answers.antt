-- `session_buffer::begin` meets its contract.
use Rattle.std.proofs.Common.{sym, ap}
use Rattle.refusal.proofs.CodeLaws.{told-given}
use Rattle.session_buffer.specs.SessionBuffer.{begun_length}
use Rattle.session_buffer.proofs.TellLaws.{init-small}
use Rattle.session_buffer.proofs.begin.Goals as goal

pub overflow_cast-result : goal.overflow_cast-result
overflow_cast-result c =
    let a = c.args in
    record { sfits = init-small a.own a.peer a.number a.out.now c.in-Ok.made c.in-Ok.n (sym c.in-Ok.ensures.answer) }

pub returns-in-Ok-clause-value : goal.returns-in-Ok-clause-value
returns-in-Ok-clause-value c =
    let a = c.args in
    told-given c.in-Ok.n (init-small a.own a.peer a.number a.out.now c.in-Ok.made c.in-Ok.n (sym c.in-Ok.ensures.answer)) (ap begun_length c.in-Ok.ensures.answer)
