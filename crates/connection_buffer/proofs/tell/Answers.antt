-- `connection_buffer::tell` meets its contract.
use mathlib.Core.Path.{sym, ap, ◌∙◌}
use Rattle.refusal.proofs.CodeLaws.{told-given, told-refused}
use Rattle.table.specs.Steps.{Answered, stepped_as}
use Rattle.connection_buffer.specs.ConnectionBuffer.{unit_length, connection_after, events_after}
use Rattle.connection_buffer.proofs.tell.Goals as goal

pub overflow_cast-result : goal.overflow_cast-result
overflow_cast-result c = record { sfits = c.requires.by c.in-Ok.actions (ap stepped_as c.in-Ok.is) }

pub returns-in-Ok : goal.returns-in-Ok
returns-in-Ok c =
    let e = sym (ap stepped_as c.in-Ok.is) in
    let a = c.args in
    record {
      value = told-given c.in-Ok.actions.written (c.requires.by c.in-Ok.actions (ap stepped_as c.in-Ok.is)) (ap unit_length e);
      connection_after = c.bytes_of.ensures ∙ ap (λ (x : Answered). connection_after x a.taken.connection a.connection.now) e;
      events_after = c.events_of.ensures ∙ ap (λ (x : Answered). events_after x a.taken.connection a.events.now) e;
    }

pub returns-in-Err : goal.returns-in-Err
returns-in-Err c =
    let e = sym (ap stepped_as c.in-Err.is) in
    let a = c.args in
    record {
      value = told-refused c.in-Err.h c.from.result c.from.ensures (ap unit_length e);
      connection_after = ap (λ (x : Answered). connection_after x a.taken.connection a.connection.now) e;
      events_after = ap (λ (x : Answered). events_after x a.taken.connection a.events.now) e;
    }
