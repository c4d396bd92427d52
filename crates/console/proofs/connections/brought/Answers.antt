-- `console::connections::brought` meets its contract.
use Rattle.std.proofs.Common.{ℕ, List, ap, ◌∙◌}
use Rattle.console.specs.Lent.{bytes_in}
use Rattle.console.specs.Connections.{input_of, stepped as steppedBy}
use Rattle.console.proofs.BenchLaws.{bytes_read}
use Rattle.console.proofs.connections.brought.Goals as goal

pub returns : goal.returns
returns c =
    let a = c.args in
    let k = c.bytes_at.result in
    let read = bytes_read a.text.now c.word.result.now c.decode-n.new.out k c.decode-n.result c.word.ensures c.decode-n.ensures in
    c.stepped.ensures
    ∙ ap (λ (x : List ℕ). steppedBy (input_of a.event a.side.own x a.store.now) a.side) (read ∙ ap (bytes_in a.text.now) c.bytes_at.ensures)
