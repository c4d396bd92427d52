-- `sheet::input::take_line` meets its contract.
use Rattle.sheet.proofs.InputLaws.{line_ended, line_open}
use Rattle.sheet.proofs.input.take_line.Goals as goal

pub returns-then-end-chunk : goal.returns-then-end-chunk
returns-then-end-chunk c =
    let a = c.args in
    line_ended a.line.now a.filled a.chunk.now a.at c.first-end.result c.min-k.result c.copy.new.s c.requires.0 c.first-end.ensures c.min-k.ensures c.copy.ensures c.if-end-chunk.true

pub returns : goal.returns
returns c =
    let a = c.args in
    line_open a.line.now a.filled a.chunk.now a.at c.first-end.result c.min-k.result c.copy.new.s c.requires.0 c.first-end.ensures c.min-k.ensures c.copy.ensures c.if-end-chunk.false
