-- `console::bench::Bench::append` meets its contract.
use Rattle.std.proofs.Common.{◌+◌, ◌-◌, length, ◌∙◌, arith}
use Rattle.console.proofs.BenchLaws.{written_over, line_fits}
use Rattle.console.proofs.bench.Bench.append.Goals as goal

pub returns-clause-bytes : goal.returns-clause-bytes
returns-clause-bytes c =
    let a = c.args in
    let n = a.self.filled in
    rw c.copy_from_slice.ensures.after (written_over a.line.now a.more.now n (n + length a.more.now - n) (omega arith) ∙ line_fits a.line.now n a.more.now (omega arith))
