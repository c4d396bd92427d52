-- `sheet::input::read_moment` meets its contract.
use Rattle.std.proofs.Common.{sym}
use Rattle.sheet.proofs.InputLaws.{moment_length, moment_digits, moment_read}
use Rattle.sheet.proofs.input.read_moment.Goals as goal
use Rattle.sheet.proofs.input.read_moment.Goals.{then-line-ne-MOMENT_DIGITS-via-then-line-ne-MOMENT_DIGITS, then-line-ne-MOMENT_DIGITS-via-else-line-ne-MOMENT_DIGITS+then-not-are_digits}

pub returns-then-line-ne-MOMENT_DIGITS : goal.returns-then-line-ne-MOMENT_DIGITS
returns-then-line-ne-MOMENT_DIGITS c =
    elim c.then-line-ne-MOMENT_DIGITS.branch [
      | then-line-ne-MOMENT_DIGITS-via-then-line-ne-MOMENT_DIGITS w ↦ moment_length c.args.line.now w.if-line-ne-MOMENT_DIGITS.true
      | then-line-ne-MOMENT_DIGITS-via-else-line-ne-MOMENT_DIGITS+then-not-are_digits w ↦ moment_digits c.args.line.now w.if-line-ne-MOMENT_DIGITS.false (sym w.if-not-are_digits.ensures)
    ]

pub returns : goal.returns
returns c =
    moment_read c.args.line.now c.number.result c.if-line-ne-MOMENT_DIGITS.false (sym c.if-not-are_digits.ensures) c.number.ensures.is
