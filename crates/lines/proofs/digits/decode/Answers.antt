-- `lines::digits::decode` meets its contract.
use mathlib.Core.Path.{sym, ◌∙◌}
use Rattle.lines.proofs.HexLaws.{none_read, all_read}
use Rattle.lines.proofs.digits.decode.Goals as goal

pub returns-then-not-are_digits : goal.returns-then-not-are_digits
returns-then-not-are_digits c =
    none_read c.args.s.now c.args.out.now (sym c.are_digits.ensures ∙ c.if-not-are_digits.true)

pub returns : goal.returns
returns c =
    all_read c.args.s.now c.args.out.now c.put_bytes.new.out c.min-n.result
    (sym c.are_digits.ensures ∙ c.if-not-are_digits.false)
    c.min-n.ensures
    c.put_bytes.ensures
