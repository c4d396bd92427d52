-- `authentication::string::string_word` meets its contract. A block whole in m is a number in m.
use borrow.Author.Rules.{rules}
use mathlib.Core.Path.{sym, ◌∙◌}
use Prim.Native.Nat.{◌*◌}
use native.Mathlib.Omega.{arith}
use Rattle.authentication.proofs.StringLaws.{number_past}
use Rattle.authentication.proofs.string.string_word.Goals as goal

pub returns-then-k-m : goal.returns-then-k-m
returns-then-k-m c =
    let a = c.args in
    c.get64_at.ensures ∙ sym (number_past a.destination a.m.now (search rules) 8 (8 * a.k) (omega arith))
