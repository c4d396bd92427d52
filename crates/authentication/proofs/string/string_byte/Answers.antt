-- `authentication::string::string_byte` meets its contract. By the places where the byte can stand.
use mathlib.Core.Path.{sym, ◌∙◌}
use Rattle.std.proofs.Common.{rules}
use Rattle.std.proofs.lemmas.Option.{unwrap_or-slice_get}
use native.Mathlib.Omega.{arith}
use Rattle.authentication.proofs.StringLaws.{byte_past, byte-destination, byte_high, byte_low}
use Rattle.authentication.proofs.string.string_byte.Goals as goal

pub returns-in-0 : goal.returns-in-0
returns-in-0 c = byte_high c.args.destination c.args.m.now (search rules) c.args.i (search rules)

pub returns-in-1 : goal.returns-in-1
returns-in-1 c = byte_low c.args.destination c.args.m.now (search rules) c.args.i (search rules)

pub returns-in-2-to-4 : goal.returns-in-2-to-4
returns-in-2-to-4 c = sym (byte-destination c.args.destination c.args.m.now (search rules) c.args.i (omega arith) (omega arith))

pub returns-in_default : goal.returns-in_default
returns-in_default c = sym (byte_past c.args.destination c.args.m.now (search rules) c.args.i (omega arith) ∙ search (rules, unwrap_or-slice_get))
