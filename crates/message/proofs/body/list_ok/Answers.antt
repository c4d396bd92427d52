-- `message::body::list_ok` meets its contract.
use mathlib.Core.Path.{sym}
use Rattle.message.proofs.BodyLaws.{list_short}
use Rattle.message.proofs.body.list_ok.Goals as goal

pub returns-then-m-lt-REQUESTS_AT : goal.returns-then-m-lt-REQUESTS_AT
returns-then-m-lt-REQUESTS_AT c = sym (list_short c.args.command c.args.m.now c.if-m-lt-REQUESTS_AT.true)
