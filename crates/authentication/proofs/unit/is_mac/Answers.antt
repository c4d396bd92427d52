-- `authentication::unit::is_mac` meets its contract.
use Rattle.authentication.specs.Mac.{mac}
use Rattle.authentication.proofs.MacLaws.{macs-same}
use native.Mathlib.Omega.{arith}
use Rattle.authentication.proofs.unit.is_mac.Goals as goal

pub returns : goal.returns
returns c =
    let a = c.args in
    macs-same a.sent.now (mac a.key.now a.destination a.message.now) c.mac_word-made.result c.get64_at-sent.result (λ i. (c.type_inv.sent i).fits) (omega arith)
    (omega arith) (omega arith) c.mac_word-made.ensures c.get64_at-sent.ensures
