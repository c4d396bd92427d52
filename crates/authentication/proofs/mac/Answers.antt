-- `authentication::mac` meets its contract.
use mathlib.Core.Path.{◌∙◌}
use Rattle.des.proofs.ByteLaws.{bytes_bits}
use Rattle.authentication.proofs.mac.Goals as goal

pub returns : goal.returns
returns c = c.store.ensures ∙ bytes_bits 8 c.mac_word.result ∙ c.mac_word.ensures
