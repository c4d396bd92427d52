-- `authentication::session_keys` meets its contract.
use mathlib.Core.Path.{ap, ◌∙◌}
use mathlib.Core.List.{List}
use Prim.Native.Nat.{ℕ}
use Rattle.authentication.specs.Keys.{session_keys}
use Rattle.authentication.proofs.AnswerLaws.{derive_right}
use Rattle.authentication.proofs.session_keys.Goals as goal

pub returns : goal.returns
returns c =
    let a = c.args in
    let k = c.in_ok-triple_key.ensures.ok in
    derive_right a.kmac.now a.ra a.rb c.derive.result k.1 (c.derive.ensures ∙ ap (λ (x : List ℕ). session_keys x a.ra a.rb) k.0)
