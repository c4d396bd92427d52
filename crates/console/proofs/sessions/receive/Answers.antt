-- `console::sessions::receive` meets its contract.
use Rattle.std.proofs.Common.{◌≡◌, ℕ, List, take, sym, ap, ◌∙◌, ap₂, arith}
use Rattle.session.specs.Rules.{receive as outcome}
use Rattle.console.specs.Lent.{output}
use Rattle.console.specs.Bench.{store_of}
use Rattle.console.proofs.BenchLaws.{bytes_read, front_length, front-held}
use Rattle.console.proofs.sessions.receive.Goals as goal

pub returns : goal.returns
returns c =
    let a = c.args in
    let n = c.size-n.result in
    let d = c.receive-turn.ensures in
    let m = bytes_read a.text.now c.word.result.now c.decode-k.new.out 1 c.decode-k.result c.word.ensures c.decode-k.ensures in
    let s : take n a.store.now ≡ store_of a.large a.store.now = ap (λ (k : ℕ). take k a.store.now) c.size-n.ensures.0 in
    let l = front_length a.large n a.store.now c.size-n.ensures (omega arith) in (
      d.session_is ∙ ap₂ (λ (x t : List ℕ). (outcome a.session x t output).session) m s,
      front-held a.large n c.receive-turn.new.store _ c.size-n.ensures (c.receive-turn.auto.store ∙ sym l)
          ∙ d.store_is
          ∙ ap₂ (λ (x t : List ℕ). (outcome a.session x t output).store) m s,
    )
