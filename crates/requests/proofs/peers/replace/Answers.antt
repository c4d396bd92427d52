-- `requests::peers::replace` meets its contract.
use mathlib.Core.Path.{◌≡◌, ◌∙◌, ap}
use Prim.Native.Nat.{ℕ, ◌*◌, ◌/◌}
use native.Mathlib.Omega.{arith}
use lib.ListN.{length}
use Rattle.octets.specs.Words.{numbers, words}
use Rattle.octets.proofs.WordLaws.{length-words, length-numbers}
use Rattle.requests.proofs.EntryLaws.{peers-whole}
use Rattle.requests.proofs.PeersLaws.{shrunk, grown}
use Rattle.requests.proofs.peers.replace.Goals as goal
use Rattle.requests.proofs.peers.replace.Goals.{then-n-old, else-n-old}

pub returns : goal.returns
returns c =
    let a = c.args in
    let s = a.s.now in
    let b = a.new.now in
    let v = words (numbers b 0 (length b / 4)) in
    let l : length v ≡ length b = length-words (numbers b 0 (length b / 4)) ∙ ap (λ (x : ℕ). 4 * x) (length-numbers b 0 (length b / 4)) ∙ peers-whole b c.requires.whole in
    elim c.if-n-old.branch [
      | then-n-old w ↦ shrunk s v a.i a.old (length b) a.tail w.close_gap.new.s c.put_peers.new.s (omega arith) (omega arith) l w.close_gap.ensures (rw w.s-is at c.put_peers.ensures)
      | else-n-old w ↦ grown s v a.i a.old (length b) a.tail w.open_gap.new.s c.put_peers.new.s (omega arith) (omega arith) l w.open_gap.ensures (rw w.s-is at c.put_peers.ensures)
    ]
