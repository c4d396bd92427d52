use Rattle.std.proofs.Common.{◌≡◌, ◌+◌, refl, sym, arith}
use lib.ListN.{length-set}
use Rattle.octets.specs.Bytes.{part}
use Rattle.octets.proofs.SpliceLaws.{splice-none, move_turn}
use Rattle.octets.proofs.move_left.Goals as goal

pub loop-k-init : goal.loop-k-init
unfolding part
loop-k-init c = (refl, sym (splice-none c.args.s.now c.args.i))

pub loop-k-preserved : goal.loop-k-preserved
loop-k-preserved c =
    let a = c.args in
    (simp length-set c.loop-k.invariant.0, move_turn a.s.now a.i a.gap c.loop-k.k c.loop-k.s (omega arith) c.loop-k.invariant.1)
