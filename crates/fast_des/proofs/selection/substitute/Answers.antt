-- `fast_des::selection::substitute` meets its contract.
use native.Mathlib.Omega.{arith}
use Rattle.des.specs.Bits.{bits}
use Rattle.fast_des.proofs.JoinedLaws.{boxes_start, boxes_step, boxes_end}
use Rattle.fast_des.proofs.selection.substitute.Goals as goal

pub loop-k-init : goal.loop-k-init
loop-k-init c = boxes_start (bits 48 c.args.x)

pub loop-k-preserved : goal.loop-k-preserved
loop-k-preserved c = boxes_step c.loop-k.k c.args.x c.loop-k-test.true c.loop-k.auto.k c.loop-k.invariant c.select-r.ensures

pub returns : goal.returns
returns c = boxes_end (bits 48 c.args.x) (omega arith) c.loop-k.invariant
