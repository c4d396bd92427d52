-- `fast_des::iteration::iterations` meets its contract.
use Rattle.std.proofs.Common.{rules}
use Rattle.fast_des.proofs.InsideLaws.{iterate_none, iterate_more, partly-none, partly-more, partly-all, each-none}
use Rattle.fast_des.proofs.iteration.iterations.Goals as goal

pub loop-n-init : goal.loop-n-init
loop-n-init g c =
    let a = c.args in
    (each-none a.keys.now a.back _, iterate_none a.last a.others.now a.back)

pub loop-i-init : goal.loop-i-init
loop-i-init g c = partly-none _ _ _ _ c.loop-n.invariant.0

pub loop-i-preserved : goal.loop-i-preserved
loop-i-preserved g c =
    let a = c.args in
    let t = c.turn-at in
    partly-more _ _ c.loop-i.i _ _ _ _ (search rules) c.loop-i.invariant (λ h o. iterate_more h _ c.round.result a.keys.now a.back c.loop-n.n t.result t.ensures o c.round.ensures)

pub loop-n-preserved : goal.loop-n-preserved
loop-n-preserved g c =
    let a = c.args in
    let t = c.turn-at in (
      partly-all _ _ c.loop-i.i _ _ (search rules) c.loop-i.invariant,
      iterate_more a.last c.loop-n.t c.round-t.result a.others.now a.back c.loop-n.n t.result t.ensures c.loop-n.invariant.1 c.round-t.ensures,
    )
