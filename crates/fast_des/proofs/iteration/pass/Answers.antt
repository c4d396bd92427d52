-- `fast_des::iteration::pass` meets its contract.
use Rattle.std.proofs.Common.{rules}
use Rattle.fast_des.proofs.InsideLaws.{passed, partly-none, partly-more, partly-all}
use Rattle.fast_des.proofs.iteration.pass.Goals as goal

pub loop-i-init : goal.loop-i-init
loop-i-init g c = partly-none _ _ _ _ c.iterations-s.ensures.0

pub loop-i-preserved : goal.loop-i-preserved
loop-i-preserved g c =
    let a = c.args in
    partly-more _ _ c.loop-i.i _ _ _ _ (search rules) c.loop-i.invariant (λ h o. passed h _ c.exchange.result a.keys.now a.back o c.exchange.ensures)

pub returns : goal.returns
returns g c =
    let a = c.args in (
      partly-all _ _ c.loop-i.i _ _ (search rules) c.loop-i.invariant,
      passed a.last _ c.exchange-2.result a.others.now a.back c.iterations-s.ensures.1 c.exchange-2.ensures,
    )
