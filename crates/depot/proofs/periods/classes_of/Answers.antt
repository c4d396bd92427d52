use Rattle.std.proofs.Common.{refl, arith}
use Rattle.store.specs.Store.{key_count}
use Rattle.store.proofs.SoundLaws.{sound_says}
use Rattle.depot.proofs.CountLaws.{classes-start, classes_turn, classes-few, classes-all}
use Rattle.depot.proofs.periods.classes_of.Goals as goal

pub number_at-i-requires : goal.number_at-i-requires
number_at-i-requires c =
    let w = sound_says c.args.lim c.args.s.now c.requires in
    omega arith

pub loop-i-init : goal.loop-i-init
loop-i-init c =
    let a = c.args in
    let e = c.default-c.ensures in
    classes-start a.lim a.s.now a.t c.number_at-i.result c.default-c.result e.0 e.1.0 e.1.1.0 e.1.1.1 c.number_at-i.ensures.0

pub one_more-requires : goal.one_more-requires
one_more-requires c =
    let a = c.args in
    let few = classes-few a.lim a.s.now a.t (key_count a.s.now) c.loop-i.i c.loop-i.c c.loop-i.invariant in
    omega (arith, few, c.number_at-i.ensures)

pub loop-i-preserved : goal.loop-i-preserved
loop-i-preserved c =
    let a = c.args in
    classes_turn a.lim a.s.now a.t (key_count a.s.now) c.loop-i.i c.loop-i.c c.one_more.new.self c.class_at.result (omega arith) (omega arith) c.loop-i.invariant c.class_at.ensures c.one_more.ensures

pub returns : goal.returns
returns c =
    let a = c.args in
    classes-all a.lim a.s.now a.t (key_count a.s.now) c.loop-i.i c.loop-i.c (omega arith) refl c.loop-i.invariant
