-- `squares::calling::sealed` meets its contract.
use native.Mathlib.Omega.{arith}
use Rattle.units.proofs.BuiltLaws.{au2-long}
use Rattle.table.proofs.SideLaws.{by-seal, confirmation_faulty, confirmation_answered}
use Rattle.squares.proofs.calling.sealed.Goals as goal

pub random_of-requires : goal.random_of-requires
random_of-requires c =
    omega (arith, au2-long c.args.c.peer c.args.unit.now c.requires.1.1)

pub au2_seal-requires : goal.au2_seal-requires
au2_seal-requires c =
    au2-long c.args.c.peer c.args.unit.now c.requires.1.1

pub returns-in-Ok : goal.returns-in-Ok
returns-in-Ok c =
    let a = c.args in
    let ra = c.random_of.ensures in
    let made = c.learning-about.ensures in
    confirmation_answered a.unit.now a.c a.out.now c.requires.1.0 c.requires.0
    (by-seal a.unit.now a.c c.requires.1.1 ra made c.au2_seal.ensures c.in-Ok.is) ra made
    c.send_au3.ensures.0 c.send_au3.ensures.1 c.send_au3.ensures.2

pub returns-in-Err : goal.returns-in-Err
returns-in-Err c =
    let a = c.args in
    confirmation_faulty a.unit.now a.c a.out.now c.requires.1.0 c.requires.0 c.in-Err.why
    (by-seal a.unit.now a.c c.requires.1.1 c.random_of.ensures c.learning-about.ensures c.au2_seal.ensures c.in-Err.is)
    c.ended.ensures.0 c.ended.ensures.1
