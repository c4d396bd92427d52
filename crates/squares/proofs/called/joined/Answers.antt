-- `squares::called::joined` meets its contract.
use mathlib.Core.Path.{refl}
use native.Mathlib.Omega.{arith}
use borrow.Author.Rules.{rules}
use Rattle.units.proofs.BuiltLaws.{au1-long}
use Rattle.table.proofs.SideLaws.{searched, made_type, place_inside, indication-refused, indication-answered}
use Rattle.squares.proofs.called.joined.Goals as goal

pub sender_of-peer-requires : goal.sender_of-peer-requires
sender_of-peer-requires c =
    omega (arith, au1-long c.args.unit.now c.requires.1.1)

pub random_of-rb-requires : goal.random_of-rb-requires
random_of-rb-requires c =
    omega (arith, au1-long c.args.unit.now c.requires.1.1)

-- what the search found
pub kmac-requires : goal.kmac-requires
kmac-requires c =
    let a = c.args in
    place_inside a.store.now a.own c.sender_of-peer.result a.t c.in-Ok.place (searched c.search.ensures c.in-Ok.is)

pub send_au2-requires : goal.send_au2-requires
send_au2-requires c =
    let a = c.args in
    (made_type a.store.now a.own c.sender_of-peer.result a.t c.in-Ok.place (searched c.search.ensures c.in-Ok.is) c.waiting.ensures refl, c.requires.1.0)

pub returns-in-Ok : goal.returns-in-Ok
returns-in-Ok c =
    let a = c.args in
    indication-answered a.own a.t a.ra a.unit.now a.store.now a.c a.out.now c.requires.1.0 c.requires.0 c.requires.1.1 c.in-Ok.place
    (search rules) c.sender_of-peer.ensures (searched c.search.ensures c.in-Ok.is) c.random_of-rb.ensures
    c.kmac.ensures c.waiting.ensures c.send_au2.ensures.0 c.send_au2.ensures.1 c.send_au2.ensures.2

pub returns-in-Err : goal.returns-in-Err
returns-in-Err c =
    let a = c.args in
    indication-refused a.own a.t a.ra a.unit.now a.store.now a.c a.out.now c.requires.1.0 c.requires.0 c.requires.1.1 c.in-Err.h
    c.sender_of-peer.ensures (searched c.search.ensures c.in-Err.is) c.refuse.ensures.0 c.refuse.ensures.1
