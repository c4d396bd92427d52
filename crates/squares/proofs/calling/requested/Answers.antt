-- `squares::calling::requested` meets its contract.
use mathlib.Core.Path.{refl, ap, ◌∙◌}
use mathlib.Core.Bool.{not}
use borrow.Author.Rules.{rules}
use Rattle.table.proofs.SideLaws.{searched, made_type, place_inside, request_untyped, request-refused, request-sent}
use Rattle.squares.proofs.calling.requested.Goals as goal

pub returns-then-not-acceptable : goal.returns-then-not-acceptable
returns-then-not-acceptable c =
    let a = c.args in
    request_untyped a.acceptable a.own a.peer a.t a.rb a.store.now a.c a.out.now c.requires.1 c.requires.0 (ap not c.if-not-acceptable.true)
    c.acting.ensures.0 (c.acting.ensures.1 ∙ c.none.ensures)

-- what the search found
pub kmac-requires : goal.kmac-requires
kmac-requires c =
    let a = c.args in
    place_inside a.store.now a.own a.peer a.t c.in-Ok.place (searched c.search.ensures c.in-Ok.is)

pub send_au1-requires : goal.send_au1-requires
send_au1-requires c =
    let a = c.args in
    (made_type a.store.now a.own a.peer a.t c.in-Ok.place (searched c.search.ensures c.in-Ok.is) c.waiting.ensures refl, c.requires.1)

pub returns-in-Ok : goal.returns-in-Ok
returns-in-Ok c =
    let a = c.args in
    request-sent a.acceptable a.own a.peer a.t a.rb a.store.now a.c a.out.now c.in-Ok.place c.requires.1 c.requires.0 (ap not c.if-not-acceptable.false)
    (search rules) (searched c.search.ensures c.in-Ok.is) c.kmac.ensures c.waiting.ensures
    c.send_au1.ensures.0 c.send_au1.ensures.1 c.send_au1.ensures.2

pub returns-in-Err : goal.returns-in-Err
returns-in-Err c =
    let a = c.args in
    request-refused a.acceptable a.own a.peer a.t a.rb a.store.now a.c a.out.now c.in-Err.h c.requires.1 c.requires.0 (ap not c.if-not-acceptable.false)
    (searched c.search.ensures c.in-Err.is) c.refuse.ensures.0 c.refuse.ensures.1
