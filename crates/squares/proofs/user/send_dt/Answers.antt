-- `squares::user::send_dt` meets its contract.
use mathlib.Core.Path.{◌≡◌, refl, ap, ◌∙◌}
use mathlib.Core.List.{List}
use Prim.Native.Nat.{ℕ, ◌+◌}
use lib.ListN.{length}
use borrow.Author.Rules.{rules}
use Rattle.std.specs.Prelude.{Ok}
use Rattle.octets.specs.Bytes.{splice}
use Rattle.authentication.specs.Unit.{unit_of}
use Rattle.table.specs.declared.ToUser.TheVariants as User
use Rattle.table.specs.declared.ToTransport.TheVariants.{SendDt}
use Rattle.table.specs.declared.Timer.TheVariants.{Keep}
use Rattle.table.specs.Steps.{acts}
use Rattle.table.proofs.UnitLaws.{unit-long, unit-built}
use Rattle.squares.proofs.user.send_dt.Goals as goal

pub unwrap-written-requires : goal.unwrap-written-requires
unwrap-written-requires c =
    let a = c.args in
    rw (unit-long a.c.key c.etcs_id.result a.c.responder a.user.now a.out.now (search rules) c.requires.0 c.requires.1 c.build.ensures) refl

pub returns : goal.returns
returns c =
    let a = c.args in
    let long = unit-long a.c.key c.etcs_id.result a.c.responder a.user.now a.out.now (search rules) c.requires.0 c.requires.1 c.build.ensures in
    let n : c.unwrap-written.result ≡ length a.user.now + 9 = cc in (
      c.acting.ensures.0 ∙ ap (λ (n : ℕ). Ok (acts User.Nothing SendDt Keep n)) n,
      c.acting.ensures.1 ∙ c.entering.ensures,
      unit-built a.c.key c.etcs_id.result a.c.responder a.user.now a.out.now (search rules) c.requires.0 c.requires.1 c.build.ensures
          ∙ ap (λ (d : List ℕ). splice a.out.now 0 (unit_of a.c.key d a.c.responder a.user.now)) c.etcs_id.ensures,
    )
