-- `squares::received::refuse_dt` meets its contract.
use mathlib.Core.Path.{◌≡◌, refl, sym, ap, ◌∙◌}
use mathlib.Core.Bool.{Bool, false, cond}
use Prim.Native.Nat.{ℕ}
use native.Mathlib.Omega.{arith}
use lib.Dec.{eqb}
use borrow.Author.Tests.{ne_eqb}
use Rattle.refusal.specs.declared.Refusal.TheVariants.{MacDiffers, UnitContents}
use Rattle.refusal.specs.House.{house_number}
use Rattle.refusal.proofs.Laws.{one_number}
use Rattle.units.specs.Units.{code, di_unit, contents_code}
use Rattle.table.specs.declared.Kind.TheVariants.{Dt}
use Rattle.table.specs.declared.State.TheVariants.{IDLE, DATA}
use Rattle.table.specs.declared.ToTransport.TheVariants.{Quiet, TDiscReqDi}
use Rattle.table.specs.declared.Timer.TheVariants.{Keep}
use Rattle.table.specs.Table.{pre, SaReportInd, SaDiscInd, a19, to, square_of, square, row_in, table}
use Rattle.table.specs.Steps.{because, carried}
use Rattle.table.proofs.UnitLaws.{unit-quiet, unit-sent, dt-reported, dt_broken}
use Rattle.squares.proofs.received.refuse_dt.Goals as goal

pub returns-in-MacDiffers : goal.returns-in-MacDiffers
unfolding carried square row_in table
returns-in-MacDiffers c =
    unit-quiet Dt DATA (because (pre 5) (code 4 1)) (square_of SaReportInd Quiet Keep (to DATA)) _ _ _ c.requires.1.0 c.requires.0
    (dt-reported _ _ _ c.requires.1.1 refl (ap house_number c.in-MacDiffers.is)) refl refl refl c.acting.ensures.0 (c.acting.ensures.1 ∙ c.entering.ensures)

pub returns-in-UnitContents : goal.returns-in-UnitContents
unfolding carried square row_in table di_unit
returns-in-UnitContents c =
    let n : house_number c.args.h ≡ 9 = ap house_number c.in-UnitContents.is in
    let why = c.contents_code.ensures ∙ sym (ap (λ (n : ℕ). cond (eqb n 9) (contents_code c.args.c.responder c.args.unit.now) (code 10 5)) n) in
    unit-sent Dt DATA (because (pre 6) c.contents_code.result) (square_of SaDiscInd TDiscReqDi a19 (to IDLE)) _ _ _ c.requires.1.0 c.requires.0
    (dt_broken _ _ (house_number c.args.h) _ _ c.requires.1.1 refl (λ e. omega arith) why) refl refl
    c.broken.ensures.0 c.broken.ensures.1 c.broken.ensures.2

pub returns-in_default : goal.returns-in_default
unfolding carried square row_in table di_unit
returns-in_default c =
    let h = c.args.h in
    let n : eqb (house_number h) 9 ≡ false = ne_eqb (house_number h) 9 (λ e. c.in_default.not-UnitContents (one_number h UnitContents e)) in
    unit-sent Dt DATA (because (pre 6) (code 10 5)) (square_of SaDiscInd TDiscReqDi a19 (to IDLE)) _ _ _ c.requires.1.0 c.requires.0
    (dt_broken _ _ (house_number h) _ _ c.requires.1.1 refl (λ e. c.in_default.not-MacDiffers (one_number h MacDiffers e))
    (sym (ap (λ (b : Bool). cond b (contents_code c.args.c.responder c.args.unit.now) (code 10 5)) n)))
    refl refl c.broken-in_default.ensures.0 c.broken-in_default.ensures.1 c.broken-in_default.ensures.2
