-- `message::written::init_ok` meets its contract.
use mathlib.Core.Path.{◌≡◌, ◌∙◌}
use Prim.Native.Nat.{◌+◌, ◌-◌}
use borrow.Author.Tests.{eq-eqb, lt-ltb}
use Rattle.message.specs.Written.{init_ok}
use lib.ListN.{length, get_or}
use Rattle.octets.specs.Bytes.{part}
use native.Mathlib.Omega.{arith}
use Rattle.message.proofs.WrittenLaws.{elem-any}
use Rattle.message.proofs.written.init_ok.Goals as goal

pub returns : goal.returns
unfolding part init_ok
returns c =
    let m = c.args.m.now in
    let n = get_or m 20 0 in
    let e : 21 + n - 21 ≡ n = omega arith in
    rw e at c.contains.ensures.value ∙ elem-any 2 (part m 21 n) ∙ simp (lt-ltb 20 (length m) c.if-m-le-HEADER.false, eq-eqb (length m) (22 + n) c.if-m-n.false)
