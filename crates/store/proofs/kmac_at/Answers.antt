-- `store::kmac_at` meets its contract.
use mathlib.Core.Path.{◌≡◌, ap, ◌∙◌}
use lib.ListN.{length, take, drop}
use Prim.Native.Nat.{ℕ, ◌+◌, ◌-◌, ◌*◌}
use native.Mathlib.Omega.{arith}
use Rattle.octets.specs.Bytes.{part}
use Rattle.store.proofs.SearchLaws.{kmac_long}
use Rattle.store.proofs.kmac_at.Goals as goal

pub returns : goal.returns
unfolding part
returns c =
    let args = c.args in
    let a : ℕ = 12 + 44 * (args.place - 1) + 8 in
    let e : a + 24 - a ≡ 24 = omega arith in
    let is = ap (λ (n : ℕ). take n (drop a args.s.now)) e in
    (is, ap length is ∙ kmac_long args.s.now args.place c.requires)
