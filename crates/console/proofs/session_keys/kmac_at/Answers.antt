-- `console::session_keys::kmac_at` meets its contract.
use Rattle.std.proofs.Common.{◌≡◌, ℕ, ◌+◌, ◌-◌, ◌*◌, arith, le-leb}
use Rattle.octets.specs.Bytes.{part}
use Rattle.store.specs.Store.{key_count}
use Rattle.console.proofs.BenchLaws.{held_says}
use Rattle.console.proofs.session_keys.kmac_at.Goals as goal

pub number_at-requires : goal.number_at-requires
number_at-requires c = let w = (held_says c.args.s.now c.requires).says in omega arith

pub slice_bounds-result-end : goal.slice_bounds-result-end
slice_bounds-result-end c = let w = (held_says c.args.s.now c.requires).says in omega arith

pub returns : goal.returns
unfolding part
returns c =
    let at : ℕ = 12 + 44 * (c.args.place - 1) + 8 in
    let e : at + 24 - at ≡ 24 = omega arith in
    simp (le-leb 1 c.args.place (omega arith), le-leb c.args.place (key_count c.args.s.now) (omega arith), e)
