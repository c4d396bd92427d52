-- `console::session_keys::hold` meets its contract.
use Rattle.std.proofs.Common.{sym, ◌∙◌}
use Rattle.console.specs.Units.{sound_kmac}
use Rattle.console.proofs.BenchLaws.{none-derived}
use Rattle.console.proofs.session_keys.hold.Goals as goal

pub returns-then-not-is_held : goal.returns-then-not-is_held
returns-then-not-is_held c =
    let a = c.args in
    let f = sym c.is_held.ensures ∙ c.if-not-is_held.true in
    none-derived (sound_kmac a.s.now a.place) a.ra a.rb a.held (simp f)

pub returns-in_default : goal.returns-in_default
returns-in_default c =
    let a = c.args in
    let f = sym c.is_held.ensures ∙ c.if-not-is_held.false in
    none-derived (sound_kmac a.s.now a.place) a.ra a.rb a.held (simp f c.in_default.ensures)
