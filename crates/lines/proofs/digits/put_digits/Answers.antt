use mathlib.Core.Path.{sym}
use Rattle.octets.proofs.SpliceLaws.{splice-none}
use Rattle.lines.specs.Digits.{to_hex}
use Rattle.lines.proofs.HexLaws.{digits_turn}
use native.Mathlib.Omega.{arith}
use Rattle.lines.proofs.digits.put_digits.Goals as goal

pub loop-i-init : goal.loop-i-init
unfolding to_hex
loop-i-init c = sym (splice-none _ 0)

pub loop-i-preserved : goal.loop-i-preserved
loop-i-preserved c =
    let a = c.args in
    digits_turn a.s.now a.out.now c.loop-i.out c.loop-i.i c.glyph.result c.glyph-in-loop-i.result (omega (arith, c.requires)) (omega (arith, c.requires))
    c.glyph.ensures
    c.glyph-in-loop-i.ensures
    c.loop-i.invariant
