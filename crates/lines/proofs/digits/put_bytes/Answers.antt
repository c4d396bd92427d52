use Rattle.std.proofs.Common.{◌≡◌, ℕ, ◌+◌, ◌*◌, ◌≤◌, ◌<◌, true, List, length, get_or, sym, arith}
use Rattle.octets.proofs.SpliceLaws.{splice-none}
use Rattle.lines.specs.Digits.{worth, are_digits}
use Rattle.lines.specs.Digits.{from_hex}
use Rattle.lines.proofs.DigitLaws.{digit_at}
use Rattle.lines.proofs.HexLaws.{bytes_turn}
use Rattle.lines.proofs.digits.put_bytes.Goals as goal

-- both digits of byte i are below 16
nibble : (s : List ℕ) (i n j : ℕ) → are_digits 16 s ≡ true → i < n → 2 * n ≤ length s → j < 2 * i + 2 → worth (get_or s j 0) < 16
nibble s i n j d h l k = digit_at 16 s j d (omega arith)

pub loop-i-init : goal.loop-i-init
unfolding from_hex
loop-i-init c = sym (splice-none _ 0)

pub overflow_mul-out : goal.overflow_mul-out
overflow_mul-out c =
    let e = c.worth.ensures in
    omega (arith, nibble c.args.s.now c.loop-i.i c.args.n (2 * c.loop-i.i) c.requires.2 (omega arith) c.requires.0 (omega arith))

pub overflow_add-out : goal.overflow_add-out
overflow_add-out c =
    let e = c.worth.ensures in
    let f = c.worth-in-loop-i.ensures in
    omega (arith, nibble c.args.s.now c.loop-i.i c.args.n (2 * c.loop-i.i) c.requires.2 (omega arith) c.requires.0 (omega arith), nibble c.args.s.now c.loop-i.i c.args.n (2 * c.loop-i.i + 1) c.requires.2 (omega arith) c.requires.0 (omega arith))

pub loop-i-preserved : goal.loop-i-preserved
loop-i-preserved c =
    let a = c.args in
    bytes_turn a.s.now a.out.now c.loop-i.out c.loop-i.i c.worth.result c.worth-in-loop-i.result (omega (arith, c.requires)) (omega (arith, c.requires))
    c.worth.ensures
    c.worth-in-loop-i.ensures
    c.loop-i.invariant
