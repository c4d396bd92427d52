use Rattle.std.proofs.Common.{rules}
use mathlib.Core.Path.{◌≡◌, refl, sym, ap, ◌∙◌}
use Prim.Native.Nat.{ℕ, ◌+◌, ◌*◌, ◌<◌}
use lib.ListN.{get_or}
use Rattle.octets.specs.Bytes.{number}
use Rattle.octets.proofs.NumberLaws.{number_more, word_room, word-grow}
use Rattle.authentication.specs.Mac.{mac_string}
use Rattle.authentication.proofs.StringLaws.{string-at}
use native.Mathlib.Omega.{arith}
use Rattle.authentication.proofs.string.word_by_bytes.Goals as goal

pub loop-i-init : goal.loop-i-init
unfolding number
loop-i-init c = (omega arith, refl)

pub overflow_mul-r : goal.overflow_mul-r
overflow_mul-r c = omega (arith, word_room c.loop-i.i c.loop-i.r c.loop-i-test.true c.loop-i.invariant.0)

pub overflow_add-r : goal.overflow_add-r
overflow_add-r c =
    omega (arith, word_room c.loop-i.i c.loop-i.r c.loop-i-test.true c.loop-i.invariant.0)

pub loop-i-preserved : goal.loop-i-preserved
loop-i-preserved c =
    let a = c.args in
    let l = c.loop-i in
    let x = c.from.result in
    let same : x ≡ c.string_byte.result = search rules in
    let s = mac_string a.destination a.m.now in
    let small : x < 256 = omega arith in
    let at : x ≡ get_or s (8 * a.k + l.i) 0 = same ∙ c.string_byte.ensures ∙ sym (string-at a.destination a.m.now (8 * a.k + l.i)) in
    (word-grow l.i l.r x l.invariant.0 small, ap (λ (n : ℕ). n * 256 + x) l.invariant.1 ∙ sym (number_more l.i s (8 * a.k) x at small))
