use mathlib.Core.Path.{◌≡◌, ap, ◌∙◌}
use Prim.Native.Nat.{◌+◌, ◌*◌, ◌/◌, ◌≤◌}
use lib.ListN.{length}
use Rattle.des.specs.Bits.{bits}
use Rattle.authentication.specs.Mac.{chain, mac_string}
use Rattle.authentication.proofs.PairLaws.{length-string}
use Rattle.self_test.proofs.WordLaws.{chain-none, chain_more}
use native.Mathlib.Omega.{arith}
use borrow.Author.Rules.{rules}
use Rattle.self_test.proofs.mac.plain_chain.Goals as goal

pub loop-k-init : goal.loop-k-init
loop-k-init c =
    let a = c.args in chain-none (bits 64 a.k1) (mac_string a.destination a.m.now)

pub word_by_bytes-requires : goal.word_by_bytes-requires
word_by_bytes-requires c = omega (arith, c.blocks-k-end.ensures)

pub loop-k-preserved : goal.loop-k-preserved
loop-k-preserved c =
    let a = c.args in
    let s = mac_string a.destination a.m.now in
    let fits : 8 * c.loop-k.k + 8 ≤ length s = omega (arith, length-string a.destination a.m.now (search rules), c.blocks-k-end.ensures, c.loop-k-test.true) in
    chain_more (bits 64 a.k1) s c.loop-k.k c.word_by_bytes.result c.loop-k.h c.encipher-h.result fits c.word_by_bytes.ensures c.loop-k.invariant c.encipher-h.ensures

pub returns : goal.returns
returns c =
    let a = c.args in
    let n : c.loop-k.k ≡ (length a.m.now + 12) / 8 = omega (arith, c.blocks-k-end.ensures) in
    c.loop-k.invariant ∙ ap (chain (bits 64 a.k1) (mac_string a.destination a.m.now)) n
