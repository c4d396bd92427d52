use mathlib.Core.Path.{◌≡◌, subst}
use mathlib.Core.List.{List}
use Prim.Native.Nat.{ℕ, ◌+◌, ◌*◌, ◌/◌, ◌<◌}
use native.Mathlib.Omega.{arith}
use lib.ListN.{length}
use Rattle.octets.specs.Bytes.{number}
use Rattle.des.specs.Bits.{bits}
use Rattle.fast_des.specs.declared.Halves.{Halves}
use Rattle.fast_des.specs.Inside.{Entered}
use Rattle.authentication.specs.Mac.{block, chain, mac_string}
use Rattle.authentication.proofs.PairLaws.{length-string}
use Rattle.authentication.proofs.MacLaws.{chain-start, block_entered, chain-step}
use borrow.Author.Rules.{rules}
use Rattle.authentication.proofs.cbc.chain_halves.Goals as goal

-- a block of the string, as string_word and enter give it
prepared : (d m : List ℕ) (k x : ℕ) (b : Halves) → length d ≡ 3 → k < (length m + 12) / 8 → x ≡ number 8 (mac_string d m) (8 * k) → Entered b (bits 64 x)
    → Entered b (block (mac_string d m) k)
prepared d m k x b three h e i = block_entered (mac_string d m) k x b (omega (arith, length-string d m three)) e i

pub loop-k-init : goal.loop-k-init
loop-k-init c =
    let a = c.args in
    record {
      chained = chain-start (block a.key.now 0) (mac_string a.destination a.m.now) c.enter-h.result c.enter-h.ensures;
      ready = prepared a.destination a.m.now 0 c.string_word.result c.enter-b.result (search rules) (omega (arith, c.blocks-last.ensures)) c.string_word.ensures c.enter-b.ensures;
    }

pub loop-k-preserved : goal.loop-k-preserved
loop-k-preserved c =
    let keys = c.schedule_at-keys in
    let a = c.args in
    record {
      chained =
          chain-step (block a.key.now 0) (mac_string a.destination a.m.now) keys.result c.loop-k.k c.loop-k.h c.loop-k.b c.add.result c.encipher_halves-h.result
          keys.ensures c.loop-k.invariant.chained c.loop-k.invariant.ready c.add.ensures c.encipher_halves-h.ensures;
      ready = prepared a.destination a.m.now (c.loop-k.k + 1) c.string_word-in-loop-k.result c.enter-next.result (search rules) (omega (arith, c.blocks-last.ensures)) c.string_word-in-loop-k.ensures c.enter-next.ensures;
    }

pub returns : goal.returns
returns c =
    let keys = c.schedule_at-keys in
    let a = c.args in
    let all : c.loop-k.k + 1 ≡ (length a.m.now + 12) / 8 = omega (arith, c.blocks-last.ensures) in
    subst (λ (k : ℕ). Entered c.encipher_halves.result (chain (block a.key.now 0) (mac_string a.destination a.m.now) k)) all
    (chain-step (block a.key.now 0) (mac_string a.destination a.m.now) keys.result c.loop-k.k c.loop-k.h c.loop-k.b c.add-2.result c.encipher_halves.result
    keys.ensures c.loop-k.invariant.chained c.loop-k.invariant.ready c.add-2.ensures c.encipher_halves.ensures)
