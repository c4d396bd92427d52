-- `self_test::mac::mac_right` meets its contract.
use mathlib.Core.Path.{sym, ◌∙◌, subst⁻¹}
use mathlib.Core.List.{List}
use Prim.Native.Nat.{ℕ}
use borrow.Author.Tests.{eq-eqb}
use Rattle.self_test.specs.Plain.{Blocks}
use Rattle.self_test.proofs.WordLaws.{three-words, same_bytes}
use native.Mathlib.Omega.{arith}
use Rattle.self_test.proofs.mac.mac_right.Goals as goal

pub returns : goal.returns
returns c =
    let whole : Blocks c.join.result 0x456157bfb6abfbe5 0x9d546497bf46cd7a 0xf8ecae25b99b02f8 =
    subst⁻¹ (λ (l : List ℕ). Blocks l 0x456157bfb6abfbe5 0x9d546497bf46cd7a 0xf8ecae25b99b02f8) c.join.ensures (three-words 0x456157bfb6abfbe5 0x9d546497bf46cd7a 0xf8ecae25b99b02f8) in
    eq-eqb c.load.result c.plain_mac-plain.result
    (same_bytes (omega arith) (omega arith) c.load.ensures (c.plain_mac-plain.ensures.by c.join.result whole ∙ sym c.mac-made.ensures))
