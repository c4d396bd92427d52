-- `self_test::mac::plain_chain` meets its contract.
use mathlib.Core.Path.{◌≡◌}
use Rattle.des.specs.Bits.{bits}
use Rattle.authentication.specs.Mac.{chain, mac_string}
use Rattle.self_test.proofs.mac.plain_chain.Given as goal

abbrev pub invariant-loop-k : goal.invariant-loop-k
invariant-loop-k l = bits 64 l.h ≡ chain (bits 64 l.k1) (mac_string l.destination l.m) l.k
