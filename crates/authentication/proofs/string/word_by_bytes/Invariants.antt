-- `authentication::string::word_by_bytes` meets its contract. The loop's invariant: the result is the number in the first i bytes of the block.
use mathlib.Core.Path.{◌≡◌}
use Prim.Native.Nat.{◌*◌, ◌^◌, ◌<◌}
use Rattle.octets.specs.Bytes.{number}
use Rattle.authentication.specs.Mac.{mac_string}
use Rattle.authentication.proofs.string.word_by_bytes.Given as goal

abbrev pub invariant-loop-i : goal.invariant-loop-i
invariant-loop-i l = (l.r < 2 ^ (8 * l.i)) × (l.r ≡ number l.i (mac_string l.destination l.m) (8 * l.k))
