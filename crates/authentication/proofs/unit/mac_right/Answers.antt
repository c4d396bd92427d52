-- `authentication::unit::mac_right` meets its contract.
use mathlib.Core.Path.{◌≡◌, ap, ◌∙◌}
use Prim.Native.Nat.{◌-◌}
use lib.ListN.{length, take, drop, length-drop}
use lib.Seq.{take_all}
use Rattle.octets.specs.Bytes.{same}
use Rattle.authentication.specs.Mac.{mac}
use Rattle.authentication.specs.Unit.{body, mac_of}
use native.Mathlib.Omega.{arith}
use Rattle.authentication.proofs.unit.mac_right.Goals as goal

pub returns : goal.returns
unfolding body mac_of
returns c =
    let a = c.args in
    let u = a.unit.now in
    let n = length u - 8 in
    let e : take (length u - n) (drop n u) ≡ drop n u = take_all (length u - n) (drop n u) (omega (arith, length-drop n u)) in
    c.is_mac.ensures ∙ ap (same (mac a.key.now a.destination (take n u))) e
