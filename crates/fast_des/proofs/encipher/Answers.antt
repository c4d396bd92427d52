-- `fast_des::encipher` meets its contract.
use Rattle.fast_des.proofs.InsideLaws.{enciphers-inside, each-by}
use Rattle.fast_des.proofs.encipher.Goals as goal

pub returns : goal.returns
returns g c =
    let a = c.args in
    let o = c.pass.ensures in
    (each-by _ _ _ _ (λ h r q. enciphers-inside h r a.keys.now q) o.0, enciphers-inside a.last _ a.others.now o.1)
