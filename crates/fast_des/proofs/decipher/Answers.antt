-- `fast_des::decipher` meets its contract.
use Rattle.fast_des.proofs.InsideLaws.{deciphers-inside, each-by}
use Rattle.fast_des.proofs.decipher.Goals as goal

pub returns : goal.returns
returns g c =
    let a = c.args in
    let o = c.pass.ensures in
    (each-by _ _ _ _ (λ h r q. deciphers-inside h r a.keys.now q) o.0, deciphers-inside a.last _ a.others.now o.1)
