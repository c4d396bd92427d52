-- `lines::digits::encode` meets its contract.
use Rattle.lines.proofs.HexLaws.{all-written}
use Rattle.lines.proofs.digits.encode.Goals as goal

pub returns : goal.returns
returns c = all-written c.args.s.now c.args.out.now c.put_digits.new.out c.min-n.result c.min-n.ensures c.put_digits.ensures
