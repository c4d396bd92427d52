-- `des::shift::rotate28` meets its contract, by the law at 28 bits.
use native.Mathlib.Omega.{arith}
use Rattle.des.proofs.TableLaws.{rotated}
use Rattle.des.proofs.shift.rotate28.Goals as goal

pub returns : goal.returns
returns c = rotated 28 c.args.n c.args.x c.requires (omega arith)
