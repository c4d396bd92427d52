-- `des::iteration::iterations` meets its contract. The loop's invariant: s holds the block after n iterations.
use mathlib.Core.Path.{◌≡◌}
use Rattle.des.specs.Bits.{bits}
use Rattle.des.specs.Des as Des
use Rattle.des.specs.Words.{keys_of}
use Rattle.des.proofs.iteration.iterations.Given as goal

abbrev pub invariant-loop-n : goal.invariant-loop-n
invariant-loop-n l = bits 64 l.s ≡ Des.rounds (keys_of l.keys l.back) l.n (bits 64 l.lr)
