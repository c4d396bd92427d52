-- Answers as the numbers that C is given: a refusal Hn is -n.
-- Assumes nothing.
use Rattle.std.specs.Prelude.{◌-◌, ℤ, pos, negsuc}
use Rattle.refusal.specs.House.{Answer, house, gives}

abbrev pub code : Answer → ℤ
code (gives n) = pos n
code (house n) = negsuc (n - 1)
