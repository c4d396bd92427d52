-- `des::permutation::permute` meets its contract. The loop's invariant: the result holds the bits that the rows passed name.
use Rattle.std.proofs.Common.{◌≡◌}
use Rattle.std.specs.Slice.Iter.{chunks_exact_rest, chunks_exact_size}
use Rattle.des.proofs.TableLaws.{Passed}
use Rattle.des.proofs.permutation.permute.Given as goal

abbrev pub invariant-loop-row : goal.invariant-loop-row
invariant-loop-row l = record {
  size : chunks_exact_size l.row-iterator ≡ l.n;
  passed : Passed l.width l.n l.x l.r l.table (chunks_exact_rest l.row-iterator);
}
