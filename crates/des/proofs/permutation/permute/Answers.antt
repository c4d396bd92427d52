use Rattle.std.proofs.Common.{◌≡◌, ◌∙◌, length, List, ℕ, arith, ap, sym, subst}
use Rattle.std.specs.Slice.Iter.{chunks_exact_rest, chunks_exact_size}
use Rattle.des.proofs.TableLaws.{Passed, no_rows, row_names, row_passed, all_rows}
use Rattle.des.proofs.permutation.permute.Goals as goal

pub loop-row-init : goal.loop-row-init
loop-row-init c =
    let a = c.args in
    let same = c.into_iter-row-iterator.ensures.into_iter_gives in
    record {
      size = ap (λ i. chunks_exact_size i) same ∙ c.chunks_exact-row-items.ensures.size;
      passed = subst (λ (l : List ℕ). Passed a.width a.n a.x 0 a.table.now l) (sym (ap (λ i. chunks_exact_rest i) same ∙ c.chunks_exact-row-items.ensures.rest)) (no_rows c.requires);
    }

pub permute_row-requires : goal.permute_row-requires
permute_row-requires c =
    let row = c.in-Some.row.now in
    let step = c.in-Some.ensures.steps.1 in
    let long : length row ≡ c.args.n = step.1 ∙ c.loop-row.invariant.size in
    (row_names row _ c.requires c.loop-row.invariant.passed step.0, omega (arith, c.requires.most))

pub loop-row-preserved : goal.loop-row-preserved
loop-row-preserved c =
    let step = c.in-Some.ensures.steps in
    record {
      size = step.0 ∙ c.loop-row.invariant.size;
      passed = row_passed c.in-Some.row.now _ c.requires c.loop-row.invariant.passed step.1.0 (step.1.1 ∙ c.loop-row.invariant.size) c.permute_row.ensures;
    }

pub returns : goal.returns
returns c =
    let short = c.in-None.ensures.steps.1 in
    all_rows c.requires c.loop-row.invariant.passed (omega (arith, c.loop-row.invariant.size, short.0))
