-- The claim of specs/Claims.antt.
-- Assumes nothing.
use mathlib.Core.Path.{ap, ◌∙◌}
use Rattle.des.specs.Bits.{bits}
use Rattle.des.specs.Tables.{p}
use Rattle.des.specs.Des.{permute, select}
use Rattle.des.proofs.BlockLaws.{length-permute}
use Rattle.fast_des.specs.Networks.{middle}
use Rattle.fast_des.specs.Joined.{placed, moved}
use Rattle.fast_des.specs.Claims.{JoinedEntries}
use Rattle.fast_des.proofs.JoinedLaws.{length-joined, joined_at}
use Rattle.fast_des.proofs.InsideLaws.{middle_of}

pub joined-entries : JoinedEntries
unfolding moved p
joined-entries =
    record {
      long = length-joined;
      moves = λ k g hk hg. ap (permute middle) (joined_at k g hk hg).same ∙ middle_of (moved k g) (length-permute p (placed 32 k (select k (bits 6 g))));
      expands = λ k g hk hg. (joined_at k g hk hg).same;
      fits = λ k g hk hg. (joined_at k g hk hg).fits;
    }
