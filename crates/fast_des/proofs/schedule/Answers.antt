-- `fast_des::schedule` meets its contract: each key by the shifts before it.
use mathlib.Core.Path.{◌≡◌, refl, ap, ◌∙◌}
use mathlib.Core.List.{[], ◌∷◌}
use borrow.Author.Count.{below_none, below_more}
use Rattle.des.specs.Bits.{bits}
use Rattle.des.specs.Tables.{pc1, shifts}
use Rattle.des.specs.Des.{permute, swap, shift_both}
use Rattle.fast_des.proofs.LinearLaws.{along}
use Rattle.fast_des.proofs.ChoiceLaws.{shifts_before, key-along}
use Rattle.fast_des.proofs.schedule.Goals as goal

pub returns : goal.returns
unfolding along shifts_before shifts swap shift_both
returns c =
    let key = bits 64 c.args.key in
    let start : bits 56 c.choice1-cd.result ≡ permute pc1 key = c.choice1-cd.ensures.same in
    let later : bits 56 c.shift_15-cd_15.result ≡ along (15 ∷ []) (permute pc1 key) = c.shift_15-cd_15.ensures.same ∙ ap (shift_both 15) start in
    let from-0 = key-along key [] c.choice1-cd.result start in
    let from-2 = key-along key (2 ∷ []) c.shift_2.result (c.shift_2.ensures.same ∙ ap (shift_both 2) start) in
    let from-15 = key-along key (15 ∷ []) c.shift_15-cd_15.result later in
    let from-17 = key-along key (2 ∷ 15 ∷ []) c.shift_2-2.result (c.shift_2-2.ensures.same ∙ ap (shift_both 2) later) in
    let of-0 = c.choices-from_0.ensures in
    let of-2 = c.choices-from_2.ensures in
    let of-15 = c.choices-from_15.ensures in
    let of-17 = c.choices-from_17.ensures in
    record {
      each =
          (below_more _ 15 (below_more _ 14 (below_more _ 13 (below_more _ 12 (below_more _ 11 (below_more _ 10 (below_more _ 9 (below_more _ 8
          (below_more _ 7 (below_more _ 6 (below_more _ 5 (below_more _ 4 (below_more _ 3 (below_more _ 2 (below_more _ 1 (below_more _ 0 (below_none _)
          (from-17 12 0 _ of-17.3 refl))
          (from-2 0 1 _ of-2.0 refl))
          (from-0 4 2 _ of-0.1 refl))
          (from-2 4 3 _ of-2.1 refl))
          (from-0 8 4 _ of-0.2 refl))
          (from-2 8 5 _ of-2.2 refl))
          (from-0 12 6 _ of-0.3 refl))
          (from-2 12 7 _ of-2.3 refl))
          (from-15 0 8 _ of-15.0 refl))
          (from-17 0 9 _ of-17.0 refl))
          (from-15 4 10 _ of-15.1 refl))
          (from-17 4 11 _ of-17.1 refl))
          (from-15 8 12 _ of-15.2 refl))
          (from-17 8 13 _ of-17.2 refl))
          (from-15 12 14 _ of-15.3 refl))
          (from-0 0 15 _ of-0.0 refl));
    }
