-- `store::search::chosen` meets its contract.
use mathlib.Core.Path.{sym, subst, ◌∙◌}
use Prim.Native.Nat.{ℕ, ◌-◌}
use native.Mathlib.Omega.{arith}
use borrow.Author.Tests.{leb-true, leb-false}
use Rattle.std.specs.Prelude.{None}
use Rattle.store.specs.Store.{key_count}
use Rattle.store.specs.Search.{serves, end_of}
use Rattle.store.proofs.SoundLaws.{sound_says}
use Rattle.store.proofs.DecodeLaws.{entries-length}
use Rattle.store.proofs.LatestLaws.{Best, Held, place_held, best_start, best_here, best_past, best_less, held_taken}
use Rattle.store.proofs.search.chosen.Goals.{else-is_no_later-via-then-is_no_later+else-serves_at, else-is_no_later-via-else-is_no_later}
use Rattle.store.proofs.search.chosen.Goals as goal

pub number_at-i-requires : goal.number_at-i-requires
number_at-i-requires c =
    let w = sound_says c.args.lim c.args.s.now c.requires in
    omega arith

pub loop-i-init : goal.loop-i-init
loop-i-init c =
    let a = c.args in
    let p = serves a.peer a.t in
    let n = key_count a.s.now in
    subst (λ (i : ℕ). Held p a.lim a.s.now n i None) (sym c.number_at-i.ensures.0) (record { best = best_start p a.lim a.s.now n; within = tt })

pub loop-i-preserved-then-serves_at : goal.loop-i-preserved-then-serves_at
loop-i-preserved-then-serves_at c =
    let a = c.args in
    let p = serves a.peer a.t in
    let i = c.loop-i.i in
    let n = key_count a.s.now in
    let held = c.loop-i.taken in
    let e = c.end_at-end.result in
    let later = leb-true (end_of held) e (sym c.is_no_later.ensures ∙ c.if-is_no_later.true) in
    record {
      best =
          subst (λ (x : ℕ). Best p a.lim a.s.now n (i - 1) x e) (omega arith)
          (best_here p a.lim a.s.now n i (place_held held n) (end_of held) (omega arith) (omega arith) c.loop-i.invariant.best e c.end_at-end.ensures
          (sym c.serves_at.ensures ∙ c.if-serves_at.true) later);
      within = (omega arith, omega arith);
    }

pub loop-i-preserved : goal.loop-i-preserved
loop-i-preserved c =
    let a = c.args in
    let p = serves a.peer a.t in
    let n = key_count a.s.now in
    let i = c.loop-i.i in
    let held = c.loop-i.taken in
    let past = place_held held n in
    record {
      best = elim c.else-is_no_later.branch [
        | else-is_no_later-via-then-is_no_later+else-serves_at w ↦
            best_past p a.lim a.s.now n i past (end_of held) (omega arith) (omega arith) c.loop-i.invariant.best (sym w.serves_at.ensures ∙ w.if-serves_at.false)
        | else-is_no_later-via-else-is_no_later w ↦
            best_less p a.lim a.s.now n i past (end_of held) (omega arith) (omega arith) c.loop-i.invariant.best c.end_at-end.result c.end_at-end.ensures
            (leb-false (end_of held) c.end_at-end.result (sym c.is_no_later.ensures ∙ w.if-is_no_later.false))
      ];
      within = c.loop-i.invariant.within;
    }

pub returns : goal.returns
returns c =
    let a = c.args in
    held_taken (serves a.peer a.t) a.lim a.s.now (key_count a.s.now) c.loop-i.i c.loop-i.taken (omega arith) (λ i. key_count a.s.now) (entries-length a.lim a.s.now) c.loop-i.invariant
