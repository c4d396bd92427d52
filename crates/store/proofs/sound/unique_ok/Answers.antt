use mathlib.Core.Path.{◌≡◌, refl, sym, ap, ◌∙◌}
use mathlib.Core.Bool.{true, false}
use lib.ListN.{get_or, length-set}
use native.Mathlib.Omega.{arith}
use Rattle.octets.specs.Bytes.{all_below}
use Rattle.octets.proofs.BoolLaws.{all_below_more, all_below_fails}
use Rattle.store.specs.Store.{key_count, new_key, unique_ok}
use Rattle.store.specs.Slots.{slot_of, fingerprint_of, suspect, marked_by}
use Rattle.store.proofs.SlotLaws.{marked-none, marked_more, not-suspect-new}
use Rattle.store.proofs.sound.unique_ok.Goals as goal
use Rattle.store.proofs.sound.unique_ok.Goals.{else-is_suspect-via-then-is_suspect+else-not-new_key, else-is_suspect-via-else-is_suspect}

pub loop-i-init : goal.loop-i-init
unfolding all_below
loop-i-init c = (refl, refl, marked-none c.args.s.now _)

pub returns-then-not-new_key : goal.returns-then-not-new_key
unfolding unique_ok
returns-then-not-new_key c =
    let s = c.args.s.now in
    sym (all_below_fails (key_count s) c.loop-i.i (new_key s) (omega arith) (sym c.new_key.ensures ∙ c.if-not-new_key.true))

pub loop-i-preserved : goal.loop-i-preserved
loop-i-preserved c =
    let s = c.args.s.now in
    let i = c.loop-i.i in
    let marks = c.loop-i.marks in
    let k = c.slot_of-k.result in
    let passed : c.is_suspect.result ≡ false → new_key s i ≡ true =
    λ f. not-suspect-new s i k marks c.loop-i.invariant.2 (c.slot_of-k.ensures.0 ∙ ap slot_of c.hash_at-hash.ensures) (ap (suspect (get_or marks k 0)) (sym (c.fingerprint_of-fingerprint.ensures ∙ ap fingerprint_of c.hash_at-hash.ensures)) ∙ sym c.is_suspect.ensures ∙ f) in
    let is-new : new_key s i ≡ true = elim c.else-is_suspect.branch [ else-is_suspect-via-then-is_suspect+else-not-new_key w ↦ sym w.new_key.ensures ∙ w.if-not-new_key.false | else-is_suspect-via-else-is_suspect w ↦ passed w.if-is_suspect.false ] in (
      all_below_more i (new_key s) c.loop-i.invariant.0 is-new,
      length-set marks k c.marked.result ∙ c.loop-i.invariant.1,
      marked_more s i k c.marked.result marks c.loop-i.invariant.2 (c.slot_of-k.ensures.0 ∙ ap slot_of c.hash_at-hash.ensures) (omega (arith, c.slot_of-k.ensures.1, c.loop-i.invariant.1)) (c.marked.ensures ∙ ap (marked_by (get_or marks k 0)) (c.fingerprint_of-fingerprint.ensures ∙ ap fingerprint_of c.hash_at-hash.ensures)),
    )

pub returns : goal.returns
unfolding unique_ok
returns c =
    let e : c.loop-i.i ≡ key_count c.args.s.now = omega arith in
    sym (rw e at c.loop-i.invariant.0)
