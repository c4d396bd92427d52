-- `convert::convert` meets its contract.
use mathlib.Core.Path.{sym, ◌∙◌}
use native.Mathlib.Omega.{arith}
use lib.ListN.{length}
use borrow.Author.Tests.{eqb-true}
use Rattle.store.specs.Layout.{total}
use Rattle.store.proofs.SoundLaws.{sound_says}
use Rattle.convert.proofs.ConvertLaws.{counts_decide, wrong_source, wrong_target, unsound, no_room, done}
use Rattle.convert.proofs.convert.Goals as goal

pub returns-then-not-has_length : goal.returns-then-not-has_length
returns-then-not-has_length c =
    let a = c.args in
    wrong_source a.source a.target a.from.now a.to.now (sym c.has_length.ensures ∙ c.if-not-has_length.true)

pub returns-then-not-has_length-2 : goal.returns-then-not-has_length-2
returns-then-not-has_length-2 c =
    let a = c.args in
    wrong_target a.source a.target a.from.now a.to.now (sym c.has_length.ensures ∙ c.if-not-has_length.false) (sym c.has_length-2.ensures ∙ c.if-not-has_length-2.true)

pub returns-then-not-is_sound : goal.returns-then-not-is_sound
returns-then-not-is_sound c =
    let a = c.args in
    unsound a.source a.target a.from.now a.to.now (sym c.has_length.ensures ∙ c.if-not-has_length.false) (sym c.has_length-2.ensures ∙ c.if-not-has_length-2.false)
    (sym c.is_sound.ensures ∙ c.if-not-is_sound.true)

pub counts_ok-requires : goal.counts_ok-requires
counts_ok-requires c =
    let a = c.args in
    let w = sound_says a.source a.from.now (sym c.is_sound.ensures ∙ c.if-not-is_sound.false) in
    omega (arith, w.size)

pub returns-then-not-counts_ok : goal.returns-then-not-counts_ok
returns-then-not-counts_ok c =
    let a = c.args in
    let s = sym c.is_sound.ensures ∙ c.if-not-is_sound.false in
    no_room a.source a.target a.from.now a.to.now (sym c.has_length.ensures ∙ c.if-not-has_length.false) (sym c.has_length-2.ensures ∙ c.if-not-has_length-2.false) s
    (sym (counts_decide a.source a.target a.from.now s) ∙ sym c.counts_ok.ensures ∙ c.if-not-counts_ok.true)

pub write-requires : goal.write-requires
write-requires c =
    let a = c.args in
    let s = sym c.is_sound.ensures ∙ c.if-not-is_sound.false in
    record {
      bounded = (c.requires.0, c.requires.1, eqb-true (length a.to.now) (total a.target) (sym c.has_length-2.ensures ∙ c.if-not-has_length-2.false));
      from_value = s;
      from_value_2 = sym (counts_decide a.source a.target a.from.now s) ∙ sym c.counts_ok.ensures ∙ c.if-not-counts_ok.false;
    }

pub returns : goal.returns
returns c =
    let a = c.args in
    let s = sym c.is_sound.ensures ∙ c.if-not-is_sound.false in
    done a.source a.target a.from.now a.to.now (sym c.has_length.ensures ∙ c.if-not-has_length.false) (sym c.has_length-2.ensures ∙ c.if-not-has_length-2.false) s
    (sym (counts_decide a.source a.target a.from.now s) ∙ sym c.counts_ok.ensures ∙ c.if-not-counts_ok.false) c.write.new.to c.write.ensures
