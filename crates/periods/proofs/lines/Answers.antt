-- `periods::lines` is safe and ends.
use Rattle.std.proofs.Common.{length, arith}
use Rattle.store.specs.Layout.{edition_of}
use Rattle.store.proofs.SoundLaws.{sound_says}
use Rattle.records.proofs.Theorems.{held_in_lem}
use Rattle.periods.proofs.lines.Goals as goal

pub number_at-i-end-requires : goal.number_at-i-end-requires
number_at-i-end-requires c =
    let p = held_in_lem (edition_of (length c.args.s.now)) c.args.s.now c.requires in
    let w = sound_says p.0 c.args.s.now p.1 in
    omega (arith, w.size)

pub record_at-requires : goal.record_at-requires
record_at-requires c =
    let p = held_in_lem (edition_of (length c.args.s.now)) c.args.s.now c.requires in
    let w = sound_says p.0 c.args.s.now p.1 in
    (omega (arith, c.number_at-i-end.ensures), omega (arith, w.size, w.keys_fit, c.number_at-i-end.ensures))
