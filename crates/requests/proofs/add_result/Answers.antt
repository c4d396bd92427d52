-- `requests::add_result` meets its contract.
use Rattle.std.proofs.Common.{sym, ◌∙◌, ◌/◌, length}
use Rattle.octets.proofs.PartLaws.{part-whole}
use Rattle.octets.proofs.WordLaws.{length-numbers}
use Rattle.requests.specs.Worked.{new_entry}
use Rattle.requests.proofs.ResultLaws.{add_not_ours, add_corrupted, add-held, add-full, add-crowded, add_possible, found-held}
use Rattle.requests.proofs.add_result.Goals as goal

pub returns-then-new-own : goal.returns-then-new-own
returns-then-new-own c =
    let a = c.args in
    add_not_ours a.lim a.own a.s.now a.new.recipient (new_entry a.new) c.if-new-own.true

pub returns-then-not-all_odd : goal.returns-then-not-all_odd
returns-then-not-all_odd c =
    let a = c.args in
    let even = sym (rw (part-whole a.new.kmac.now 24 a.new.kmac_long) at c.if-not-all_odd.ensures) in
    add_corrupted a.lim a.own a.s.now a.new.recipient (new_entry a.new) c.if-new-own.false even

pub returns-then-is_some : goal.returns-then-is_some
returns-then-is_some c =
    let a = c.args in
    let odd = sym (rw (part-whole a.new.kmac.now 24 a.new.kmac_long) at c.if-not-all_odd.ensures) in
    let held = found-held a.lim a.s.now a.new.id.issuer a.new.id.serial c.key_place.result c.key_place.ensures.counted (c.key_place.ensures.found a.lim) in
    add-held a.lim a.own a.s.now a.new.recipient (new_entry a.new) c.if-new-own.false odd (held ∙ sym c.if-is_some.ensures)

pub returns-then-lim-n : goal.returns-then-lim-n
returns-then-lim-n c =
    let a = c.args in
    let odd = sym (rw (part-whole a.new.kmac.now 24 a.new.kmac_long) at c.if-not-all_odd.ensures) in
    let held = found-held a.lim a.s.now a.new.id.issuer a.new.id.serial c.key_place.result c.key_place.ensures.counted (c.key_place.ensures.found a.lim) in
    add-full a.lim a.own a.s.now a.new.recipient (new_entry a.new) c.if-new-own.false odd (held ∙ sym c.if-is_some.ensures)
    c.number_at-n.result c.number_at-n.ensures.0 c.if-lim-n.true

pub returns-then-lim-number_at : goal.returns-then-lim-number_at
returns-then-lim-number_at c =
    let a = c.args in
    let b = a.new.peers.bytes.now in
    let odd = sym (rw (part-whole a.new.kmac.now 24 a.new.kmac_long) at c.if-not-all_odd.ensures) in
    let held = found-held a.lim a.s.now a.new.id.issuer a.new.id.serial c.key_place.result c.key_place.ensures.counted (c.key_place.ensures.found a.lim) in
    add-crowded a.lim a.own a.s.now a.new.recipient (new_entry a.new) c.if-new-own.false odd (held ∙ sym c.if-is_some.ensures)
    c.number_at-n.result c.number_at-n.ensures.0 c.if-lim-n.false c.requires c.number_at.result c.count.result c.number_at.ensures.0
    (c.count.ensures ∙ sym (length-numbers b 0 (length b / 4))) c.if-lim-number_at.true

pub returns : goal.returns
returns c =
    let a = c.args in
    let b = a.new.peers.bytes.now in
    let odd = sym (rw (part-whole a.new.kmac.now 24 a.new.kmac_long) at c.if-not-all_odd.ensures) in
    let held = found-held a.lim a.s.now a.new.id.issuer a.new.id.serial c.key_place.result c.key_place.ensures.counted (c.key_place.ensures.found a.lim) in
    add_possible a.lim a.own a.s.now a.new.recipient (new_entry a.new) c.if-new-own.false odd (held ∙ sym c.if-is_some.ensures)
    c.number_at-n.result c.number_at-n.ensures.0 c.if-lim-n.false c.requires c.number_at.result c.count.result c.number_at.ensures.0
    (c.count.ensures ∙ sym (length-numbers b 0 (length b / 4))) c.if-lim-number_at.false
