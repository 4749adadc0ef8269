use Rattle.std.proofs.Common.{length}
use Rattle.greedy_rules.proofs.WalkLemmas.{has_place, lets_in, offer_slot, offer_marks, marked_places}
use Rattle.greedy_rules.proofs.plain.offer.Goals as goal

pub take-requires-clause-free : goal.take-requires-clause-free
take-requires-clause-free c =
    let flow = c.args.item.now.flow in
    let place = has_place (length c.args.sends.now) c.args.marks.now flow c.requires.places c.requires.src c.requires.dst in
    (lets_in c.args.sends.now c.args.marks.now c.args.item.now c.requires.src place c.requires.marks c.if-fits.ensures).1

pub returns-then-fits-clause-slot : goal.returns-then-fits-clause-slot
returns-then-fits-clause-slot c =
    let flow = c.args.item.now.flow in
    let place = has_place (length c.args.sends.now) c.args.marks.now flow c.requires.places c.requires.src c.requires.dst in
    offer_slot c.args.sends.now c.args.marks.now c.args.item.now c.requires.src place c.requires.marks c.if-fits.ensures

pub returns-then-fits-clause-marks : goal.returns-then-fits-clause-marks
returns-then-fits-clause-marks c =
    let flow = c.args.item.now.flow in
    let place = has_place (length c.args.sends.now) c.args.marks.now flow c.requires.places c.requires.src c.requires.dst in
    offer_marks c.args.sends.now c.args.marks.now c.take.new.self c.args.item.now c.requires.src place c.requires.marks
    (record { limits = c.take.ensures.limits; receives = c.take.ensures.receives; leaving = c.take.ensures.leaving; entering = c.take.ensures.entering }) c.if-fits.ensures

pub returns-then-fits-clause-places : goal.returns-then-fits-clause-places
returns-then-fits-clause-places c =
    marked_places (length c.args.sends.now) c.args.item.now.flow c.args.marks.now c.take.new.self
    (record { limits = c.take.ensures.limits; receives = c.take.ensures.receives; leaving = c.take.ensures.leaving; entering = c.take.ensures.entering }) c.requires.places
