use Rattle.std.proofs.Common.{◌<◌, [], ◌∷◌, length, map, false, All, get_or, subst, sym}
use Rattle.fcp_framing.specs.declared.packet.Told.{Told as ToldSlot}
use Rattle.ack_window.specs.declared.send_window.Decided.{Decided as DecidedNumber}
use Rattle.endpoint_history.specs.Packets.{Telling as TellingOf, slots_to}
use Rattle.arbiter_lane.specs.State.{AreInFlight}
use Rattle.arbiter_lane.specs.Lines.{Become, DecidesSlots, slots_shown, slots_lost}
use Rattle.arbiter_lane.specs.Places.{decided_with}
use Rattle.arbiter_lane.proofs.Carrying.{as_many, decided-at}
use Rattle.arbiter_lane.proofs.Changes.{still_undecided, DecidesSlots-next}
use Rattle.arbiter_lane.proofs.flows.decide.Goals as goal

-- what stands for a number past the end
abbrev no_number : DecidedNumber (Unit {0})
no_number = record { number = 0; lost = false; content = tt }

pub decide_one-requires-clause-destinations : goal.decide_one-requires-clause-destinations
decide_one-requires-clause-destinations c =
    let places = c.args.places.now in
    let at = c.loop-number.number-index in
    let number = get_or c.args.found.now at no_number in
    let within = subst (λ n. at < n) (sym (as_many places c.args.found.now)) c.loop-number-test.true in
    subst (λ n. All (λ (slot : ToldSlot). slot.dst < n) (decided_with places number).content.told) (sym c.loop-number.invariant.decided.as_many)
    (subst (λ (d : DecidedNumber TellingOf). All (λ (slot : ToldSlot). slot.dst < length c.args.lines.now) d.content.told) (decided-at places c.args.found.now at no_number)
    (c.requires.destinations at (decided_with places no_number) within))

pub decide_one-requires-clause-in_flight : goal.decide_one-requires-clause-in_flight
decide_one-requires-clause-in_flight c =
    let places = c.args.places.now in
    let found = map (decided_with places) c.args.found.now in
    let at = c.loop-number.number-index in
    let number = get_or c.args.found.now at no_number in
    let within = subst (λ n. at < n) (sym (as_many places c.args.found.now)) c.loop-number-test.true in
    subst (λ (d : DecidedNumber TellingOf). AreInFlight (λ dst. slots_to dst d.content.told) c.loop-number.lines) (decided-at places c.args.found.now at no_number)
    (still_undecided found at (decided_with places no_number) c.args.lines.now c.loop-number.lines within c.requires.in_flight c.loop-number.invariant.decided)

pub loop-number-preserved : goal.loop-number-preserved
loop-number-preserved c =
    let places = c.args.places.now in
    let found = map (decided_with places) c.args.found.now in
    let at = c.loop-number.number-index in
    let number = get_or c.args.found.now at no_number in
    let within = subst (λ n. at < n) (sym (as_many places c.args.found.now)) c.loop-number-test.true in
    record {
      decided = DecidesSlots-next found at (decided_with places no_number) c.args.lines.now c.loop-number.lines c.decide_one.new.lines within c.loop-number.invariant.decided
          (subst (λ (d : DecidedNumber TellingOf). Become (λ dst. DecidesSlots (slots_shown (d ∷ []) dst) (slots_lost (d ∷ []) dst)) c.loop-number.lines c.decide_one.new.lines) (sym (decided-at places c.args.found.now at no_number)) c.decide_one.ensures.decided);
      marked = λ before. c.decide_one.ensures.marked (c.loop-number.invariant.marked before);
    }
