use Rattle.std.proofs.Common.{◌+◌, [], ◌∷◌, take, get_or, subst, sym}
use Rattle.fcp_framing.specs.declared.packet.Told.{Told as ToldSlot}
use Rattle.arbiter_lane.specs.Lines.{AcknowledgesSlots}
use Rattle.endpoint_history.specs.Packets.{slots_to}
use Rattle.arbiter_lane.proofs.Changes.{Become-then, AcknowledgesSlots-then, in_flight-shown, slots_to-next, still_in_flight}
use Rattle.arbiter_lane.proofs.flows.acknowledge.Goals as goal

pub acknowledge_one-requires-clause-in_flight : goal.acknowledge_one-requires-clause-in_flight
acknowledge_one-requires-clause-in_flight c =
    still_in_flight AcknowledgesSlots in_flight-shown c.args.told.now c.loop-slot.slot-index (record { offset = 0; core = 0; dst = 0 }) c.args.lines.now c.loop-slot.lines c.loop-slot-test.true c.requires.in_flight c.loop-slot.invariant

pub loop-slot-preserved : goal.loop-slot-preserved
loop-slot-preserved c =
    let told = c.args.told.now in
    let at = c.loop-slot.slot-index in
    let blank : ToldSlot = record { offset = 0; core = 0; dst = 0 } in
    let slot = get_or told at blank in
    Become-then (λ dst. AcknowledgesSlots (slots_to dst (take at told))) (λ dst. AcknowledgesSlots (slots_to dst (slot ∷ []))) (λ dst. AcknowledgesSlots (slots_to dst (take (at + 1) told)))
    c.args.lines.now c.loop-slot.lines c.acknowledge_one.new.lines c.loop-slot.invariant c.acknowledge_one.ensures
    (λ dst x y z one two.
    subst (λ n. AcknowledgesSlots n x z) (sym (slots_to-next dst told at blank c.loop-slot-test.true)) (AcknowledgesSlots-then (slots_to dst (take at told)) (slots_to dst (slot ∷ [])) x y z one two))
