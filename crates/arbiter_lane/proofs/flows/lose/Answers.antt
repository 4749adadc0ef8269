use Rattle.std.proofs.Common.{◌+◌, [], ◌∷◌, take, get_or, subst, sym}
use Rattle.fcp_framing.specs.declared.packet.Told.{Told as ToldSlot}
use Rattle.arbiter_lane.specs.Lines.{LosesSlots}
use Rattle.endpoint_history.specs.Packets.{slots_to}
use Rattle.arbiter_lane.proofs.Changes.{Become-then, LosesSlots-then, in_flight-lost, slots_to-next, still_in_flight}
use Rattle.arbiter_lane.proofs.flows.lose.Goals as goal

pub lose_one-requires-clause-in_flight : goal.lose_one-requires-clause-in_flight
lose_one-requires-clause-in_flight c =
    still_in_flight LosesSlots in_flight-lost c.args.told.now c.loop-slot.slot-index (record { offset = 0; core = 0; dst = 0 }) c.args.lines.now c.loop-slot.lines c.loop-slot-test.true c.requires.in_flight c.loop-slot.invariant.lost

pub loop-slot-preserved : goal.loop-slot-preserved
loop-slot-preserved c =
    let told = c.args.told.now in
    let at = c.loop-slot.slot-index in
    let blank : ToldSlot = record { offset = 0; core = 0; dst = 0 } in
    let slot = get_or told at blank in
    record {
      lost = Become-then (λ dst. LosesSlots (slots_to dst (take at told))) (λ dst. LosesSlots (slots_to dst (slot ∷ []))) (λ dst. LosesSlots (slots_to dst (take (at + 1) told)))
          c.args.lines.now c.loop-slot.lines c.lose_one.new.lines c.loop-slot.invariant.lost c.lose_one.ensures.lost
          (λ dst x y z one two.
          subst (λ n. LosesSlots n x z) (sym (slots_to-next dst told at blank c.loop-slot-test.true)) (LosesSlots-then (slots_to dst (take at told)) (slots_to dst (slot ∷ [])) x y z one two));
      marked = λ before. c.lose_one.ensures.marked (c.loop-slot.invariant.marked before);
    }
