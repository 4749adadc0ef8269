use Rattle.std.proofs.Common.{[], ◌∷◌, get_or, refl, arith}
use Rattle.std.proofs.lemmas.Option.{slice_get-get_or}
use Rattle.arbiter_lane.specs.Lines.{AcknowledgesSlots}
use Rattle.endpoint_history.specs.Packets.{slots_to}
use Rattle.arbiter_lane.proofs.Changes.{Become-set, AcknowledgesSlots-none, slots_to-here, slots_to-elsewhere}
use Rattle.arbiter_lane.proofs.flows.acknowledge_one.Goals as goal

pub acknowledge-requires : goal.acknowledge-requires
acknowledge-requires c =
    let lines = c.args.lines.now in
    let old = get_or lines c.args.slot.dst c.index-lines-slot.result in
    let one = slots_to-here c.args.slot in
    let some = c.requires.in_flight c.args.slot.dst old (slice_get-get_or lines c.args.slot.dst c.index-lines-slot.result c.requires.destination) in
    omega (arith, one, some)

pub returns : goal.returns
returns c =
    let lines = c.args.lines.now in
    let slot = c.args.slot in
    let old = get_or lines slot.dst c.index-lines-slot.result in
    let one = slots_to-here slot in
    Become-set (λ dst. AcknowledgesSlots (slots_to dst (slot ∷ []))) lines slot.dst old (record { opened = old.opened; entered = old.entered; count = c.acknowledge.new.self })
    (slice_get-get_or lines slot.dst c.index-lines-slot.result c.requires.destination)
    (record {
      opened = refl;
      entered = refl;
      count = record {
        demanded = c.acknowledge.ensures.demanded;
        allocated = c.acknowledge.ensures.allocated;
        acknowledged = let counted = c.acknowledge.ensures.acknowledged in omega (arith, one, counted);
        lost = c.acknowledge.ensures.lost;
      };
    })
    (λ dst line other. AcknowledgesSlots-none line (slots_to dst (slot ∷ [])) (slots_to-elsewhere dst slot other))
