use Rattle.std.proofs.Common.{[], ◌∷◌, get_or, refl, arith}
use Rattle.std.proofs.lemmas.Option.{slice_get-get_or}
use Rattle.arbiter_lane.specs.Lines.{LosesSlots}
use Rattle.endpoint_history.specs.Packets.{slots_to}
use Rattle.arbiter_lane.proofs.Changes.{Become-set, LosesSlots-none, slots_to-here, slots_to-elsewhere}
use Rattle.arbiter_lane.proofs.Marking.{marked-set}
use Rattle.arbiter_lane.proofs.flows.lose_one.Goals as goal

pub lose-requires : goal.lose-requires
lose-requires c =
    let lines = c.args.lines.now in
    let old = get_or lines c.args.slot.dst c.index-lines-slot.result in
    let one = slots_to-here c.args.slot in
    let some = c.requires.in_flight c.args.slot.dst old (slice_get-get_or lines c.args.slot.dst c.index-lines-slot.result c.requires.destination) in
    omega (arith, one, some)

pub returns-clause-lost : goal.returns-clause-lost
returns-clause-lost c =
    let lines = c.args.lines.now in
    let slot = c.args.slot in
    let old = get_or lines slot.dst c.index-lines-slot.result in
    let one = slots_to-here slot in
    Become-set (λ dst. LosesSlots (slots_to dst (slot ∷ []))) lines slot.dst old (record { opened = old.opened; entered = old.entered; count = c.lose.new.self })
    (slice_get-get_or lines slot.dst c.index-lines-slot.result c.requires.destination)
    (record {
      opened = refl;
      entered = refl;
      count = record {
        demanded = c.lose.ensures.demanded;
        allocated = c.lose.ensures.allocated;
        acknowledged = c.lose.ensures.acknowledged;
        lost = let counted = c.lose.ensures.lost in omega (arith, one, counted);
      };
    })
    (λ dst line other. LosesSlots-none line (slots_to dst (slot ∷ [])) (slots_to-elsewhere dst slot other))

pub returns-clause-marked : goal.returns-clause-marked
returns-clause-marked c = marked-set c.args.risen.now c.set.new.self c.args.lines.now c.args.slot.dst _ c.requires.destination c.set.ensures
