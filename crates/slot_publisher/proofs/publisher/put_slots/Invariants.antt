use Rattle.slot_publisher.specs.Places.{ListsTell}
use Rattle.slot_publisher.proofs.publisher.put_slots.Given as goal

abbrev pub invariant-loop-offset : goal.invariant-loop-offset
invariant-loop-offset l = ListsTell l.slots l.cores l.from l.b l.offset l.counts l.told
