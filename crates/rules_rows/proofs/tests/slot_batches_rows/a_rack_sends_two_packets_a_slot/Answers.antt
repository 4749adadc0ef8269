use Rattle.std.proofs.Common.{[], true}
use Rattle.rules_rows.proofs.tests.slot_batches_rows.a_rack_sends_two_packets_a_slot.Goals as goal

pub finish-requires : goal.finish-requires
finish-requires g c = ([], 0, c.begin.ensures.stands)

pub emit-requires : goal.emit-requires
emit-requires g c = (_, [], true, 0, c.finish.ensures.stands [] 0 c.begin.ensures.stands)
