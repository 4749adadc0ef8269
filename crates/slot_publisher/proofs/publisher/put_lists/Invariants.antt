use Rattle.std.proofs.Common.{◌*◌}
use Rattle.slot_publisher.specs.Places.{ListsArePut}
use Rattle.slot_publisher.proofs.publisher.put_lists.Given as goal

abbrev pub invariant-loop-batch : goal.invariant-loop-batch
invariant-loop-batch l = ListsArePut l.slots l.cores l.b (l.batch * l.slots.endpoints) l.counts l.told
