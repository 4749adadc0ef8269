use Rattle.std.proofs.Common.{◌≡◌, ◌≢◌, ◌+◌, count_ones}
use Rattle.slot_batches.proofs.PutLemmas.{IsPutting}
use Rattle.slot_batches.proofs.filling.put_flow.Given as goal

abbrev pub invariant-loop-rest : goal.invariant-loop-rest
invariant-loop-rest l =
    IsPutting l.flow l.places l.rest l.fn.slots.slots l.slots.slots × (l.rest ≢ 0) × (l.slots.endpoints ≡ l.fn.slots.endpoints) × (l.count + count_ones l.rest ≡ count_ones l.places)

abbrev pub decreases-loop-rest : goal.decreases-loop-rest
decreases-loop-rest l = l.rest
