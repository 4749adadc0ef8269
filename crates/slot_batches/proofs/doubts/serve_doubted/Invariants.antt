use Rattle.std.proofs.Common.{◌≡◌, ℕ}
use Rattle.slot_batches.specs.Parts.{fill_of, FillingHasRoom, IsSameBatch}
use Rattle.slot_batches.proofs.FedByDoubts.{IsServedTo}
use Rattle.slot_batches.proofs.doubts.serve_doubted.Given as goal

abbrev pub invariant-loop-rest : goal.invariant-loop-rest
invariant-loop-rest l = record {
  room : FillingHasRoom l.filling;
  same : IsSameBatch l.fn.filling.maps.limits l.fn.filling.endpoints l.fn.filling.b l.fn.filling.first_slot l.filling;
  waiting : l.filling.waiting ≡ l.fn.filling.waiting;
  to : (place : ℕ) × IsServedTo l.batch (fill_of l.fn.filling) (fill_of l.filling) l.fn.items l.items l.doubted l.rest l.served place;
}

abbrev pub decreases-loop-rest : goal.decreases-loop-rest
decreases-loop-rest l = l.rest
