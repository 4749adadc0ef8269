use Rattle.std.proofs.Common.{◌≡◌, ◌+◌, ◌-◌, length, take}
use Rattle.alloc_pipeline.specs.Ring.{IsSameRingWork}
use Rattle.window_allocation.specs.Runs.{IsRingOfRuns, ArePlayed}
use Rattle.window_allocation.proofs.RunLemmas.{IsWindow, AreServed}
use Rattle.window_allocation.proofs.runs.Runs.allocate_runs.Given as goal

abbrev pub invariant-loop-served : goal.invariant-loop-served
invariant-loop-served g l = record {
  runs : IsRingOfRuns l.self;
  same : IsSameRingWork l.initial.self.ring l.self.ring;
  window : IsWindow l.self.ring.endpoints l.self.ring.b l.first_batch l.fn.list.items l.batches (length l.fn.out.slots) (length l.fn.list.items + l.fn.list.spare);
  are : AreServed l.self.ring.b l.first_batch l.fn.list.items l.batches (length l.fn.out.slots) l.served l.list.items l.out.slots;
  spare : length l.list.items + l.list.spare ≡ length l.fn.list.items + l.fn.list.spare;
  endpoints : l.out.endpoints ≡ l.fn.out.endpoints;
  played : ArePlayed l.initial.self.ring.b l.first_batch l.initial.self.ring.workers l.fn.list.items (take l.served l.batches) l.initial.self.ring.moved l.self.ring.moved;
}

abbrev pub decreases-loop-served : goal.decreases-loop-served
decreases-loop-served g l = length l.batches - l.served
