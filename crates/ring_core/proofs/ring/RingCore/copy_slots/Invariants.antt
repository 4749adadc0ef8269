use Rattle.std.proofs.Common.{◌≡◌, ◌+◌, ◌-◌, ◌*◌, List, [], ◌++◌, length, take, replicate}
use Rattle.greedy_rules.specs.Batches.{DemandBatch}
use Rattle.ring_core.specs.Cores.{IsPlaying}
use Rattle.ring_core.proofs.TakeLemmas.{scheduled_behind}
use Rattle.ring_core.proofs.ring.RingCore.copy_slots.Given as goal

abbrev pub invariant-loop-stage : goal.invariant-loop-stage
invariant-loop-stage l = record {
  slots : (batches : List DemandBatch) → IsPlaying batches l.self
      → l.out.slots ≡ scheduled_behind (take (l.passed * l.self.b) l.fn.out.slots) batches l.self l.stage ++ replicate (length l.fn.out.slots - (l.passed + l.stage) * l.self.b) [];
  count : (batches : List DemandBatch) → IsPlaying batches l.self → length (scheduled_behind (take (l.passed * l.self.b) l.fn.out.slots) batches l.self l.stage) ≡ (l.passed + l.stage) * l.self.b;
  places : length l.out.slots ≡ length l.fn.out.slots;
  endpoints : l.out.endpoints ≡ l.fn.out.endpoints;
}
