use Rattle.std.proofs.Common.{◌≡◌, ◌+◌, ◌-◌, ◌*◌, ℕ, [], ◌++◌, length, take, replicate}
use Rattle.ring_core.specs.Windows.{Window}
use Rattle.ring_core.proofs.TakeLemmas.{scheduled_behind}
use Rattle.alloc_pipeline.specs.Crews.{HavePlayedOut}
use Rattle.alloc_pipeline.proofs.Copied.{ring_of}
use Rattle.alloc_pipeline.proofs.crew.copy_slots.Given as goal

abbrev pub invariant-loop-stage : goal.invariant-loop-stage
invariant-loop-stage l = record {
  slots : (endpoints most : ℕ) (window : Window) → HavePlayedOut endpoints most l.b l.stages window l.workers
      → l.out.slots ≡ scheduled_behind (take (l.passed * window.b) l.fn.out.slots) window.batches (ring_of window) l.stage ++ replicate (length l.fn.out.slots - (l.passed + l.stage) * window.b) [];
  count : (endpoints most : ℕ) (window : Window) → HavePlayedOut endpoints most l.b l.stages window l.workers
      → length (scheduled_behind (take (l.passed * window.b) l.fn.out.slots) window.batches (ring_of window) l.stage) ≡ (l.passed + l.stage) * window.b;
  places : length l.out.slots ≡ length l.fn.out.slots;
  endpoints : l.out.endpoints ≡ l.fn.out.endpoints;
}
