use Rattle.std.proofs.Common.{◌≡◌, ◌<◌, ◌≤◌, ℕ, Some, slice_get}
use Rattle.ring_core.specs.States.{WorkerState}
use Rattle.ring_core.proofs.ring.RingCore.finished.Given as goal

abbrev pub invariant-loop-worker : goal.invariant-loop-worker
invariant-loop-worker l = (number : ℕ) (worker : WorkerState) → number < l.worker-index → slice_get l.self-inside.crew.items number ≡ Some worker → l.self-inside.stages ≤ worker.stage
