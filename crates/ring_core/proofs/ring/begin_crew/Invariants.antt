use Rattle.std.proofs.Common.{◌≡◌, ◌≤◌, ◌<◌, ◌+◌, ℕ, nat_le, if◌then◌else◌, length, drop, Some, slice_get}
use Rattle.ring_core.specs.States.{WorkerState}
use Rattle.ring_core.specs.Workers.{HasBegunWith}
use Rattle.ring_core.specs.Openings.{crew_openings}
use Rattle.ring_core.proofs.ring.begin_crew.Given as goal

abbrev pub invariant-loop-worker : goal.invariant-loop-worker
invariant-loop-worker l = record {
  count : length l.worker-items ≡ length l.fn.crew;
  nodes : length l.spare + crew_openings l.batches l.fn.crew ≡ length l.fn.spare + crew_openings l.batches (drop l.worker-index l.fn.crew);
  rest : (number : ℕ) → l.worker-index ≤ number → slice_get l.worker-items number ≡ slice_get l.fn.crew number;
  begun : (number : ℕ) (new : WorkerState) → number < l.worker-index → slice_get l.worker-items number ≡ Some new
      → (old : WorkerState) → slice_get l.fn.crew number ≡ Some old → HasBegunWith l.first_batch l.batches (if nat_le old.workers (old.number + 1) then l.pieces else 0) old new;
}
