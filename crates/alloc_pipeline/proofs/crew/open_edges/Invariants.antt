use Rattle.std.proofs.Common.{◌≡◌, length, replicate, All}
use Rattle.crossbeam_queue.specs.Passes.{ruled_capacity}
use Rattle.alloc_pipeline.specs.Starts.{AllResting}
use Rattle.alloc_pipeline.specs.Crews.{moved_of}
use Rattle.alloc_pipeline.proofs.crew.open_edges.Given as goal

abbrev pub invariant-loop : goal.invariant-loop
invariant-loop l = record {
  queues : length l.queues.items ≡ l.counter;
  rooms : All (λ queue. ruled_capacity queue ≡ 2040) l.queues.items;
  passes : length l.passes.items ≡ l.counter;
  resting : AllResting l.queues.items 0 l.passes.items;
  moved : moved_of l.passes.items ≡ replicate l.counter 0;
}
