use Rattle.std.proofs.Common.{◌≡◌, map, take, vec_len, vec_capacity}
use Rattle.alloc_pipeline.proofs.crew.name_batches.Given as goal

abbrev pub invariant-loop-batch : goal.invariant-loop-batch
invariant-loop-batch l = record {
  named : map (λ batch. batch.value) l.window.items ≡ take l.batch-index l.batches;
  count : vec_len l.window ≡ l.batch-index;
  capacity : vec_capacity l.window ≡ vec_capacity l.fn.window;
}
