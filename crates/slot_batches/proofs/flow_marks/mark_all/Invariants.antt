use Rattle.std.proofs.Common.{◌≡◌, take, length, All}
use Rattle.slot_batches.specs.Marks.{HaveOwnBits}
use Rattle.slot_batches.proofs.flow_marks.mark_all.Given as goal

abbrev pub invariant-loop-batch : goal.invariant-loop-batch
invariant-loop-batch l = record {
  marked : All (λ batch. HaveOwnBits batch.entries l.words) (take l.batch-index l.batches);
  count : length l.words ≡ length l.fn.words;
}
