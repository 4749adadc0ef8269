use Rattle.std.proofs.Common.{◌≡◌, ℕ, true, length, take, All}
use Rattle.list_facts.specs.Bits.{names_place}
use Rattle.window_allocation.specs.Logged.{HaveBits}
use Rattle.window_allocation.proofs.item_log.mark_all.Given as goal

abbrev pub invariant-loop-batch : goal.invariant-loop-batch
invariant-loop-batch l = record {
  marked : All (λ batch. HaveBits l.words l.items batch.entries) (take l.batch-index l.batches);
  others : (other : ℕ) → names_place l.fn.words other ≡ true → names_place l.words other ≡ true;
  count : length l.words ≡ length l.fn.words;
}
