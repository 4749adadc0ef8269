use Rattle.std.proofs.Common.{◌≡◌, ℕ, true, length, take}
use Rattle.list_facts.specs.Bits.{names_place}
use Rattle.window_allocation.specs.Logged.{HaveBits}
use Rattle.window_allocation.proofs.item_log.mark_batch.Given as goal

abbrev pub invariant-loop-number : goal.invariant-loop-number
invariant-loop-number l = record {
  marked : HaveBits l.words l.items (take l.number l.batch.entries);
  others : (other : ℕ) → names_place l.fn.words other ≡ true → names_place l.words other ≡ true;
  count : length l.words ≡ length l.fn.words;
}
