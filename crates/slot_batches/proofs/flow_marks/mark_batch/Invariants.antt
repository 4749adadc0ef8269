use Rattle.std.proofs.Common.{◌≡◌, true, length, take}
use Rattle.greedy_rules.specs.declared.flows.Flow.{Flow}
use Rattle.slot_batches.specs.Marks.{has_own_bit, HaveOwnBits}
use Rattle.slot_batches.proofs.flow_marks.mark_batch.Given as goal

abbrev pub invariant-loop-at : goal.invariant-loop-at
invariant-loop-at l = record {
  marked : HaveOwnBits (take l.at l.batch.entries) l.words;
  others : (other : Flow) → has_own_bit l.fn.words other ≡ true → has_own_bit l.words other ≡ true;
  count : length l.words ≡ length l.fn.words;
}
