use Rattle.std.proofs.Common.{◌≡◌, ◌≤◌, ◌-◌, length, take, replicate}
use Rattle.slot_batches.proofs.marks.clear_words.Given as goal

abbrev pub invariant-loop-from : goal.invariant-loop-from
invariant-loop-from l = record {
  within : l.from ≤ length l.words;
  zero_before : take l.from l.words ≡ replicate l.from 0;
  count : length l.words ≡ length l.fn.words;
}

abbrev pub decreases-loop-from : goal.decreases-loop-from
decreases-loop-from l = length l.words - l.from
