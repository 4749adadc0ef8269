use Rattle.std.proofs.Common.{◌≡◌, ◌≤◌, length, take, drop}
use Rattle.slot_batches.specs.Doubts.{left_of}
use Rattle.slot_batches.proofs.doubts.close_up.Given as goal

abbrev pub invariant-loop-at : goal.invariant-loop-at
invariant-loop-at l = record {
  before : l.to ≤ l.at;
  length : length l.items ≡ length l.fn.items;
  left : take l.to l.items ≡ left_of l.gone 0 (take l.at l.fn.items);
  to_come : drop l.at l.items ≡ drop l.at l.fn.items;
}
