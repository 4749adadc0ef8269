use Rattle.std.proofs.Common.{◌≡◌, ◌+◌, ◌++◌, length}
use Rattle.slot_batches.proofs.chains.append_all.Given as goal

abbrev pub invariant-loop-places : goal.invariant-loop-places
invariant-loop-places l = record {
  items : l.list.items ++ l.from ≡ l.fn.list.items ++ l.fn.from;
  spare : l.list.spare + length l.fn.from ≡ l.fn.list.spare + length l.from;
  loose : length l.loose + length l.from ≡ length l.fn.loose + length l.fn.from;
}

abbrev pub decreases-loop-places : goal.decreases-loop-places
decreases-loop-places l = length l.from
