use Rattle.std.proofs.Common.{◌≤◌}
use Rattle.window_allocation.proofs.batches.count_busy.Given as goal

abbrev pub invariant-loop-at : goal.invariant-loop-at
invariant-loop-at l = l.count ≤ l.at
