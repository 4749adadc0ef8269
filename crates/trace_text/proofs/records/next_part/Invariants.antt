use Rattle.std.proofs.Common.{◌≤◌}
use Rattle.trace_text.proofs.records.next_part.Given as goal

abbrev pub invariant-loop-at : goal.invariant-loop-at
invariant-loop-at l = l.seen ≤ l.at
