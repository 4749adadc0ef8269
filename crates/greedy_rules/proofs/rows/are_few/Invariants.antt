use Rattle.std.proofs.Common.{◌≤◌}
use Rattle.greedy_rules.proofs.rows.are_few.Given as goal

abbrev pub invariant-loop-word : goal.invariant-loop-word
invariant-loop-word l = l.count ≤ 40
