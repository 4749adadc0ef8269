use Rattle.std.proofs.Common.{◌≡◌, ◌≤◌, length}
use Rattle.greedy_rules.specs.declared.flows.Flow.{Flow}
use Rattle.greedy_rules.specs.Recorded.{AreRecorded, demand_of}
use Rattle.rules_rows.proofs.tests.ring_core_rows.window.Given as goal

abbrev pub invariant-loop : goal.invariant-loop
invariant-loop l = record {
  count : length l.window.items ≡ l.counter;
  recorded : AreRecorded 132 (record { hosts = 44; cores = 44 }) l.window.items;
  demands : (flow : Flow) → demand_of l.window.items flow ≤ 1;
}
