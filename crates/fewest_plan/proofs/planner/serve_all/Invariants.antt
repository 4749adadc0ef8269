use Rattle.std.proofs.Common.{◌≡◌, ◌*◌, ◌++◌, take, drop}
use Rattle.greedy_rules.specs.Schedule.{schedule_from_by, rest_from_by}
use Rattle.greedy_rules.specs.Examples.{remaining}
use Rattle.fewest_plan.proofs.planner.serve_all.Given as goal

abbrev pub invariant-loop-at : goal.invariant-loop-at
invariant-loop-at l = record {
  slots : l.slots.slots ≡ schedule_from_by remaining l.b l.first l.initial.order.items (take l.at l.batches) ++ drop (l.at * l.b) l.initial.slots.slots;
  list : l.order.items ≡ rest_from_by remaining l.b l.first l.initial.order.items (take l.at l.batches);
  endpoints : l.slots.endpoints ≡ l.initial.slots.endpoints;
  same_endpoints : l.order.endpoints ≡ l.initial.order.endpoints;
  same_b : l.order.b ≡ l.initial.order.b;
}
