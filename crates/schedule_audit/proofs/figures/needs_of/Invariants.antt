use Rattle.std.proofs.Common.{◌≡◌, take}
use Rattle.greedy_rules.specs.declared.flows.Flow.{Flow}
use Rattle.greedy_rules.specs.Demands.{item_of, need_in}
use Rattle.schedule_audit.specs.FlowNumbers.{flow_number_of}
use Rattle.schedule_audit.proofs.figures.needs_of.Given as goal

abbrev pub invariant-loop-at : goal.invariant-loop-at
invariant-loop-at l = record {
  needs : (flow : Flow) → flow_number_of l.left flow ≡ need_in (item_of (take l.at l.list.items) flow);
  endpoints : l.left.endpoints ≡ l.endpoints;
}
