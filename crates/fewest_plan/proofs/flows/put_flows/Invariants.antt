use Rattle.greedy_rules.specs.Examples.{remaining}
use Rattle.clos_topology.specs.Network.{endpoints_of}
use Rattle.run_lines.specs.Text.{text_of, each_source}
use Rattle.run_lines.specs.Output.{Passed}
use Rattle.fewest_plan.specs.Text.{flow_lines_by}
use Rattle.fewest_plan.proofs.flows.put_flows.Given as goal

abbrev pub invariant-loop-src : goal.invariant-loop-src
invariant-loop-src g l = Passed l.initial.output l.output (text_of (each_source (flow_lines_by remaining l.planner.b l.trace) (endpoints_of l.trace.net) 0 l.src))
