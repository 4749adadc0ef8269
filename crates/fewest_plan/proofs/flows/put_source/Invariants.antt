use Rattle.greedy_rules.specs.Examples.{remaining}
use Rattle.run_lines.specs.Text.{text_of, each_destination}
use Rattle.run_lines.specs.Output.{Passed}
use Rattle.fewest_plan.specs.Text.{flow_lines_by}
use Rattle.fewest_plan.proofs.flows.put_source.Given as goal

abbrev pub invariant-loop-dst : goal.invariant-loop-dst
invariant-loop-dst g l = Passed l.initial.output l.output (text_of (each_destination (flow_lines_by remaining l.planner.b l.trace) l.src 0 l.dst))
