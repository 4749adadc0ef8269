use Rattle.std.proofs.Common.{◌≡◌, ◌-◌}
use Rattle.greedy_rules.specs.Examples.{remaining}
use Rattle.run_lines.specs.Text.{text_of}
use Rattle.run_lines.specs.Output.{Passed}
use Rattle.fewest_plan.specs.Progress.{fewest_rounds_lines}
use Rattle.fewest_plan.specs.Scheduled.{WithCoresBy}
use Rattle.fewest_plan.specs.Standing.{HasPlanned}
use Rattle.fewest_plan.proofs.plan.put_rounds.Given as goal

abbrev pub invariant-loop-planner : goal.invariant-loop-planner
invariant-loop-planner g l = record {
  stands : HasPlanned l.trace l.planner;
  size : l.planner.b ≡ l.b;
  passed : WithCoresBy remaining l.b l.trace (λ cores.
      Passed l.initial.output l.output (text_of (fewest_rounds_lines cores l.b l.planner.collection.rounds l.trace)));
}

abbrev pub decreases-loop-planner : goal.decreases-loop-planner
decreases-loop-planner g l = l.trace.rounds - l.planner.collection.rounds
