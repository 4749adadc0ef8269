use Rattle.std.proofs.Common.{◌≡◌, ◌-◌}
use Rattle.window_engine.specs.Standing.{StandsForPlan}
use Rattle.run_lines.specs.Text.{text_of}
use Rattle.run_lines.specs.Output.{Passed}
use Rattle.run_text.specs.Progress.{rounds_lines}
use Rattle.run_text.specs.Scheduled.{WithCores}
use Rattle.run_text.proofs.plan.put_rounds.Given as goal

abbrev pub invariant-loop-engine : goal.invariant-loop-engine
invariant-loop-engine g l = record {
  stands : StandsForPlan l.trace l.engine;
  size : l.engine.b ≡ l.b;
  passed : WithCores l.b l.trace (λ cores.
      Passed l.initial.output l.output (text_of (rounds_lines cores l.b l.engine.collected l.trace)));
}

abbrev pub decreases-loop-engine : goal.decreases-loop-engine
decreases-loop-engine g l = l.trace.rounds - l.engine.collected
