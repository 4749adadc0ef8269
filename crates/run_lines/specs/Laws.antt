-- Laws on the counts that lines tell.
use Rattle.std.specs.Prelude.{◌<◌, ◌≤◌, ◌+◌, ℕ, IfSome}
use Rattle.greedy_rules.specs.declared.flows.Flow.{Flow}
use Rattle.trace_run.specs.Run.{Setting}
use Rattle.window_engine.specs.Replay.{replay_counts}

-- what a flow of a replay has acknowledged and lost was allocated
abbrev pub EveryCountHasAFlight : Type 0
EveryCountHasAFlight =
    (setting : Setting) (rounds : ℕ) (flow : Flow) → 0 < setting.g → flow.src < setting.endpoints → flow.dst < setting.endpoints
    → IfSome (replay_counts setting rounds flow) (λ counts. counts.acknowledged + counts.lost ≤ counts.allocated)
