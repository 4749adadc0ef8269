-- What is given out for the steps of a replay.
use Rattle.std.specs.Prelude.{◌≡◌, ◌<◌, ◌≤◌, ℕ, ◌+◌, ◌-◌, ◌*◌, ◌^◌, List, [], ◌++◌, length, Option, Some, None, IfSome, Result, OnOk}
use Rattle.std.specs.List.{flat_map, range_with_len}
use Rattle.greedy_rules.specs.Schedule.{first_slot}
use Rattle.clos_topology.specs.NetSlots.{SlotCores}
use Rattle.report_text.specs.declared.line.Line.{Line}
use Rattle.trace_text.specs.Trace.{TraceContent}
use Rattle.replay_rounds.specs.Setting.{setting_of}
use Rattle.replay_rounds.specs.Played.{Played}
use Rattle.run_lines.specs.Content.{OutputContent}
use Rattle.run_lines.specs.Output.{Passes, Passed}
use Rattle.run_lines.specs.Steps.{played_round, StepIsPlayed, cores_of_step}
use Rattle.run_lines.specs.Text.{slots_lines, text_of}
use Rattle.text_output.specs.declared.output.Stop.{Stop}
use Rattle.run_text.specs.ReplayScheduled.{AreReplayCores, WithCoresBetween, AgreeAbove}
use Rattle.run_text.specs.ReplayText.{replay_rounds_lines, replay_window_lines, all_steps_lines}
use Rattle.window_engine.specs.Standing.{EngineState, StandsForReplay, run_of, engine_window}
use Rattle.window_engine.specs.Step.{StepContent}

-- the first so many of the rounds that were played, from this one on
abbrev pub played_lines : ℕ → Played → ℕ → List Line
played_lines first played count = flat_map (played_round first played) (range_with_len 0 count)

-- the slots of a step with their cores, all numbers of 32 bits
pub record HasSlots (b : ℕ) (step : StepContent) : Type 0 where
  pub slots : length step.window.slots.slots ≡ step.window.span.count * b
  pub few : step.window.span.count ≤ 16
  pub numbers : first_slot b (step.window.span.first + step.window.span.count) < 2 ^ 32
  pub core_slots : step.window.cores.slots ≡ step.window.span.count * b
  pub core_endpoints : step.window.cores.endpoints ≡ step.window.slots.endpoints

-- what a step gives
abbrev pub step_text_lines : ℕ → StepContent → List Line
step_text_lines b step = played_lines step.collected.first step.played (length step.played.batches) ++ slots_lines (cores_of_step b step) (first_slot b step.window.span.first) step.window.slots.slots

-- what the next step gives in the run with these cores
abbrev pub next_replay_lines : SlotCores → TraceContent → EngineState → List Line
next_replay_lines cores trace engine =
    replay_rounds_lines (run_of trace cores engine) trace engine.collected (engine_window engine)
    ++ replay_window_lines cores (run_of trace cores engine) engine.allocated engine.collected

-- the lines of the step that is held, if one is
abbrev pub held_lines : ℕ → Option StepContent → List Line
held_lines b None = []
held_lines b (Some step) = step_text_lines b step

-- they may be given out
abbrev pub MayGiveHeld : ℕ → Option StepContent → Type 0
MayGiveHeld b held = IfSome held (λ step. StepIsPlayed step × HasSlots b step)

-- what a step of a replay is, whatever clean cores it stands for: its own slots have clean cores, and with all cores that name
-- those the replay stands on, and the lines of the step are the run's next ones
abbrev pub HoldsStep : ℕ → TraceContent → EngineState → EngineState → StepContent → Type 0
HoldsStep b trace old new step =
    (there : SlotCores) → AreReplayCores b old.g trace there → StandsForReplay trace there old
    → WithCoresBetween b old.g trace there old.allocated old.collected (λ here. (cores : SlotCores)
    → StandsForReplay trace cores old → AgreeAbove (old.allocated * b) ((old.collected - old.allocated) * b) cores here
    → StandsForReplay trace cores new × (step_text_lines b step ≡ next_replay_lines cores trace old))

-- of this text all but what is held was passed on
abbrev pub PassedUpTo : OutputContent → OutputContent → List ℕ → List ℕ → Type 0
PassedUpTo before after held text = (sent : List ℕ) × Passed before after sent × (text ≡ sent ++ held)

-- what all steps give, with these cores
abbrev pub GivesSteps : ℕ → ℕ → TraceContent → EngineState → OutputContent → OutputContent → Result (Unit {0}) Stop → SlotCores → Type 0
GivesSteps b g trace new before after result cores =
    OnOk result (StandsForReplay trace cores new) × Passes before after (text_of (all_steps_lines cores (setting_of trace b g cores) trace)) result
