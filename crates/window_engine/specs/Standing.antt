-- What an engine stands for between its steps: the plan or the replay of a trace, of which so many rounds are collected and the batches
-- of so many allocated (this project's own profile).
use Rattle.std.specs.Prelude.{◌≡◌, ◌⊎◌, ℕ, ◌+◌, ◌-◌, min, List}
use Rattle.greedy_rules.specs.Batches.{DemandBatch}
use Rattle.clos_topology.specs.NetSlots.{SlotCores}
use Rattle.trace_text.specs.Trace.{TraceContent}
use Rattle.trace_run.specs.Run.{Setting}
use Rattle.trace_run.specs.Shown.{IsShown}
use Rattle.replay_rounds.specs.Setting.{setting_of}
use Rattle.replay_rounds.specs.Played.{rounds_played}
use Rattle.replay_rounds.specs.Standing.{slots_between}
use Rattle.window_allocation.specs.Standing.{Allocated}
use Rattle.window_allocation.specs.Windows.{IsWindowOf, jobs_for}
use Rattle.window_allocation.specs.Giving.{HandsOn}
use Rattle.window_engine.specs.Plan.{PlanState, PlanStands}
use Rattle.window_engine.specs.Replay.{ReplayState, ReplayStands}
use Rattle.window_engine.specs.Step.{StepContent, StepIsPlanned, HasCoresOf}
use Rattle.window_engine.specs.declared.engine.EngineRun.{EngineRun}
use Rattle.window_engine.specs.declared.engine.EngineRun.TheVariants.{Plan, Replay}

-- what contracts see of an engine: the slots of a batch and the rounds of a window; the endpoints and the rounds of the trace; how many
-- rounds are collected, and the batches of how many allocated; the half that allocates; and the plan or the replay itself
pub record EngineState : Type 0 where
  pub b : ℕ
  pub g : ℕ
  pub endpoints : ℕ
  pub rounds : ℕ
  pub collected : ℕ
  pub allocated : ℕ
  pub allocation : Allocated
  pub run : EngineRun

-- a plan allocates what it collects in one step
abbrev pub of_plan : PlanState → EngineState
of_plan plan = record {
  b = plan.allocation.b;
  g = plan.g;
  endpoints = plan.endpoints;
  rounds = plan.rounds;
  collected = plan.collection.rounds;
  allocated = plan.collection.rounds;
  allocation = plan.allocation;
  run = Plan plan;
}

abbrev pub of_replay : ReplayState → EngineState
of_replay replay = record {
  b = replay.lanes.b;
  g = replay.lanes.g;
  endpoints = replay.lanes.endpoints;
  rounds = replay.rounds;
  collected = replay.lanes.collected;
  allocated = replay.lanes.published;
  allocation = replay.allocation;
  run = Replay replay;
}

abbrev pub engine_of : EngineRun → EngineState
engine_of (Plan plan) = of_plan plan
engine_of (Replay replay) = of_replay replay

-- ---- what it stands for

pub record StandsForPlan (trace : TraceContent) (engine : EngineState) : Type 0 where
  pub plan : PlanState
  pub is : engine ≡ of_plan plan
  pub stands : PlanStands trace plan

pub record StandsForReplay (trace : TraceContent) (cores : SlotCores) (engine : EngineState) : Type 0 where
  pub replay : ReplayState
  pub is : engine ≡ of_replay replay
  pub stands : ReplayStands trace cores replay

-- for the plan, or for the replay with some cores
abbrev pub StandsForTrace : TraceContent → EngineState → Type 0
StandsForTrace trace engine = StandsForPlan trace engine ⊎ ((cores : SlotCores) × StandsForReplay trace cores engine)

-- the run of the replay with these cores
abbrev pub run_of : TraceContent → SlotCores → EngineState → Setting
run_of trace cores engine = setting_of trace engine.b engine.g cores

-- ---- steps

-- the rounds of the next window
abbrev pub engine_window : EngineState → ℕ
engine_window engine = min engine.g (engine.rounds - engine.collected)

-- the batches that a step allocates: those that it collects in a plan, and in a replay those that wait
abbrev pub batches_to_allocate : EngineRun → List DemandBatch → List DemandBatch
batches_to_allocate (Plan plan) collected = collected
batches_to_allocate (Replay replay) collected = replay.waiting

-- the next window was collected, and each slot of the one that was allocated came out of the ring, whose edges brought all that it was
-- handed
pub record HasStepped (old new : EngineState) (step : StepContent) : Type 0 where
  pub b : new.b ≡ old.b
  pub g : new.g ≡ old.g
  pub endpoints : new.endpoints ≡ old.endpoints
  pub rounds : new.rounds ≡ old.rounds
  pub workers : new.allocation.ring.workers ≡ old.allocation.ring.workers
  pub paths : new.allocation.paths.paths ≡ old.allocation.paths.paths
  pub collected : new.collected ≡ old.collected + engine_window old
  pub span : step.collected ≡ record { first = old.collected; count = engine_window old }
  pub jobs : new.allocation.paths.jobs ≡ old.allocation.paths.jobs + jobs_for step.window.span.count old.b old.allocation.paths.paths
  pub handed : HandsOn old.allocation (batches_to_allocate old.run step.played.batches) new.allocation step.window

-- that window is the next one of the plan, and was allocated
pub record HasPlannedWindow (trace : TraceContent) (old new : EngineState) (step : StepContent) : Type 0 where
  pub stands : StandsForPlan trace new
  pub allocated : new.allocated ≡ old.allocated + engine_window old
  pub planned : StepIsPlanned trace old.b old.collected (engine_window old) step

-- that window is the next one of the replay with these cores, and the one before was allocated
pub record HasReplayedWindow (trace : TraceContent) (cores : SlotCores) (old new : EngineState) (step : StepContent) : Type 0 where
  -- it goes on standing for these cores where they are, for these slots, the ones given
  pub stands : HasCoresOf old.b step cores → StandsForReplay trace cores new
  pub allocated : new.allocated ≡ old.collected
  pub played : step.played ≡ rounds_played (run_of trace cores old) trace old.collected (engine_window old)
  pub span : step.window.span ≡ record { first = old.allocated; count = old.collected - old.allocated }
  pub window : IsWindowOf trace.net old.b (slots_between (run_of trace cores old) old.allocated old.collected) step.window
  -- what the rounds collected so far show, whatever cores are named, and that no loss, delay, repeat or boot harms
  pub shown : (named : SlotCores) → IsShown (run_of trace named old) new.collected
