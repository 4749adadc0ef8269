-- The parts of a step.
use Rattle.std.specs.Prelude.{◌≡◌, ◌<◌, ◌≤◌, ℕ, ◌+◌, ◌*◌, ◌^◌, List, [], ◌++◌, length, map, take, drop, All, IfSome, slice_index_or}
use Rattle.std.specs.List.{flat_map}
use Rattle.greedy_rules.specs.Schedule.{first_slot}
use Rattle.clos_topology.specs.NetSlots.{SlotCores}
use Rattle.report_text.specs.declared.line.Line.{Line}
use Rattle.report_text.specs.Names.{IsRefusal}
use Rattle.replay_rounds.specs.Played.{Played}
use Rattle.window_engine.specs.Scheduled.{cores_from}
pub use Rattle.window_engine.specs.Step.{StepContent}
use Rattle.run_lines.specs.Text.{no_batch, entry_line, batch_lines, refused_line, sent_line}

-- ---- of a plan

-- the cores that a step names
abbrev pub cores_of_step : ℕ → StepContent → SlotCores
cores_of_step b step = cores_from (first_slot b step.window.span.first) step.window.cores

-- a batch of a step, by its place, with its b slots
abbrev pub batch_of_step : ℕ → StepContent → ℕ → List Line
batch_of_step b step at =
    batch_lines (cores_of_step b step) b (step.window.span.first + at) (slice_index_or step.played.batches at no_batch) (take b (drop (at * b) step.window.slots.slots))

-- a step with b slots for each of its batches, all numbers of 32 bits
pub record IsStepWindow (b : ℕ) (step : StepContent) : Type 0 where
  pub same_batches : step.window.span.first ≡ step.collected.first
  pub all_allocated : step.window.span.count ≡ length step.played.batches
  pub slots : length step.window.slots.slots ≡ step.window.span.count * b
  pub few : step.window.span.count ≤ 16
  pub numbers : (step.window.span.first + step.window.span.count) * b + 1 ≤ 2 ^ 32
  pub core_slots : step.window.cores.slots ≡ length step.window.slots.slots
  pub core_endpoints : step.window.cores.endpoints ≡ step.window.slots.endpoints

-- ---- of a replay

-- one of the rounds that were played, by its place; the one at place 0 has this number
abbrev pub played_round : ℕ → Played → ℕ → List Line
played_round first played at =
    (map (entry_line (first + at)) (slice_index_or played.batches at no_batch).entries ++ flat_map (refused_line (first + at)) (slice_index_or played.answers at []))
    ++ map sent_line (slice_index_or played.departures at [])

-- a step with answers and departures for each of the rounds that it played, all numbers of 32 bits, and each refusal with its name
pub record StepIsPlayed (step : StepContent) : Type 0 where
  pub answers : length step.played.answers ≡ length step.played.batches
  pub departures : length step.played.departures ≡ length step.played.batches
  pub named : All (All (λ answer. IfSome answer IsRefusal)) step.played.answers
  pub numbers : step.collected.first + length step.played.batches < 2 ^ 32
