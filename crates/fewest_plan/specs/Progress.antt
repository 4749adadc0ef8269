-- The lines of some of a plan's rounds, by need.
use Rattle.std.specs.Prelude.{◌≡◌, ◌≤◌, ℕ, ◌+◌, ◌*◌, ◌^◌, List, length, take, drop, slice_index_or}
use Rattle.greedy_rules.specs.Schedule.{first_slot, schedule_by}
use Rattle.greedy_rules.specs.Examples.{remaining}
use Rattle.clos_topology.specs.NetSlots.{SlotCores}
use Rattle.report_text.specs.declared.line.Line.{Line}
use Rattle.trace_text.specs.Trace.{TraceContent}
use Rattle.plan_rounds.specs.Batches.{plan_batches}
use Rattle.window_allocation.specs.Scheduled.{cores_from}
use Rattle.run_lines.specs.Text.{no_batch, batch_lines}
use Rattle.run_text.specs.PlanText.{batches_lines}
use Rattle.fewest_plan.specs.declared.planner.Window.{Window}
use Rattle.fewest_plan.specs.Scheduled.{window_slots_by}

-- so many rounds from this one on
abbrev pub fewest_window_lines : SlotCores → ℕ → ℕ → ℕ → TraceContent → List Line
fewest_window_lines cores b first count trace = batches_lines cores b first (take count (drop first (plan_batches trace))) (window_slots_by remaining b (plan_batches trace) first count)

-- the first rounds
abbrev pub fewest_rounds_lines : SlotCores → ℕ → ℕ → TraceContent → List Line
fewest_rounds_lines cores b k trace = batches_lines cores b 0 (take k (plan_batches trace)) (take (k * b) (schedule_by remaining b (plan_batches trace)))

-- the cores that a window names
abbrev pub cores_of_window : ℕ → Window → SlotCores
cores_of_window b window = cores_from (first_slot b window.first) window.cores

-- the batches of a window, each with its slots, and one of them, by its place
abbrev pub lines_of_window : ℕ → Window → List Line
lines_of_window b window = batches_lines (cores_of_window b window) b window.first window.batches.items window.slots.slots

abbrev pub batch_of_window : ℕ → Window → ℕ → List Line
batch_of_window b window at =
    batch_lines (cores_of_window b window) b (window.first + at) (slice_index_or window.batches.items at no_batch) (take b (drop (at * b) window.slots.slots))

-- a window with b slots for each of its batches, all numbers of 32 bits
pub record IsPlanWindow (b : ℕ) (window : Window) : Type 0 where
  pub slots : length window.slots.slots ≡ length window.batches.items * b
  pub few : length window.batches.items ≤ 16
  pub numbers : first_slot b (window.first + length window.batches.items) ≤ 2 ^ 32
  pub core_slots : window.cores.slots ≡ length window.slots.slots
  pub core_endpoints : window.cores.endpoints ≡ window.slots.endpoints
