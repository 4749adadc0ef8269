-- The slots of batches that are published, which the lanes count one after the other. From this project's own profile.
use Rattle.std.specs.Prelude.{◌≡◌, ◌<◌, ◌≤◌, ℕ, ◌+◌, ◌^◌, List, ◌∷◌, Option, Some, None, slice_get, All}
use Rattle.greedy_rules.specs.Fronts.{FrontsAreFronts, EveryBatchHasItsSlots}
use Rattle.greedy_rules.specs.Schedule.{first_slot}
use Rattle.greedy_rules.specs.SlotTable.{IsSlotOf}
use Rattle.clos_topology.specs.NetSlots.{SlotCores}
use Rattle.slot_publisher.specs.Window.{PublisherWindow}
use Rattle.endpoint_history.specs.Counts.{Allocation}
use Rattle.lane_rounds.specs.State.{RoundsState}
use Rattle.trace_run.specs.Run.{Setting}
use Rattle.trace_run.specs.Fronts.{EveryRoundHasABatch, ARunBeginsWithEach}
use Rattle.trace_run.specs.Rest.{OwedIsAllocatedOrLeft}
use Rattle.replay_rounds.specs.Standing.{LaneStands, routed_from, slots_between}

-- a window holds the slots of its batches in the schedule of a run, by some cores; their rounds are collected
pub record WindowIsPublished (setting : Setting) (collected : ℕ) (window : PublisherWindow) : Type 0 where
  pub b : setting.b ≡ window.b
  pub some : 0 < window.b
  pub endpoints : window.endpoints ≡ setting.endpoints
  pub behind : window.first_batch + window.count ≤ collected
  pub few : collected < 2 ^ 32
  pub in_range : All (IsSlotOf setting.endpoints) (slots_between setting window.first_batch (window.first_batch + window.count))
  pub cores : SlotCores
  pub slots : window.slots ≡ routed_from cores (first_slot setting.b window.first_batch) (slots_between setting window.first_batch (window.first_batch + window.count))

-- each lane stands for its endpoint's rounds, and counts the slots of so many batches
abbrev pub EachLaneStands : Setting → ℕ → ℕ → List RoundsState → Type 0
EachLaneStands setting collected batches lanes =
    (endpoint : ℕ) (lane : RoundsState) → slice_get lanes endpoint ≡ Some lane → LaneStands setting collected batches endpoint lane

-- one slot more in a batch, where it has a destination
abbrev pub with_slot : ℕ → Option ℕ → List Allocation → List Allocation
with_slot batch None allocations = allocations
with_slot batch (Some dst) allocations = record { dst = dst; batch = batch; slots = 1 } ∷ allocations

-- the laws of schedules and runs that counting rests on
pub record CountingLaws : Type 0 where
  pub fronts : FrontsAreFronts
  pub count : EveryBatchHasItsSlots
  pub batches : EveryRoundHasABatch
  pub begins : ARunBeginsWithEach
  pub owed : OwedIsAllocatedOrLeft
