-- What the callers of a lane keep over its calls gives what its calls ask of its value (this project's own profile).
use Rattle.std.specs.Prelude.{◌≡◌, ◌≤◌, ℕ, List, ◌∷◌, Some, slice_get}
use Rattle.fcp_framing.specs.declared.packet.Told.{Told}
use Rattle.flow_ledger.specs.FlowCount.{pending}
use Rattle.endpoint_history.specs.Lane.{MakesDown}
use Rattle.endpoint_history.specs.Counts.{Allocation}
use Rattle.endpoint_history.specs.Conditions.{LaneCall, Happens, Allocates, history_of, allocations_of, MeetsConditions}
use Rattle.arbiter_lane.specs.declared.line.LaneLine.{LaneLine}
use Rattle.arbiter_lane.specs.State.{LaneState, AreAllocated}
use Rattle.arbiter_lane.specs.Standing.{LaneStandsFor}

pub record ConditionsSuffice : Type 0 where
  -- slots are counted as allocated before they are told, so they are in flight, beside those that are still open
  pub telling : (lane : LaneState) (calls : List LaneCall) (round : ℕ) (told : List Told) → MeetsConditions lane.g (Happens (MakesDown round told) ∷ calls) →
      LaneStandsFor lane (history_of calls) (allocations_of calls) → AreAllocated lane round told
  -- no more slots are allocated than are owed, so they are pending
  pub allocating : (lane : LaneState) (calls : List LaneCall) (allocation : Allocation) (line : LaneLine) → MeetsConditions lane.g (Allocates allocation ∷ calls) →
      LaneStandsFor lane (history_of calls) (allocations_of calls) → lane.last_reset ≤ allocation.batch → slice_get lane.lines allocation.dst ≡ Some line →
      allocation.slots ≤ pending line.count
