-- When a lane stands for the calls that were made of it, with the slots that were counted as allocated (this project's own profile).
use Rattle.std.specs.Prelude.{◌≡◌, ◌<◌, ◌≤◌, ℕ, List, All, Some, slice_get}
use Rattle.ack_window.specs.declared.send_window.Unresolved.{Unresolved}
use Rattle.ack_window.specs.Sends.{numbers_sent}
use Rattle.ack_window.specs.Windows.{HasHeard, HasDone}
use Rattle.endpoint_history.specs.Packets.{Telling}
use Rattle.endpoint_history.specs.Lane.{LaneHistory, epoch_of, version_of, last_reset, arrived, numbers}
use Rattle.endpoint_history.specs.Counts.{Allocation, recorded, acknowledged, lost, told, owed, allocated}
use Rattle.endpoint_history.specs.Entries.{rounds_recorded, counted_from, is_reset, had}
use Rattle.arbiter_lane.specs.declared.line.LaneLine.{LaneLine}
use Rattle.arbiter_lane.specs.State.{LaneState, AreSlots}

pub record StandsForFlow (g : ℕ) (history : LaneHistory) (allocations : List Allocation) (dst : ℕ) (line : LaneLine) : Type 0 where
  pub demanded : line.count.demanded ≡ recorded history dst
  pub allocated : line.count.allocated ≡ allocated history allocations dst
  pub acknowledged : line.count.acknowledged ≡ acknowledged g history dst
  pub lost : line.count.lost ≡ lost g history dst
  pub entered : line.entered ≡ owed g (counted_from history) dst
  pub opened : line.opened ≡ had g history dst

pub record LaneStandsFor (lane : LaneState) (history : LaneHistory) (allocations : List Allocation) : Type 0 where
  pub epoch : lane.epoch ≡ epoch_of history
  pub version : lane.version ≡ version_of history
  pub last_reset : lane.last_reset ≡ last_reset history
  pub arrived : HasHeard lane.arrived (arrived history)
  pub sent : HasDone lane.sent (numbers lane.g history)
  pub sent_version : lane.sent.version ≡ version_of history
  pub flows : (dst : ℕ) (line : LaneLine) → slice_get lane.lines dst ≡ Some line → StandsForFlow lane.g history allocations dst line
  pub round : lane.round ≡ rounds_recorded history
  pub is_reset : lane.is_reset ≡ is_reset history
  pub recorded : All (λ (a : Allocation). a.batch < lane.round) allocations

-- each allocation of the connection tells the endpoint's slots of a batch
abbrev pub TellsSlots : LaneState → LaneHistory → Type 0
TellsSlots lane history = All (λ (number : Unresolved Telling). AreSlots lane.endpoints lane.b lane.endpoint number.content.told) (numbers_sent (numbers lane.g history))

-- there are calls for which it stands
abbrev pub HasLaneHistory : LaneState → Type 0
HasLaneHistory lane = (history : LaneHistory) × (allocations : List Allocation) × LaneStandsFor lane history allocations × TellsSlots lane history

-- of a flow no more slots are told than were counted as allocated, and no more are counted so than are owed
pub record FlowIsWithinLedger (g : ℕ) (history : LaneHistory) (allocations : List Allocation) (dst : ℕ) : Type 0 where
  pub counted : told g history dst ≤ allocated history allocations dst
  pub owed : allocated history allocations dst ≤ owed g history dst
