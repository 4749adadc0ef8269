-- What contracts see of a lane, and what a call asks of it (this project's own profile).
use Rattle.std.specs.Prelude.{◌≡◌, ◌≢◌, ◌<◌, ◌≤◌, ℕ, ◌+◌, ◌*◌, ◌-◌, Bool, false, List, length, map, All, Some, slice_get, sum_by, if◌then◌else◌}
use Rattle.std.specs.List.Sorted.{IsStrictlyIncreasing}
use Rattle.ack_window.specs.declared.send_window.Unresolved.{Unresolved}
use Rattle.ack_window.specs.Windows.{Receiver, Sender}
use Rattle.fcp_framing.specs.declared.packet.Told.{Told}
use Rattle.fcp_framing.specs.Spelling.{IsCore}
use Rattle.fcp_framing.specs.Versions.{IsVersion}
use Rattle.flow_ledger.specs.FlowCount.{in_flight}
use Rattle.endpoint_history.specs.Packets.{Telling, slots_to}
use Rattle.arbiter_lane.specs.declared.line.LaneLine.{LaneLine}

pub record LaneState : Type 0 where
  -- whose lane it is, of how many endpoints, with batches of b slots and windows of g rounds
  pub endpoint : ℕ
  pub endpoints : ℕ
  pub b : ℕ
  pub g : ℕ
  -- the connection: since which round, and both windows
  pub epoch : ℕ
  pub version : ℕ
  pub last_reset : ℕ
  pub arrived : Receiver
  pub sent : Sender Telling
  -- a line for each destination
  pub lines : List LaneLine
  -- the batches recorded, whether this round's packet was made, and whether a reset was taken in it
  pub round : ℕ
  pub is_made : Bool
  pub is_reset : Bool

-- an endpoint's slots of one batch of b slots: rising, within the batch and the network, none to itself
pub record AreSlots (endpoints b endpoint : ℕ) (told : List Told) : Type 0 where
  pub rising : IsStrictlyIncreasing (map (λ (slot : Told). slot.offset) told)
  pub offsets : All (λ (slot : Told). slot.offset < b) told
  pub cores : All (λ (slot : Told). IsCore slot.core) told
  pub destinations : All (λ (slot : Told). slot.dst < endpoints) told
  pub others : All (λ (slot : Told). slot.dst ≢ endpoint) told

-- the slots to a destination in the numbers of which nothing is known yet
abbrev pub unresolved_to : ℕ → Sender Telling → ℕ
unresolved_to dst sent = sum_by (λ (number : Unresolved Telling). slots_to dst number.content.told) sent.outstanding.unresolved

-- so many slots to each destination are in flight
abbrev pub AreInFlight : (ℕ → ℕ) → List LaneLine → Type 0
AreInFlight slots lines = (dst : ℕ) (line : LaneLine) → slice_get lines dst ≡ Some line → slots dst ≤ in_flight line.count

-- the slots of the batch that is told in a round were counted as allocated: where it is told at all, they are in flight beside
-- those that are still open
abbrev pub AreAllocated : LaneState → ℕ → List Told → Type 0
AreAllocated lane round told =
    0 < lane.epoch → 2 * lane.g ≤ round → lane.last_reset ≤ round - 2 * lane.g →
    (dst : ℕ) (line : LaneLine) → slice_get lane.lines dst ≡ Some line → 0 < slots_to dst told → slots_to dst told + unresolved_to dst lane.sent ≤ in_flight line.count

-- the rounds in which a packet may have been made
abbrev pub rounds_told : LaneState → ℕ
rounds_told lane = lane.round + (if lane.is_made then 1 else 0)

-- what the line of a destination keeps to: at most 64 slots are told a round, those that are open are in flight, and an endpoint
-- has no flow to itself
pub record IsFlow (lane : LaneState) (dst : ℕ) (line : LaneLine) : Type 0 where
  pub demanded : line.count.demanded ≤ 200000000
  pub told : line.count.acknowledged + line.count.lost + unresolved_to dst lane.sent ≤ 64 * rounds_told lane
  pub entered : line.entered ≤ line.count.demanded + line.count.lost
  pub open_slots : unresolved_to dst lane.sent ≤ in_flight line.count
  pub own : dst ≡ lane.endpoint → (line.count.demanded + line.count.lost ≡ 0) × (line.opened ≡ false)

-- what the numbers of every lane keep to
pub record IsSoundLane (lane : LaneState) : Type 0 where
  pub endpoint : lane.endpoint < lane.endpoints
  pub endpoints : lane.endpoints ≤ 256
  pub b : lane.b ≤ 64
  pub as_many : length lane.lines ≡ lane.endpoints
  pub rounds : lane.round ≤ 100000
  pub within : rounds_told lane ≤ 100000
  pub version : IsVersion lane.version
  pub heard_version : lane.arrived.version ≡ lane.version
  pub sent_version : lane.sent.version ≡ lane.version
  pub numbers : lane.sent.outstanding.newest ≤ rounds_told lane
  pub flows : (dst : ℕ) (line : LaneLine) → slice_get lane.lines dst ≡ Some line → IsFlow lane dst line

-- ---- what calls ask, and what they leave

-- a lane may be opened with these sizes
pub record MayOpenLane (source total b g : ℕ) : Type 0 where
  -- an endpoint of a net, which has at most so many
  pub endpoint : source < total
  pub endpoints : total ≤ 256
  -- a batch has 1 to 64 slots
  pub some_slot : 1 ≤ b
  pub most_slots : b ≤ 64
  -- a window has 1 to 16 rounds
  pub some_round : 1 ≤ g
  pub most_rounds : g ≤ 16

-- the packet of a round may be made, which tells these slots
pub record MayMakeDown (lane : LaneState) (number : ℕ) (told : List Told) : Type 0 where
  -- rounds are made and recorded one after the other, from 0 on, so it is the one that is next
  pub round : number ≡ lane.round
  pub rounds : number < 100000
  -- its packet is made once
  pub once : lane.is_made ≡ false
  -- an endpoint's slots of one batch are such; in the first two windows there are none
  pub slots : AreSlots lane.endpoints lane.b lane.endpoint told
  -- they were counted by `allocated` before; `conditions_suffice` shows that this follows
  pub allocated : AreAllocated lane number told

-- whose lane it is, its sizes and its place in the round stay
pub record IsSameLane (old new : LaneState) : Type 0 where
  pub endpoint : new.endpoint ≡ old.endpoint
  pub endpoints : new.endpoints ≡ old.endpoints
  pub b : new.b ≡ old.b
  pub g : new.g ≡ old.g
  -- as many rounds are recorded
  pub round : new.round ≡ old.round
  -- and this round's packet is made, or is not, as before
  pub is_made : new.is_made ≡ old.is_made
