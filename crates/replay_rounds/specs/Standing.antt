-- What the rounds of all endpoints stand for between two windows: the run of a trace, of which so many rounds are collected, the
-- batches of so many published, and the slots of so many of these counted. From this project's own profile.
use Rattle.std.specs.Prelude.{◌≡◌, ◌<◌, ◌≤◌, ℕ, ◌+◌, ◌*◌, true, List, [], ◌∷◌, length, drop, Some, slice_get, All}
use Rattle.greedy_rules.specs.declared.flows.Flow.{Flow}
use Rattle.greedy_rules.specs.SlotTable.{Slots, IsSlotOf}
use Rattle.greedy_rules.specs.Schedule.{first_slot, schedule}
use Rattle.clos_topology.specs.Network.{endpoints_of}
use Rattle.clos_topology.specs.NetSlots.{SlotCores, AreSlotCores}
use Rattle.slot_publisher.specs.CoreTable.{CoreSlots, core_of}
use Rattle.slot_publisher.specs.Window.{RoutedFlow, PublisherWindow, with_cores}
use Rattle.endpoint_history.specs.Counts.{Allocation}
use Rattle.lane_rounds.specs.State.{RoundsState}
use Rattle.lane_rounds.specs.Standing as lanes
use Rattle.trace_text.specs.Trace.{TraceContent}
use Rattle.trace_run.specs.Run.{Setting, replayed}
use Rattle.trace_run.specs.Allocations.{AreCounted}
use Rattle.replay_rounds.specs.Setting.{setting_of}

-- what contracts see of all endpoints' rounds: how many are collected, the batches of how many are published, and of how many of these
-- the lanes have counted the slots; a lane for each endpoint; and the window that was published last
pub record RoundsContent : Type 0 where
  pub endpoints : ℕ
  pub b : ℕ
  pub g : ℕ
  pub collected : ℕ
  pub published : ℕ
  pub counted : ℕ
  pub lanes : List RoundsState
  pub window : PublisherWindow

-- the run with these cores
abbrev pub setting_with : TraceContent → SlotCores → RoundsContent → Setting
setting_with trace cores all = setting_of trace all.b all.g cores

-- slots with their cores, the first of this number
abbrev pub routed_from : SlotCores → ℕ → List (List Flow) → List (List RoutedFlow)
routed_from cores number [] = []
routed_from cores number (slot ∷ slots) = with_cores (cores number) slot ∷ routed_from cores (number + 1) slots

-- the slots of the batches of so many rounds of a run, from this batch on
abbrev pub slots_between : Setting → ℕ → ℕ → List (List Flow)
slots_between setting first rounds = drop (first * setting.b) (schedule setting.b (replayed setting rounds).batches)

-- an endpoint's rounds stand for its rounds of the run, and its lane counts the slots of so many batches
pub record LaneStands (setting : Setting) (collected batches endpoint : ℕ) (lane : RoundsState) : Type 0 where
  pub own : lane.lane.endpoint ≡ endpoint
  pub endpoints : lane.lane.endpoints ≡ setting.endpoints
  pub b : lane.lane.b ≡ setting.b
  pub g : lane.lane.g ≡ setting.g
  pub whole : lane.is_whole ≡ true
  pub round : lane.lane.round ≡ collected
  pub allocations : List Allocation
  pub counted : AreCounted setting batches 0 endpoint allocations
  pub stands : lanes.RoundsStandFor lane ((replayed setting collected).rounds endpoint) allocations

pub record AllRoundsStand (trace : TraceContent) (cores : SlotCores) (all : RoundsContent) : Type 0 where
  pub named : AreSlotCores cores
  pub batch : (0 < all.b) × (all.b ≤ 64)
  pub rounds : (0 < all.g) × (all.g ≤ 16)
  pub endpoints : all.endpoints ≡ endpoints_of trace.net
  pub within : all.collected ≤ trace.rounds
  pub behind : all.published ≤ all.collected
  pub counted : (all.window.first_batch ≤ all.counted) × (all.counted ≤ all.published)
  pub wide : length all.lanes ≡ all.endpoints
  pub lanes : (endpoint : ℕ) (lane : RoundsState) → slice_get all.lanes endpoint ≡ Some lane →
      LaneStands (setting_with trace cores all) all.collected all.counted endpoint lane
  pub served : all.window.endpoints ≡ all.endpoints
  pub room : all.window.batches ≡ all.g
  pub size : all.window.b ≡ all.b
  pub held : all.window.first_batch + all.window.count ≡ all.published
  pub slots : all.window.slots
      ≡ routed_from cores (first_slot all.b all.window.first_batch) (slots_between (setting_with trace cores all) all.window.first_batch all.published)
  pub in_range : All (IsSlotOf all.endpoints) (slots_between (setting_with trace cores all) all.window.first_batch all.published)

-- ---- what is published next

-- the cores of the slots from this number on stand in a table, whose place 0 is the first of them
abbrev pub AreOfTable : SlotCores → ℕ → ℕ → CoreSlots → Type 0
AreOfTable cores number count table = (at source : ℕ) → at < count → cores (number + at) source ≡ core_of table at source

-- these are the slots of the next so many batches, with their cores
pub record IsNextWindow (trace : TraceContent) (cores : SlotCores) (all : RoundsContent) (count : ℕ) (slots : Slots) (table : CoreSlots) : Type 0 where
  pub allocated : slots.slots ≡ slots_between (setting_with trace cores all) all.published (all.published + count)
  pub routed : AreOfTable cores (first_slot all.b all.published) (count * all.b) table
