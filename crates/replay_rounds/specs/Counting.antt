-- How a lane counts the slots of a run's schedule, one after the other. From this project's own profile.
use Rattle.std.specs.Prelude.{◌≡◌, ◌<◌, ◌≤◌, ℕ, ◌+◌, ◌-◌, ◌*◌, true, List, length, take, Option, None, option_map}
use Rattle.std.specs.List.{slice_index_or}
use Rattle.fcp_framing.specs.declared.packet.Told.{Told}
use Rattle.greedy_rules.specs.declared.flows.Flow.{Flow}
use Rattle.greedy_rules.specs.SlotTable.{IsSlotOf, destination_of}
use Rattle.greedy_rules.specs.Allocation.{slots_of}
use Rattle.greedy_rules.specs.Schedule.{slot_in, schedule}
use Rattle.greedy_rules.specs.Cells.{flow_of}
use Rattle.slot_publisher.specs.Window.{RoutedFlow}
use Rattle.slot_publisher.specs.Told.{told_from}
use Rattle.endpoint_history.specs.Counts.{Allocation}
use Rattle.lane_rounds.specs.State.{RoundsState}
use Rattle.lane_rounds.specs.Standing.{RoundsStandFor}
use Rattle.trace_run.specs.Run.{Setting, replayed}
use Rattle.trace_run.specs.Allocations.{since}

abbrev pub schedule_of : Setting → ℕ → List (List Flow)
schedule_of setting rounds = schedule setting.b (replayed setting rounds).batches

-- the slots of a flow among the first so many
abbrev pub among_first : Setting → ℕ → ℕ → ℕ → ℕ → ℕ
among_first setting all places src dst = slots_of (flow_of src dst) (take places (schedule_of setting all))

-- a lane that counted so many slots of the schedule of all batches
pub record HasCounted (setting : Setting) (collected all places src : ℕ) (lane : RoundsState) : Type 0 where
  pub own : lane.lane.endpoint ≡ src
  pub endpoints : lane.lane.endpoints ≡ setting.endpoints
  pub b : lane.lane.b ≡ setting.b
  pub g : lane.lane.g ≡ setting.g
  pub whole : lane.is_whole ≡ true
  pub round : lane.lane.round ≡ collected
  pub allocations : List Allocation
  pub counted : (from dst : ℕ) → dst < setting.endpoints → since from allocations dst ≡ among_first setting all places src dst - among_first setting all (from * setting.b) src dst
  pub stands : RoundsStandFor lane ((replayed setting collected).rounds src) allocations

-- the slot in this place of the schedule, and where the source sends in it
pub record IsPlace (setting : Setting) (all place src : ℕ) (to : Option ℕ) : Type 0 where
  pub within : place < all * setting.b
  pub some : 0 < setting.b
  pub one : IsSlotOf setting.endpoints (slot_in (schedule_of setting all) place)
  pub goes : to ≡ destination_of (slot_in (schedule_of setting all) place) src

-- a lane that counted its slots of a batch up to one, from which on it is told of these
pub record IsRest (setting : Setting) (collected all src batch : ℕ) (lane : RoundsState) (told : List Told) : Type 0 where
  pub offset : ℕ
  pub packets : List (Option RoutedFlow)
  pub whole : offset + length packets ≡ setting.b
  pub is : told ≡ told_from offset packets
  pub places : (k : ℕ) → k < length packets →
      IsPlace setting all (batch * setting.b + (offset + k)) src (option_map (λ packet. packet.flow.dst) (slice_index_or packets k None))
  pub has : HasCounted setting collected all (batch * setting.b + offset) src lane

-- the slots of so many batches may be counted for a source
pub record MayCount (setting : Setting) (collected all src : ℕ) : Type 0 where
  pub behind : all ≤ collected
  pub src_below : src < setting.endpoints
