-- What the callers of an endpoint's rounds, of an agent alone and of a lane alone keep of them, for an endpoint of two with batches
-- of one slot and windows of one round (this project's own profile).
use Rattle.std.specs.Prelude.{◌≡◌, ◌≢◌, ◌<◌, ◌≤◌, ◌⊎◌, ℕ, ◌+◌, ◌-◌, Bool, true, false, List, [], ◌∷◌, length, if◌then◌else◌}
use Rattle.fcp_framing.specs.declared.packet.Down.{Down}
use Rattle.fcp_framing.specs.declared.packet.Told.{Told}
use Rattle.endpoint_history.specs.Agent.{AgentHistory, TakenDown, epoch_of, asked, taken}
use Rattle.endpoint_history.specs.Conditions.{LaneCall, history_of, allocations_of, allocated_in, MeetsConditions}
use Rattle.endpoint_history.specs.Rounds.{Round}
use Rattle.endpoint_history.specs.Steps.{agent_of, lane_of, rounds_begun}
use Rattle.endpoint_history.specs.Tellings.{Among}
use Rattle.endpoint_agent.specs.State.{AgentState}
use Rattle.endpoint_agent.specs.Timely.{BatchesAreApart}
use Rattle.endpoint_agent.specs.Standing as agents
use Rattle.arbiter_lane.specs.State.{LaneState}
use Rattle.arbiter_lane.specs.Standing as lanes
use Rattle.lane_rounds.specs.State.{RoundsState}
use Rattle.lane_rounds.specs.Standing.{RoundsStandFor, played_by}

-- the slot of a batch, where it has one
abbrev pub told_of_one : ℕ → Bool → List Told
told_of_one dst one = if one then record { offset = 0; core = 0; dst = dst } ∷ [] else []

-- so many rounds were played, with at most one boot in each and asks to one destination, and the slots of the last two batches are
-- counted as allocated
pub record HasPlayedRounds (state : RoundsState) (dst number asks : ℕ) (before last : Bool) : Type 0 where
  pub whole : state.is_whole ≡ true
  pub endpoints : state.lane.endpoints ≡ 2
  pub b : state.lane.b ≡ 1
  pub g : state.lane.g ≡ 1
  pub at : state.lane.round ≡ number
  pub within : dst < 2
  pub other : dst ≢ state.lane.endpoint
  pub rounds : List Round
  pub calls : List LaneCall
  pub stands : RoundsStandFor state rounds (allocations_of calls)
  pub count : length rounds ≡ number
  pub history : history_of calls ≡ lane_of (played_by state rounds).steps
  pub meets : MeetsConditions state.lane.g calls
  pub begun : rounds_begun (history_of calls) ≡ number
  pub boots : epoch_of (agent_of (played_by state rounds).steps) ≤ number + 1
  pub asked : asked (agent_of (played_by state rounds).steps) dst ≤ asks
  pub counted_before : before ≡ true → 1 ≤ allocated_in (number - 2) (allocations_of calls) dst
  pub counted_last : last ≡ true → 1 ≤ allocated_in (number - 1) (allocations_of calls) dst

-- ---- an agent alone

-- the packets of this boot that told slots are of earlier batches than the last one, or it, and no two are of one batch
pub record IsHeard (agent : AgentState) (round boots asks batch number : ℕ) : Type 0 where
  pub me : agent.me ≡ 0
  pub endpoints : agent.endpoints ≡ 2
  pub b : agent.b ≡ 1
  pub g : agent.g ≡ 1
  pub at : agent.round ≡ round
  pub not_made : agent.is_made ≡ false
  pub epoch : agent.epoch ≡ boots
  pub calls : AgentHistory
  pub stands : agents.AgentStandsFor agent calls
  pub asked : asked calls 1 ≤ asks
  pub apart : BatchesAreApart (taken calls)
  pub told : (t : TakenDown) → Among t (taken calls) → t.packet.content.told ≢ [] →
      (t.packet.content.batch < batch) ⊎ ((t.packet.content.batch ≡ batch) × (t.packet.seq ≡ number))

-- an allocation tells slots two rounds after their batch or later, and of a later batch than the last one, or it is that one
pub record MayBeHeard (round batch number : ℕ) (down : Down) : Type 0 where
  pub destination : down.dst ≡ 0
  pub late : down.told.items ≢ [] → down.batch + 2 ≤ round
  pub next : down.told.items ≢ [] → (batch < down.batch) ⊎ ((down.batch ≡ batch) × (down.seq ≡ number))
  pub rounds : round < 99999

-- ---- a lane alone

-- so many rounds were recorded, the packet of so many was made beyond them, and the slots of the last two batches are counted as
-- allocated
pub record IsServed (lane : LaneState) (dst number made : ℕ) (before last : Bool) : Type 0 where
  pub endpoints : lane.endpoints ≡ 2
  pub b : lane.b ≡ 1
  pub g : lane.g ≡ 1
  pub at : lane.round ≡ number
  pub not_made : made ≡ 0 → lane.is_made ≡ false
  pub within : dst < 2
  pub other : dst ≢ lane.endpoint
  pub calls : List LaneCall
  pub stands : lanes.LaneStandsFor lane (history_of calls) (allocations_of calls)
  pub meets : MeetsConditions 1 calls
  pub begun : rounds_begun (history_of calls) ≡ number + made
  pub counted_before : before ≡ true → 1 ≤ allocated_in (number - 2) (allocations_of calls) dst
  pub counted_last : last ≡ true → 1 ≤ allocated_in (number - 1) (allocations_of calls) dst
