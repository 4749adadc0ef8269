-- When an endpoint's agent, its lane and its world stand for a list of rounds, the latest first. From this project's own profile.
use Rattle.std.specs.Prelude.{◌≡◌, ℕ, List, map, length}
use Rattle.loss_world.specs.Arrivals.{Departure}
use Rattle.loss_world.specs.History.{WorldCall, departures_of, WorldStandsFor}
use Rattle.loss_world.specs.InTransit.{Held}
use Rattle.fcp_framing.specs.Spelling.{up_bytes, down_bytes, SpellsUp, SpellsDown}
use Rattle.endpoint_history.specs.Counts.{Allocation}
use Rattle.endpoint_history.specs.Packets.{DownPacket, UpPacket, framed_down, framed_up}
use Rattle.endpoint_history.specs.Reading.{spelled, AsksBelow}
use Rattle.endpoint_history.specs.Rounds.{Round, EachPosted, PlayedEnds, played}
use Rattle.endpoint_history.specs.Steps.{agent_of, lane_of}
use Rattle.endpoint_history.specs.Tellings.{ToldWithin, ToldRises, ToldTo}
use Rattle.endpoint_agent.specs.Standing as agents
use Rattle.arbiter_lane.specs.Standing as lanes
use Rattle.endpoint_agent.specs.State.{AgentState}
use Rattle.arbiter_lane.specs.State.{LaneState}
use Rattle.lane_rounds.specs.State.{RoundsState}

-- the bytes of a packet to an endpoint, and of one from it
abbrev pub spell_down : ℕ → DownPacket → List ℕ
spell_down endpoint packet = down_bytes (framed_down endpoint packet)

abbrev pub spell_up : ℕ → UpPacket → List ℕ
spell_up endpoint packet = up_bytes (framed_up endpoint packet)

-- they keep the rules of packets
abbrev pub IsDownOf : ℕ → ℕ → ℕ → DownPacket → Type 0
IsDownOf endpoint endpoints b packet = SpellsDown endpoints b (spell_down endpoint packet) (framed_down endpoint packet)

abbrev pub IsUpOf : ℕ → ℕ → UpPacket → Type 0
IsUpOf endpoint endpoints packet = SpellsUp endpoints (spell_up endpoint packet) (framed_up endpoint packet)

-- a direction of the world to which these packets were handed, and which was asked for earlier rounds alone
pub record HasCarried (world : Held) (round : ℕ) (sent : List Departure) : Type 0 where
  pub calls : List WorldCall
  pub stands : WorldStandsFor world calls
  pub handed : departures_of calls ≡ sent
  pub asked : AsksBelow round calls

-- both ends of an endpoint and both directions stand for all that was played before a round: each end for its calls, each direction
-- for what was posted, which keeps the rules of packets. What was to be told rose within its batch, and was to endpoints of the net
pub record StandsAt (endpoint endpoints b : ℕ) (one : AgentState) (other : LaneState) (below above : Held) (number : ℕ) (all : PlayedEnds) (allocations : List Allocation) : Type 0 where
  pub agent : agents.AgentStandsFor one (agent_of all.steps)
  pub lane : lanes.LaneStandsFor other (lane_of all.steps) allocations
  pub down : HasCarried below number (map (spelled (spell_down endpoint)) all.down)
  pub up : HasCarried above number (map (spelled (spell_up endpoint)) all.up)
  pub downward : EachPosted (IsDownOf endpoint endpoints b) all.down
  pub upward : EachPosted (IsUpOf endpoint endpoints) all.up
  pub within : ToldWithin b (lane_of all.steps)
  pub rises : ToldRises (lane_of all.steps)
  pub to : ToldTo endpoints (lane_of all.steps)

-- all that was played, by the sizes of a state
abbrev pub played_by : RoundsState → List Round → PlayedEnds
played_by state rounds = played state.lane.endpoints state.lane.g rounds

abbrev pub RoundsStandFor : RoundsState → List Round → List Allocation → Type 0
RoundsStandFor state rounds allocations =
    StandsAt state.lane.endpoint state.lane.endpoints state.lane.b state.agent state.lane state.down state.up (length rounds) (played_by state rounds) allocations

-- there are rounds for which it stands
pub record HasRounds (state : RoundsState) : Type 0 where
  pub rounds : List Round
  pub allocations : List Allocation
  pub stands : RoundsStandFor state rounds allocations
