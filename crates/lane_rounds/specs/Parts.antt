-- What the parts of a round make of each end and of each direction. From this project's own profile.
use Rattle.std.specs.Prelude.{◌≡◌, ◌≢◌, ℕ, ◌+◌, ◌*◌, ◌<◌, ◌≤◌, Bool, true, false, List, [], ◌∷◌, take, Option, None, Some, option_map, option_to_list}
use Rattle.loss_world.specs.declared.fate.Fate.{Fate}
use Rattle.loss_world.specs.Arrivals.{Departure}
use Rattle.loss_world.specs.InTransit.{Held, with_packet}
use Rattle.fcp_framing.specs.declared.packet.Down.{Down}
use Rattle.fcp_framing.specs.Fields.{up_of, down_of}
use Rattle.fcp_framing.specs.Spelling.{down_bytes}
use Rattle.endpoint_history.specs.Packets.{DownPacket, UpPacket, up_packet, down_packet, slots_to}
use Rattle.endpoint_history.specs.Agent.{AgentHistory, TakesDown, takes, missed}
use Rattle.endpoint_history.specs.Sending.{due}
use Rattle.endpoint_history.specs.Lane.{LaneHistory, TakesUp}
use Rattle.endpoint_agent.specs.State.{AgentState}
use Rattle.endpoint_agent.specs.Timely.{MayTake}
use Rattle.endpoint_agent.specs.Refusals as agents
use Rattle.arbiter_lane.specs.Refusals as lanes
use Rattle.lane_rounds.specs.State.{with_each}
use Rattle.lane_rounds.specs.Standing.{spell_down, spell_up}

-- what a part of a round leaves of an agent
pub record IsSameAgent (old new : AgentState) : Type 0 where
  pub me : new.me ≡ old.me
  pub endpoints : new.endpoints ≡ old.endpoints
  pub b : new.b ≡ old.b
  pub g : new.g ≡ old.g
  pub round : new.round ≡ old.round
  pub is_made : new.is_made ≡ old.is_made

abbrev pub hearing : ℕ → List DownPacket → AgentHistory → AgentHistory
hearing round packets calls = with_each (TakesDown round) packets calls

abbrev pub reading : ℕ → List UpPacket → LaneHistory → LaneHistory
reading round packets calls = with_each (TakesUp round) packets calls

-- the bytes of a packet are read back as the packet, by the end that it is for
pub record IsReadDown (me endpoints b : ℕ) (packet : DownPacket) : Type 0 where
  pub own : agents.IsOwn me endpoints b (spell_down me packet)
  pub back : down_packet (down_of (spell_down me packet)) ≡ packet

pub record IsReadUp (endpoint endpoints : ℕ) (packet : UpPacket) : Type 0 where
  pub own : lanes.IsOwnUp endpoint endpoints (spell_up endpoint packet)
  pub back : up_packet (up_of (spell_up endpoint packet)) ≡ packet

abbrev pub Each : {X : Type 0} → (X → Type 0) → List X → Type 0
Each P [] = Unit {0}
Each P (x ∷ xs) = P x × Each P xs

-- these may be heard one after the other
abbrev pub MayHear : ℕ → ℕ → AgentHistory → List DownPacket → Type 0
MayHear g round calls [] = Unit {0}
MayHear g round calls (p ∷ packets) =
    (takes calls p ≡ true → MayTake g calls round p) × MayHear g round (TakesDown round p ∷ calls) packets

-- what is handed to a direction for a packet, if there is one
abbrev pub handed : {T : Type 0} → (T → List ℕ) → ℕ → Option Fate → Option T → List Departure
handed spell round fate packet = option_to_list (option_map (λ p. record { round = round; fate = fate; bytes = spell p }) packet)

-- a direction with what is at hand, if anything is: the front of what was made is a packet that arrives in this round alone
abbrev pub with_at_hand : ℕ → Option ℕ → List ℕ → Held → Held
with_at_hand round None made world = world
with_at_hand round (Some length) made world = with_packet round (take length made) world

-- the same, of a packet that is not spelled
abbrev pub with_packet_at_hand : ℕ → Bool → Down → Held → Held
with_packet_at_hand round false packet world = world
with_packet_at_hand round true packet world = with_packet round (down_bytes packet) world
