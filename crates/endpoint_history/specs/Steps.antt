-- The calls of both ends of a connection, and what the world between them lets through: only what the other end made before. From this project's own profile.
use Rattle.std.specs.Prelude.{◌≡◌, ◌⊎◌, ℕ, ◌+◌, ◌≤◌, List, [], ◌∷◌, Some}
use Rattle.endpoint_history.specs.Packets.{DownPacket, UpPacket}
use Rattle.endpoint_history.specs.Agent.{AgentEvent, AgentHistory, TakesDown, MakesUp, packet_up}
use Rattle.endpoint_history.specs.Lane.{LaneEvent, LaneHistory, MakesDown, TakesUp, packet_down}
use Rattle.endpoint_history.specs.Entries.{rounds_recorded}

pub data Step : Type 0 where
  OfAgent : (event : AgentEvent) → Step
  OfLane : (event : LaneEvent) → Step

-- each end's own calls
abbrev pub agent_of : List Step → AgentHistory
agent_of [] = []
agent_of (OfAgent event ∷ earlier) = event ∷ agent_of earlier
agent_of (OfLane event ∷ earlier) = agent_of earlier

abbrev pub lane_of : List Step → LaneHistory
lane_of [] = []
lane_of (OfAgent event ∷ earlier) = lane_of earlier
lane_of (OfLane event ∷ earlier) = event ∷ lane_of earlier

-- ---- what arrives was made

-- the packet was made by the agent, by the lane
abbrev pub WasMadeUp : ℕ → ℕ → AgentHistory → UpPacket → Type 0
WasMadeUp endpoints g [] packet = ⊥
WasMadeUp endpoints g (MakesUp ∷ earlier) packet = (packet_up endpoints g earlier ≡ packet) ⊎ WasMadeUp endpoints g earlier packet
WasMadeUp endpoints g (_ ∷ earlier) packet = WasMadeUp endpoints g earlier packet

abbrev pub WasMadeDown : ℕ → LaneHistory → DownPacket → Type 0
WasMadeDown g [] packet = ⊥
WasMadeDown g (MakesDown round told ∷ earlier) packet = (packet_down g earlier round told ≡ Some packet) ⊎ WasMadeDown g earlier packet
WasMadeDown g (_ ∷ earlier) packet = WasMadeDown g earlier packet

-- no packet is forged: each that arrives was made before, in whatever order and however often it comes
abbrev pub ArrivesFromOther : ℕ → ℕ → List Step → Type 0
ArrivesFromOther endpoints g [] = Unit {0}
ArrivesFromOther endpoints g (OfAgent (TakesDown round packet) ∷ earlier) = WasMadeDown g (lane_of earlier) packet × ArrivesFromOther endpoints g earlier
ArrivesFromOther endpoints g (OfLane (TakesUp round packet) ∷ earlier) = WasMadeUp endpoints g (agent_of earlier) packet × ArrivesFromOther endpoints g earlier
ArrivesFromOther endpoints g (_ ∷ earlier) = ArrivesFromOther endpoints g earlier

-- ---- rounds

-- how many rounds have begun: downward packets are made first
abbrev pub rounds_begun : LaneHistory → ℕ
rounds_begun [] = 0
rounds_begun (MakesDown round told ∷ earlier) = round + 1
rounds_begun (_ ∷ earlier) = rounds_begun earlier

-- how many times a packet was made
abbrev pub ups_made : AgentHistory → ℕ
ups_made [] = 0
ups_made (MakesUp ∷ earlier) = ups_made earlier + 1
ups_made (_ ∷ earlier) = ups_made earlier

abbrev pub downs_made : LaneHistory → ℕ
downs_made [] = 0
downs_made (MakesDown round told ∷ earlier) = downs_made earlier + 1
downs_made (_ ∷ earlier) = downs_made earlier

-- each round's downward packet is made once, round after round
abbrev pub RoundsRise : LaneHistory → Type 0
RoundsRise [] = Unit {0}
RoundsRise (MakesDown round told ∷ earlier) = (rounds_begun earlier ≤ round) × RoundsRise earlier
RoundsRise (_ ∷ earlier) = RoundsRise earlier

-- upward packets arrive in the round that is recorded next
abbrev pub TakesInRound : LaneHistory → Type 0
TakesInRound [] = Unit {0}
TakesInRound (TakesUp round packet ∷ earlier) = (round ≡ rounds_recorded earlier) × TakesInRound earlier
TakesInRound (_ ∷ earlier) = TakesInRound earlier

-- no downward packet is forged, and each arrives in its round or later; upward packets may be forged
abbrev pub ArrivesFromLane : ℕ → List Step → Type 0
ArrivesFromLane g [] = Unit {0}
ArrivesFromLane g (OfAgent (TakesDown round packet) ∷ earlier) = WasMadeDown g (lane_of earlier) packet × (rounds_begun (lane_of earlier) ≤ round + 1) × ArrivesFromLane g earlier
ArrivesFromLane g (_ ∷ earlier) = ArrivesFromLane g earlier
