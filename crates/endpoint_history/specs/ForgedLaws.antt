-- What an agent may rely on of the allocations that it takes, also where upward packets are forged. From this project's own profile.
use Rattle.std.specs.Prelude.{◌≡◌, ◌≢◌, ℕ, ◌+◌, ◌*◌, ◌<◌, ◌≤◌, ◌==◌, List, [], count_by, Some}
use Rattle.endpoint_history.specs.Packets.{DownPacket}
use Rattle.endpoint_history.specs.Sending.{Slot, SendsRise, ever_sent}
use Rattle.endpoint_history.specs.Lane.{LaneHistory}
use Rattle.endpoint_history.specs.Steps.{Step, agent_of, lane_of, WasMadeDown, rounds_begun, RoundsRise, ArrivesFromLane}
use Rattle.endpoint_history.specs.Tellings.{issued, ToldWithin, ToldRises}

-- slots are told 2 g rounds after their batch
abbrev pub ComesAfterTwoWindows : Type 0
ComesAfterTwoWindows =
    (g : ℕ) (steps : List Step) (round : ℕ) (packet : DownPacket) →
    RoundsRise (lane_of steps) → WasMadeDown g (lane_of steps) packet → rounds_begun (lane_of steps) ≤ round + 1 →
    packet.content.told ≢ [] → packet.content.batch + 2 * g ≤ round

-- every slot that a packet tells was told first by its number, which was new 2 g rounds after the batch
abbrev pub EachTellingWasIssued : Type 0
EachTellingWasIssued =
    (g : ℕ) (history : LaneHistory) (packet : DownPacket) → RoundsRise history → WasMadeDown g history packet → packet.content.told ≢ [] →
    (issued g history (packet.content.batch + 2 * g) ≡ Some (record { epoch = packet.epoch; number = packet.seq; content = packet.content }))
    × (packet.content.batch + 2 * g < rounds_begun history)

-- slots of one batch are told by one number, in whatever epochs
abbrev pub OneNumberForABatch : Type 0
OneNumberForABatch =
    (g : ℕ) (history : LaneHistory) (one other : DownPacket) → RoundsRise history → WasMadeDown g history one → WasMadeDown g history other →
    one.content.told ≢ [] → other.content.told ≢ [] → one.content.batch ≡ other.content.batch →
    (one.epoch ≡ other.epoch) × (one.seq ≡ other.seq) × (one.content ≡ other.content)

-- no slot is sent twice, in whatever boots
abbrev pub SentOnce : Type 0
SentOnce =
    (b g : ℕ) (steps : List Step) → ArrivesFromLane g steps → RoundsRise (lane_of steps) → SendsRise (agent_of steps) →
    ToldWithin b (lane_of steps) → ToldRises (lane_of steps) →
    (slot : ℕ) → count_by (λ (s : Slot). s.slot == slot) (ever_sent b g (agent_of steps)) ≤ 1
