-- How large numbers, losses and totals can become: so many packets were made, of batches of so many slots. From this project's own profile.
use Rattle.std.specs.Prelude.{◌≡◌, ℕ, ◌*◌, ◌≤◌, List, [], ◌∷◌}
use Rattle.ack_window.specs.Sends.{newest_of}
use Rattle.endpoint_history.specs.Packets.{Requests}
use Rattle.endpoint_history.specs.Agent.{AgentHistory, slots_taken}
use Rattle.endpoint_history.specs.Agent as agent
use Rattle.endpoint_history.specs.Confirmed.{total_named}
use Rattle.endpoint_history.specs.Lane.{LaneHistory, TakesUp}
use Rattle.endpoint_history.specs.Lane as lane
use Rattle.endpoint_history.specs.Counts.{recorded, told}
use Rattle.endpoint_history.specs.Steps.{Step, agent_of, lane_of, ups_made, downs_made, rounds_begun, RoundsRise, ArrivesFromLane}
use Rattle.endpoint_history.specs.Tellings.{ToldWithin, ToldRises, ToldTo}

-- each end numbers at most the packets that it made, and the lane makes at most one a round
pub record NumbersAreFew : Type 0 where
  pub up : (endpoints g : ℕ) (history : AgentHistory) → newest_of (agent.numbers endpoints g history) ≤ ups_made history
  pub down : (g : ℕ) (history : LaneHistory) → newest_of (lane.numbers g history) ≤ downs_made history
  pub rounds : (history : LaneHistory) → RoundsRise history → downs_made history ≤ rounds_begun history

-- at most b slots to a destination are told with each packet, and so at most as many are lost
abbrev pub ToldIsFew : Type 0
ToldIsFew = (b g : ℕ) (history : LaneHistory) (dst : ℕ) → ToldWithin b history → ToldRises history → told g history dst ≤ downs_made history * b

-- none is told to an endpoint to which none was to be told
abbrev pub NoneIsToldBeyond : Type 0
NoneIsToldBeyond = (endpoints g : ℕ) (history : LaneHistory) (dst : ℕ) → ToldTo endpoints history → endpoints ≤ dst → told g history dst ≡ 0

-- a boot takes in at most as many slots to a destination as were ever told, whatever upward packets are forged
abbrev pub TakenIsFew : Type 0
TakenIsFew =
    (b g : ℕ) (steps : List Step) → ArrivesFromLane g steps → RoundsRise (lane_of steps) → ToldWithin b (lane_of steps) → ToldRises (lane_of steps) →
    (dst : ℕ) → slots_taken (agent_of steps) dst ≤ rounds_begun (lane_of steps) * b

-- no request that arrives names a total above this
abbrev pub NamesAtMost : ℕ → LaneHistory → Type 0
NamesAtMost most [] = Unit {0}
NamesAtMost most (TakesUp round (Requests packet) ∷ earlier) = ((dst : ℕ) → total_named dst packet.content ≤ most) × NamesAtMost most earlier
NamesAtMost most (_ ∷ earlier) = NamesAtMost most earlier

-- so no more is recorded
abbrev pub RecordedIsNamed : Type 0
RecordedIsNamed = (most : ℕ) (history : LaneHistory) (dst : ℕ) → NamesAtMost most history → recorded history dst ≤ most
