-- What contracts see of an endpoint's rounds, and what they keep to between two of them. From this project's own profile.
use Rattle.std.specs.Prelude.{◌≡◌, ◌≢◌, ℕ, ◌+◌, ◌<◌, ◌≤◌, Bool, false, List, [], ◌∷◌}
use Rattle.loss_world.specs.InTransit.{Held}
use Rattle.endpoint_history.specs.Agent.{AgentHistory, Asks, asked}
use Rattle.endpoint_agent.specs.State.{AgentState}
use Rattle.arbiter_lane.specs.State.{LaneState}

-- both ends, both directions of the world, and whether no call wanted for memory
pub record RoundsState : Type 0 where
  pub agent : AgentState
  pub lane : LaneState
  pub down : Held
  pub up : Held
  pub is_whole : Bool

-- both ends are of one endpoint, in one network, at the beginning of one round
pub record AreOfOne (agent : AgentState) (lane : LaneState) : Type 0 where
  pub endpoint : agent.me ≡ lane.endpoint
  pub endpoints : agent.endpoints ≡ lane.endpoints
  pub b : agent.b ≡ lane.b
  pub g : agent.g ≡ lane.g
  pub slots : lane.b ≤ 64
  pub round : agent.round ≡ lane.round
  pub up : agent.is_made ≡ false
  pub down : lane.is_made ≡ false

-- asks that may be made one after the other: each to another endpoint, and those of a flow within the limit
abbrev pub MayAsk : ℕ → ℕ → AgentHistory → List (ℕ × ℕ) → Type 0
MayAsk me endpoints calls [] = Unit {0}
MayAsk me endpoints calls (a ∷ asks) =
    (a.0 ≢ me) × (a.0 < endpoints) × (asked calls a.0 + a.1 ≤ 100000000) × MayAsk me endpoints (Asks a.0 a.1 ∷ calls) asks

-- calls with one for each of these after them
abbrev pub with_each : {X Y : Type 0} → (X → Y) → List X → List Y → List Y
with_each call [] calls = calls
with_each call (x ∷ xs) calls = with_each call xs (call x ∷ calls)
