-- How both ends of a connection agree at a moment, in the boot that has the lane's epoch. From this project's own profile.
use Rattle.std.specs.Prelude.{◌≡◌, ℕ, ◌<◌, ◌≤◌, List, []}
use Rattle.ack_window.specs.Ends.{Numbered, Agree, IsOf}
use Rattle.ack_window.specs.Sends.{Event}
use Rattle.ack_window.specs.Versions.{reorder_of, span_of}
use Rattle.endpoint_history.specs.Packets.{Telling}
use Rattle.endpoint_history.specs.Agent.{AgentHistory, until}
use Rattle.endpoint_history.specs.Agent as agent
use Rattle.endpoint_history.specs.Lane.{LaneHistory}
use Rattle.endpoint_history.specs.Lane as lane

-- one end: its epoch and version, its own numbers, and those that arrived of the other end
pub record End (T : Type 0) : Type 0 where
  pub epoch : ℕ
  pub version : ℕ
  pub sent : List (Event T)
  pub arrived : List ℕ

-- the lane's
abbrev pub lane_end : ℕ → LaneHistory → End Telling
lane_end g history = record {
  epoch = lane.epoch_of history;
  version = lane.version_of history;
  sent = lane.numbers g history;
  arrived = lane.arrived history;
}

-- numbers of this version agree with what arrived
abbrev pub AgreeAt : {T : Type 0} → ℕ → List (Event T) → List ℕ → Type 0
AgreeAt version sent arrived = Agree (reorder_of version) (span_of version) sent arrived

-- the packet is of this end
abbrev pub IsOfEnd : {T : Type 0} → End T → Numbered T → Type 0
IsOfEnd one packet = (packet.epoch ≡ one.epoch) × (packet.version ≡ one.version) × IsOf (reorder_of one.version) (span_of one.version) one.sent one.arrived packet

-- nothing was taken in the boot
pub record IsUntouched (endpoints g : ℕ) (history : AgentHistory) : Type 0 where
  pub taken : agent.taken history ≡ []
  pub arrived : agent.arrived history ≡ []
  pub sent : agent.numbers endpoints g history ≡ []

-- the lane has the epoch of some boot so far, and its version; later boots are untouched; in that boot the numbers of each end agree
-- with what arrived at the other
pub record Joined (endpoints g : ℕ) (history : AgentHistory) (one : End Telling) : Type 0 where
  pub epochs : one.epoch ≤ agent.epoch_of history
  pub untouched : (epoch : ℕ) → one.epoch < epoch → epoch ≤ agent.epoch_of history → IsUntouched endpoints g (until epoch history)
  pub version : one.version ≡ agent.version_of (until one.epoch history)
  pub down : AgreeAt one.version one.sent (agent.arrived (until one.epoch history))
  pub up : AgreeAt one.version (agent.numbers endpoints g (until one.epoch history)) one.arrived
