-- What contracts see of an agent, and what a call asks of it (this project's own profile).
use Rattle.std.specs.Prelude.{◌≡◌, ◌≢◌, ◌<◌, ◌≤◌, ℕ, ◌+◌, ◌*◌, ◌-◌, ◌%◌, Bool, false, nat_le, List, [], length, All, get_or, if◌then◌else◌}
use Rattle.ack_window.specs.Windows.{Receiver, Sender}
use Rattle.fcp_framing.specs.declared.packet.Demand.{Demand}
use Rattle.fcp_framing.specs.declared.packet.Told.{Told}
use Rattle.fcp_framing.specs.Versions.{IsVersion}
use Rattle.line_marks.specs.Places.{Places, is_marked}
use Rattle.endpoint_history.specs.Packets.{DownPacket, slots_to}
use Rattle.endpoint_agent.specs.declared.lines.FlowLine.{FlowLine}

pub record AgentState : Type 0 where
  -- whose agent it is, of how many endpoints, with batches of b slots and windows of g rounds
  pub me : ℕ
  pub endpoints : ℕ
  pub b : ℕ
  pub g : ℕ
  -- the connection: its epoch and version, both windows, and whether an allocation was taken
  pub epoch : ℕ
  pub version : ℕ
  pub arrived : Receiver
  pub sent : Sender (Unit {0})
  pub has_begun : Bool
  -- the greatest number of a request that was acknowledged, 0 for none, and what the newest request names
  pub acknowledged : ℕ
  pub named : List Demand
  -- a line for each destination, and the slots that wait, in a place for each of three batches
  pub lines : List FlowLine
  pub waiting : List (List Told)
  -- how many rounds ended, and whether a packet was made since
  pub round : ℕ
  pub is_made : Bool

-- ---- its parts

abbrev pub line_at : List FlowLine → ℕ → FlowLine
line_at lines dst = get_or lines dst (record { asked = 0; sent = 0; missed = 0; carried_from = 0 })

-- batch k has the place k % 3
abbrev pub batch_place : List (List Told) → ℕ → List Told
batch_place waiting batch = get_or waiting (batch % 3) []

-- the first of the three batches that may wait: the one that is used at the end of this round, or batch 0
abbrev pub first_waiting : ℕ → ℕ → ℕ
first_waiting g round = round - (2 * g + 2)

-- the slots that wait of a batch that is still to be used
abbrev pub waits_of : ℕ → ℕ → List (List Told) → ℕ → List Told
waits_of g round waiting batch = if nat_le batch (first_waiting g round + 2) then batch_place waiting batch else []

-- ---- what the numbers of every agent keep to

pub record IsFlowLine (line : FlowLine) : Type 0 where
  pub asked : line.asked ≤ 100000000
  pub missed : line.missed ≤ 100000000

-- the rounds in which a packet may have been made
abbrev pub rounds_made : AgentState → ℕ
rounds_made agent = agent.round + (if agent.is_made then 1 else 0)

pub record IsSound (agent : AgentState) : Type 0 where
  pub own : agent.me < agent.endpoints
  pub endpoints : agent.endpoints ≤ 256
  pub epoch : 0 < agent.epoch
  pub version : IsVersion agent.version
  pub heard_version : agent.arrived.version ≡ agent.version
  pub sent_version : agent.sent.version ≡ agent.version
  pub rounds : agent.round ≤ 100000
  pub numbers : agent.sent.outstanding.newest ≤ rounds_made agent
  pub as_many : length agent.lines ≡ agent.endpoints
  pub lines : (dst : ℕ) → IsFlowLine (line_at agent.lines dst)
  pub own_line : (line_at agent.lines agent.me).carried_from ≡ 0
  pub three : length agent.waiting ≡ 3
  pub waiting : (place : ℕ) → All (λ (t : Told). t.dst < agent.endpoints) (get_or agent.waiting place [])

-- a flow whose total no request up to this number carries is marked; others may be, too
abbrev pub UnconfirmedAreMarked : ℕ → Places → List FlowLine → Type 0
UnconfirmedAreMarked acknowledged marks lines = (dst : ℕ) → is_marked marks dst ≡ false → (line_at lines dst).carried_from ≤ acknowledged

-- what is stored twice: the newest number with the newest request, and which flows may be named
pub record AgentIsKept (seq : ℕ) (unconfirmed : Places) (agent : AgentState) : Type 0 where
  pub number : seq ≡ agent.sent.outstanding.newest
  pub marked : UnconfirmedAreMarked agent.acknowledged unconfirmed agent.lines
