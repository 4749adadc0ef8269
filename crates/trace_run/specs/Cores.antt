-- Two runs of one trace that differ in their cores alone: the cores stand in what the lanes tell and decide nothing else. From this project's own profile.
use Rattle.std.specs.Prelude.{◌≡◌, ℕ, map}
use Rattle.fcp_framing.specs.declared.packet.Told.{Told}
use Rattle.endpoint_history.specs.Packets.{Telling, DownPacket}
use Rattle.endpoint_history.specs.Agent.{AgentHistory}
use Rattle.endpoint_history.specs.Agent as agent
use Rattle.endpoint_history.specs.Sending as sending
use Rattle.endpoint_history.specs.Lane.{LaneHistory}
use Rattle.endpoint_history.specs.Lane as lane
use Rattle.endpoint_history.specs.Counts as counts
use Rattle.endpoint_history.specs.Entries as entries
use Rattle.endpoint_history.specs.Rounds.{Posted}
use Rattle.trace_run.specs.Run.{Setting, replayed}
use Rattle.trace_run.specs.Histories.{played_after, agent_after, lane_after}
use Rattle.trace_run.specs.Sends.{sent_up_to}

-- they record the same batches
abbrev pub CoresDecideNothing : Type 0
CoresDecideNothing = (setting : Setting) (cores : (slot source : ℕ) → ℕ) (rounds : ℕ) → (replayed (record setting { cores = cores }) rounds).batches ≡ (replayed setting rounds).batches

-- each endpoint sends in the same slots
abbrev pub CoresDecideNoSend : Type 0
CoresDecideNoSend =
    (setting : Setting) (cores : (slot source : ℕ) → ℕ) (rounds endpoint : ℕ) → sent_up_to (record setting { cores = cores }) rounds endpoint ≡ sent_up_to setting rounds endpoint

-- ---- packets

-- a told slot with 0 in place of its core, and what tells such slots
abbrev pub bare_slot : Told → Told
bare_slot slot = record slot { core = 0 }

abbrev pub bare_telling : Telling → Telling
bare_telling telling = record telling { told = map bare_slot telling.told }

abbrev pub bare_down : DownPacket → DownPacket
bare_down packet = record { epoch = packet.epoch; version = packet.version; seq = packet.seq; ack = packet.ack; content = bare_telling packet.content }

abbrev pub bare_posted : Posted DownPacket → Posted DownPacket
bare_posted posted = record { round = posted.round; fate = posted.fate; packet = bare_down posted.packet }

-- the lanes make the same packets but for the cores, in the same rounds and with the same fates
abbrev pub CoresStandInDownPackets : Type 0
CoresStandInDownPackets =
    (setting : Setting) (cores : (slot source : ℕ) → ℕ) (rounds endpoint : ℕ) →
    map bare_posted (played_after (record setting { cores = cores }) rounds endpoint).down ≡ map bare_posted (played_after setting rounds endpoint).down

-- the agents make the same packets
abbrev pub CoresDecideNoUpPacket : Type 0
CoresDecideNoUpPacket =
    (setting : Setting) (cores : (slot source : ℕ) → ℕ) (rounds endpoint : ℕ) → (played_after (record setting { cores = cores }) rounds endpoint).up ≡ (played_after setting rounds endpoint).up

-- ---- counts

-- two agents are asked for, told in time, told too late and send as many slots to a destination
pub record AgentsCountAlike (b g dst : ℕ) (one two : AgentHistory) : Type 0 where
  pub asked : agent.asked one dst ≡ agent.asked two dst
  pub in_time : agent.in_time g one dst ≡ agent.in_time g two dst
  pub missed : agent.missed g one dst ≡ agent.missed g two dst
  pub sends : sending.sends b g one dst ≡ sending.sends b g two dst

-- two lanes were last reset in the same round and count as many slots to a destination
pub record LanesCountAlike (g dst : ℕ) (one two : LaneHistory) : Type 0 where
  pub last_reset : lane.last_reset one ≡ lane.last_reset two
  pub recorded : counts.recorded one dst ≡ counts.recorded two dst
  pub acknowledged : counts.acknowledged g one dst ≡ counts.acknowledged g two dst
  pub lost : counts.lost g one dst ≡ counts.lost g two dst
  pub had : entries.had g one dst ≡ entries.had g two dst

abbrev pub CoresDecideNoCount : Type 0
CoresDecideNoCount =
    (setting : Setting) (cores : (slot source : ℕ) → ℕ) (rounds src dst : ℕ) →
    AgentsCountAlike setting.b setting.g dst (agent_after (record setting { cores = cores }) rounds src) (agent_after setting rounds src)
    × LanesCountAlike setting.g dst (lane_after (record setting { cores = cores }) rounds src) (lane_after setting rounds src)
