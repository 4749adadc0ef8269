-- What an endpoint is handed in a round of a trace, and that its rounds may be played with it. From this project's own profile.
use Rattle.std.specs.Prelude.{◌≡◌, ◌<◌, ◌≤◌, ℕ, ◌+◌, ◌*◌, ◌-◌, ◌^◌, true, false, nat_le, List, [], length, filter, replicate, unwrap_or, if◌then◌else◌}
use Rattle.fcp_framing.specs.declared.packet.Told.{Told}
use Rattle.fcp_framing.specs.Versions.{IsVersion}
use Rattle.clos_topology.specs.Network.{endpoints_of}
use Rattle.clos_topology.specs.NetSlots.{SlotCores, AreSlotCores}
use Rattle.slot_publisher.specs.Window.{PublisherWindow}
use Rattle.slot_publisher.specs.Told.{slots_told}
use Rattle.endpoint_history.specs.Agent.{AgentHistory, Boots}
use Rattle.lane_rounds.specs.AgentStanding as agents
use Rattle.arbiter_lane.specs.State.{AreSlots, AreAllocated}
use Rattle.lane_rounds.specs.declared.events.Events.{Events}
use Rattle.lane_rounds.specs.Outside.{names}
use Rattle.lane_rounds.specs.Outside as lanes
use Rattle.lane_rounds.specs.State.{RoundsState, MayAsk, with_each}
use Rattle.trace_text.specs.Trace.{TraceContent, asked_at, fate_at, boots_at, last_one}
use Rattle.trace_text.specs.Valid.{IsTrace}
use Rattle.trace_run.specs.Run.{Setting, round_of, told_in, replayed}
use Rattle.replay_rounds.specs.Setting.{raw_rows, setting_of}
use Rattle.replay_rounds.specs.Standing.{LaneStands, routed_from, slots_between}

-- what the trace says of a round and endpoint; raw packets are those that name it
abbrev pub events_for : TraceContent → ℕ → ℕ → Events
events_for trace round endpoint = record {
  boots = length (boots_at trace round endpoint);
  version = unwrap_or (last_one (boots_at trace round endpoint)) 1;
  asks = asked_at trace round endpoint;
  up = fate_at trace round endpoint true;
  down = fate_at trace round endpoint false;
  raw = filter (λ r. names endpoint (endpoints_of trace.net) r.bytes) (raw_rows trace round);
}

-- what a publisher tells an endpoint in a round: its slots of the batch two windows before, none in the first two windows
abbrev pub told_by : PublisherWindow → ℕ → ℕ → ℕ → List Told
told_by window g round endpoint = if nat_le (2 * g) round then slots_told window endpoint (round - 2 * g) else []

-- an endpoint's rounds may be played with these, and then they are its round of the run
pub record MayPlayEndpoint (setting : Setting) (round endpoint : ℕ) (lane : RoundsState) (events : Events) (told : List Told) : Type 0 where
  pub version : 0 < events.boots → IsVersion events.version
  pub epochs : lane.agent.epoch + events.boots < 2 ^ 32
  pub asks : (calls : AgentHistory) × agents.AgentStandsFor lane.agent calls
      × MayAsk endpoint setting.endpoints (with_each Boots (replicate events.boots events.version) calls) events.asks
  pub slots : AreSlots setting.endpoints setting.b endpoint told
  pub allocated : AreAllocated lane.lane round told
  pub is : lanes.round_with endpoint setting.endpoints events told ≡ round_of setting (replayed setting round).batches round endpoint

-- so they may where the batch that is told is allocated
abbrev pub EveryRoundMayBePlayed : Type 0
EveryRoundMayBePlayed =
    (trace : TraceContent) (b g : ℕ) (cores : SlotCores) → IsTrace trace → AreSlotCores cores → (0 < b) × (b ≤ 64) → (0 < g) × (g ≤ 16) →
    (round published endpoint : ℕ) (lane : RoundsState) → round < trace.rounds → endpoint < endpoints_of trace.net → round + 1 ≤ published + 2 * g →
    LaneStands (setting_of trace b g cores) round published endpoint lane →
    MayPlayEndpoint (setting_of trace b g cores) round endpoint lane (events_for trace round endpoint) (told_in (setting_of trace b g cores) (replayed (setting_of trace b g cores) round).batches round endpoint)

-- and what is told is published
abbrev pub WhatIsToldIsHeld : Type 0
WhatIsToldIsHeld =
    (trace : TraceContent) (b g : ℕ) (cores : SlotCores) → IsTrace trace → (0 < b) × (b ≤ 64) → (0 < g) × (g ≤ 16) →
    (window : PublisherWindow) (published round endpoint : ℕ) → window.b ≡ b → window.first_batch + window.count ≡ published →
    window.slots ≡ routed_from cores (window.first_batch * b + 1) (slots_between (setting_of trace b g cores) window.first_batch published) →
    published ≤ round → (2 * g ≤ round → (window.first_batch ≤ round - 2 * g) × (round - 2 * g < published)) →
    told_by window g round endpoint ≡ told_in (setting_of trace b g cores) (replayed (setting_of trace b g cores) round).batches round endpoint
