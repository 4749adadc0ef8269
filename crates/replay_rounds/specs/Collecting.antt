-- The rounds of a window as they are played for one endpoint after the other, each round growing by what an endpoint gives, and for
-- parts of the endpoints side by side. From this project's own profile.
use Rattle.std.specs.Prelude.{◌≡◌, ◌<◌, ◌≤◌, ℕ, zero, suc, ◌+◌, ◌*◌, ◌-◌, List, [], ◌∷◌, ◌++◌, length, map, Option, Some, None, option_map, is_none, slice_set, if◌then◌else◌, All, IsTrue}
use Rattle.std.specs.List.{flat_map, range_with_len, slice_index_or}
use Rattle.fcp_framing.specs.Fields.{up_of}
use Rattle.fcp_framing.specs.Refusals.{first_refusal, refuses_up, frame_refusal_number}
use Rattle.greedy_rules.specs.declared.flows.Entry.{Entry}
use Rattle.greedy_rules.specs.Flows.{flow_below}
use Rattle.greedy_rules.specs.Batches.{DemandBatch}
use Rattle.greedy_rules.specs.Schedule.{first_slot}
use Rattle.clos_topology.specs.Network.{endpoints_of}
use Rattle.clos_topology.specs.NetSlots.{SlotCores, AreSlotCores, limits_of}
use Rattle.slot_publisher.specs.Window.{PublisherWindow}
use Rattle.endpoint_history.specs.Rounds.{entries_by}
use Rattle.lane_rounds.specs.Refused.{refused_in}
use Rattle.lane_rounds.specs.State.{RoundsState}
use Rattle.trace_text.specs.Trace.{TraceContent, raw_at}
use Rattle.trace_text.specs.Valid.{IsTrace}
use Rattle.trace_run.specs.Run.{Setting, next_rounds, replayed}
use Rattle.list_facts.specs.Order.{sort_by}
use Rattle.replay_rounds.specs.declared.collect.WindowInPlay.{WindowInPlay}
use Rattle.replay_rounds.specs.declared.named.Named.{Named}
use Rattle.replay_rounds.specs.declared.played.Departure.{Departure}
use Rattle.replay_rounds.specs.Setting.{raw_rows, setting_of}
use Rattle.replay_rounds.specs.Standing.{LaneStands, routed_from, slots_between}
use Rattle.replay_rounds.specs.Publishing.{WindowIsPublished}
use Rattle.replay_rounds.specs.Played.{Played, departures_from, lane_before_raw}
use Rattle.replay_rounds.specs.Parts.{events_for}
use Rattle.replay_rounds.specs.Departures.{by_slot}

-- ---- raw packets

-- the endpoint that bytes name, if they spell a packet
abbrev pub source_of : ℕ → List ℕ → Option ℕ
source_of endpoints bytes = if is_none (first_refusal (refuses_up endpoints bytes)) then Some (up_of bytes).src else None

-- a raw packet at a place that names this endpoint, if it names one
abbrev pub named_at : ℕ → Option ℕ → List Named
named_at place None = []
named_at place (Some source) = record { source = source; place = place } ∷ []

-- those of a round that name an endpoint, by the endpoint, and those of one in the order of rows
abbrev pub named_in : TraceContent → ℕ → List Named
named_in trace round = sort_by (λ one. one.source) (flat_map (λ row. named_at row.place (source_of (endpoints_of trace.net) row.bytes)) (raw_rows trace round))

-- the number of the refusal of bytes that spell none
abbrev pub framed_answer : ℕ → List ℕ → Option ℕ
framed_answer endpoints bytes = option_map frame_refusal_number (first_refusal (refuses_up endpoints bytes))

abbrev pub framed_in : TraceContent → ℕ → List (Option ℕ)
framed_in trace round = map (framed_answer (endpoints_of trace.net)) (raw_at trace round)

-- what contracts see of the raw packets of a round: those that name an endpoint, and what each is answered
pub record RawPart : Type 0 where
  pub named : List Named
  pub answers : List (Option ℕ)

-- before a lane is asked
abbrev pub raw_part : TraceContent → ℕ → RawPart
raw_part trace round = record { named = named_in trace round; answers = framed_in trace round }

-- answers with numbers at their places
abbrev pub with_numbers : List (ℕ × ℕ) → List (Option ℕ) → List (Option ℕ)
with_numbers [] answers = answers
with_numbers (refused ∷ others) answers = with_numbers others (slice_set answers refused.0 (Some refused.1))

-- what an endpoint's lane refuses of a round's raw packets
abbrev pub refused_of : Setting → TraceContent → ℕ → ℕ → List (ℕ × ℕ)
refused_of setting trace round endpoint =
    refused_in endpoint setting.endpoints round (events_for trace round endpoint).raw (lane_before_raw setting round endpoint)

-- the answers once the lanes below an endpoint were asked
abbrev pub answers_below : Setting → TraceContent → ℕ → ℕ → List (Option ℕ)
answers_below setting trace round zero = framed_in trace round
answers_below setting trace round (suc endpoint) =
    with_numbers (refused_of setting trace round endpoint) (answers_below setting trace round endpoint)

-- ---- a round in parts

-- what contracts see of a round that is being played for some endpoints: the batch so far, the raw packets that are refused so far, and
-- what is sent so far, in the order of slots
pub record RoundPart : Type 0 where
  pub round : ℕ
  pub batch : DemandBatch
  pub refused : List (ℕ × ℕ)
  pub departures : List Departure

-- before the first endpoint
abbrev pub blank_round : TraceContent → ℕ → RoundPart
blank_round trace number = record {
  round = number;
  batch = record { entries = []; limits = limits_of trace.net };
  refused = [];
  departures = [];
}

-- what an endpoint records in a round
abbrev pub entries_recorded : Setting → ℕ → ℕ → List Entry
entries_recorded setting number endpoint = entries_by endpoint setting.endpoints setting.g (next_rounds setting number (replayed setting number) endpoint)

-- with one endpoint more
abbrev pub with_endpoint : Setting → TraceContent → ℕ → RoundPart → RoundPart
with_endpoint setting trace endpoint part = record {
  round = part.round;
  batch = record { entries = part.batch.entries ++ entries_recorded setting part.round endpoint; limits = part.batch.limits };
  refused = part.refused ++ refused_of setting trace part.round endpoint;
  departures = by_slot (part.departures ++ departures_from setting part.round endpoint);
}

-- each entry is of a flow below all of the others
abbrev pub LieBelow : List Entry → List Entry → Type 0
LieBelow entries others = All (λ e. All (λ f. IsTrue (flow_below e.flow f.flow)) others) entries

-- with what endpoints behind these give
abbrev pub with_behind : RoundPart → RoundPart → RoundPart
with_behind behind part = record {
  round = part.round;
  batch = record { entries = part.batch.entries ++ behind.batch.entries; limits = part.batch.limits };
  refused = part.refused ++ behind.refused;
  departures = by_slot (part.departures ++ behind.departures);
}

-- with so many endpoints from this one on
abbrev pub round_part : Setting → TraceContent → ℕ → ℕ → ℕ → RoundPart
round_part setting trace from endpoints number = record {
  round = number;
  batch = record { entries = flat_map (entries_recorded setting number) (range_with_len from endpoints); limits = setting.limits };
  refused = flat_map (refused_of setting trace number) (range_with_len from endpoints);
  departures = by_slot (flat_map (departures_from setting number) (range_with_len from endpoints));
}

-- a list has the rounds from this one on
abbrev pub AreRoundsFrom : ℕ → List RoundPart → Type 0
AreRoundsFrom first parts = (at : ℕ) (d : RoundPart) → at < length parts → (slice_index_or parts at d).round ≡ first + at

-- ---- when they may be played

-- the batches of so many rounds are published by the end of a window
abbrev pub published_by : PublisherWindow → ℕ
published_by window = window.first_batch + window.count

-- the run whose slots a window has
abbrev pub setting_by : TraceContent → ℕ → SlotCores → PublisherWindow → Setting
setting_by trace g cores window = setting_of trace window.b g cores

-- what is told in a round is allocated, and is published in this window
pub record MayBeTold (trace : TraceContent) (g : ℕ) (cores : SlotCores) (window : PublisherWindow) (number : ℕ) : Type 0 where
  pub sound : IsTrace trace
  pub named : AreSlotCores cores
  pub batch : (0 < window.b) × (window.b ≤ 64)
  pub rounds : (0 < g) × (g ≤ 16)
  pub within : number < trace.rounds
  pub served : window.endpoints ≡ endpoints_of trace.net
  pub slots : window.slots
      ≡ routed_from cores (first_slot window.b window.first_batch) (slots_between (setting_by trace g cores window) window.first_batch (published_by window))
  pub behind : published_by window ≤ number
  pub allocated : number + 1 ≤ published_by window + 2 * g
  pub held : 2 * g ≤ number → (window.first_batch ≤ number - 2 * g) × (number - 2 * g < published_by window)

-- in each of so many rounds from this one on, before which the slots of the window may be counted
pub record MayBeCollected (trace : TraceContent) (g : ℕ) (cores : SlotCores) (window : PublisherWindow) (first count : ℕ) : Type 0 where
  pub published : WindowIsPublished (setting_by trace g cores window) first window
  pub told : (number : ℕ) → first ≤ number → number < first + count → MayBeTold trace g cores window number

-- these lanes stand for the rounds of the endpoints from this one on
abbrev pub LanesStandFrom : Setting → ℕ → ℕ → ℕ → List RoundsState → Type 0
LanesStandFrom setting collected batches from lanes =
    (at : ℕ) (d : RoundsState) → at < length lanes → LaneStands setting collected batches (from + at) (slice_index_or lanes at d)

-- there is a lane for each endpoint, and each stands for its rounds
pub record LanesStand (setting : Setting) (collected batches : ℕ) (lanes : List RoundsState) : Type 0 where
  pub wide : length lanes ≡ setting.endpoints
  pub each : (endpoint : ℕ) (d : RoundsState) → endpoint < length lanes → LaneStands setting collected batches endpoint (slice_index_or lanes endpoint d)

-- ---- what playing them for the endpoints asks

-- the run whose slots are told in the window
abbrev pub run_told : WindowInPlay → SlotCores → Setting
run_told window cores = setting_by window.trace.now window.g cores window.publisher.now

-- the window's rounds may be played, before which the lanes counted the slots of the batches below `counted`
pub record MayPlayWindow (window : WindowInPlay) (cores : SlotCores) : Type 0 where
  -- what is told in each of them is allocated, and is published in the window
  pub may : MayBeCollected window.trace.now window.g cores window.publisher.now window.first window.count
  pub counted : (window.publisher.now.first_batch ≤ window.counted) × (window.counted ≤ published_by window.publisher.now)
  pub within : window.first + window.count ≤ window.trace.now.rounds
  pub few : window.first + window.count ≤ 100000
  pub few_endpoints : endpoints_of window.trace.now.net ≤ 256

-- the raw packets are those of its rounds
abbrev pub AreRaws : WindowInPlay → List RawPart → Type 0
AreRaws window raws = raws ≡ map (raw_part window.trace.now) (range_with_len window.first window.count)

-- for every endpoint
pub record MayCollectRounds (window : WindowInPlay) (cores : SlotCores) (lanes : List RoundsState) : Type 0 where
  pub may : MayPlayWindow window cores
  -- each lane stands for its rounds before
  pub stand : LanesStand (run_told window cores) window.first window.counted lanes

-- for the endpoints from this one on that have these lanes
pub record MayPlayLanes (window : WindowInPlay) (cores : SlotCores) (from : ℕ) (raws : List RawPart) (lanes : List RoundsState) : Type 0 where
  pub may : MayPlayWindow window cores
  -- the raw packets are those of its rounds
  pub read : AreRaws window raws
  pub within : from + length lanes ≤ endpoints_of window.trace.now.net
  -- each lane stands for its rounds before
  pub stand : LanesStandFrom (run_told window cores) window.first window.counted from lanes

-- then these lanes have played them
abbrev pub LanesArePlayed : WindowInPlay → ℕ → List RawPart → List RoundsState → List RoundsState → Type 0
LanesArePlayed window from raws old new =
    (cores : SlotCores) → MayPlayLanes window cores from raws old →
    LanesStandFrom (run_told window cores) (window.first + window.count) (published_by window.publisher.now) from new

-- and this is what their endpoints give in them
abbrev pub AreRoundsPlayed : WindowInPlay → ℕ → List RawPart → List RoundsState → List RoundPart → Type 0
AreRoundsPlayed window from raws old rounds =
    (cores : SlotCores) → MayPlayLanes window cores from raws old →
    rounds ≡ map (round_part (run_told window cores) window.trace.now from (length old)) (range_with_len window.first window.count)

-- these rounds may be played for one endpoint
pub record MayPlayLane (window : WindowInPlay) (cores : SlotCores) (endpoint : ℕ) (raws : List RawPart) (lane : RoundsState) (parts : List RoundPart) : Type 0 where
  pub may : MayPlayWindow window cores
  -- the raw packets are those of its rounds
  pub read : AreRaws window raws
  -- they are the window's
  pub many : length parts ≡ window.count
  pub rounds : AreRoundsFrom window.first parts
  -- its lane stands for its rounds before
  pub stands : LaneStands (run_told window cores) window.first window.counted endpoint lane

-- ---- what rounds give once every endpoint is played

-- what the raw packets of each round are answered
abbrev pub answers_of : List RawPart → List RoundPart → List (List (Option ℕ))
answers_of [] parts = []
answers_of (raw ∷ raws) [] = []
answers_of (raw ∷ raws) (part ∷ parts) = with_numbers part.refused raw.answers ∷ answers_of raws parts

abbrev pub played_of : List RawPart → List RoundPart → Played
played_of raws parts = record {
  batches = map (λ part. part.batch) parts;
  answers = answers_of raws parts;
  departures = map (λ part. part.departures) parts;
}
