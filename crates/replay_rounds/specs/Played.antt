-- What the rounds of a trace give: the batch that each records, what its raw packets are answered, and what is sent in it. From this
-- project's own profile.
use Rattle.std.specs.Prelude.{◌≡◌, ◌≤◌, ◌⊎◌, ℕ, ◌+◌, List, [], map, take, Option, option_map, All, IfSome}
use Rattle.std.specs.List.{flat_map, range_with_len}
use Rattle.list_facts.specs.Order.{sort_by}
use Rattle.fcp_framing.specs.Fields.{up_of}
use Rattle.greedy_rules.specs.Batches.{DemandBatch}
use Rattle.endpoint_history.specs.Lane.{LaneHistory}
use Rattle.endpoint_history.specs.Sending.{Slot}
use Rattle.endpoint_history.specs.Rounds.{read, sent_by}
use Rattle.endpoint_history.specs.Steps.{lane_of}
use Rattle.arbiter_lane.specs.Refusals.{up_refusal}
use Rattle.lane_rounds.specs.Raw.{Raw}
use Rattle.lane_rounds.specs.Refused.{up_refusal_number, with_raw}
use Rattle.trace_text.specs.Trace.{TraceContent}
use Rattle.trace_run.specs.Run.{Setting, round_of, replayed}
use Rattle.trace_run.specs.Histories.{played_after}
use Rattle.trace_run.specs.Windows.{batch_at}
use Rattle.replay_rounds.specs.Setting.{raw_rows}
use Rattle.replay_rounds.specs.declared.played.Departure.{Departure}

-- ---- raw packets

-- the calls of an endpoint's lane up to where the first raw packet of a round is read
abbrev pub lane_before_raw : Setting → ℕ → ℕ → LaneHistory
lane_before_raw setting round endpoint =
    lane_of (read setting.endpoints setting.g round (record (round_of setting (replayed setting round).batches round endpoint) { raw = [] }) (played_after setting round endpoint))

-- and up to where a raw packet is read that comes after these
abbrev pub lane_before : Setting → ℕ → List Raw → ℕ → LaneHistory
lane_before setting round earlier endpoint = with_raw endpoint setting.endpoints round earlier (lane_before_raw setting round endpoint)

-- the number of the refusal by the lane of the endpoint that a raw packet names, as that lane then stands; None where it is accepted
abbrev pub answer_after : Setting → ℕ → List Raw → Raw → Option ℕ
answer_after setting round earlier raw =
    option_map up_refusal_number (up_refusal (up_of raw.bytes).src setting.endpoints (lane_before setting round earlier (up_of raw.bytes).src) raw.bytes)

-- for each raw packet of a round, in the order of rows
abbrev pub raw_answers : Setting → TraceContent → ℕ → List (Option ℕ)
raw_answers setting trace round = map (λ raw. answer_after setting round (take raw.place (raw_rows trace round)) raw) (raw_rows trace round)

-- ---- what is sent

abbrev pub departure : ℕ → Slot → Departure
departure src sent = record { slot = sent.slot; src = src; dst = sent.dst }

-- by endpoint, and those of each as they rise by slot
abbrev pub departures_from : Setting → ℕ → ℕ → List Departure
departures_from setting round src = map (departure src) (sent_by setting.endpoints setting.b setting.g ((replayed setting (round + 1)).rounds src))

-- in the order of slots, and in each slot by source
abbrev pub departures_in : Setting → ℕ → List Departure
departures_in setting round = sort_by (λ d. d.slot) (flat_map (departures_from setting round) (range_with_len 0 setting.endpoints))

-- ---- rounds

-- what contracts see of the rounds that were played, round after round
pub record Played : Type 0 where
  pub batches : List DemandBatch
  pub answers : List (List (Option ℕ))
  pub departures : List (List Departure)

-- so many rounds of the run of a trace, from this one on
abbrev pub rounds_played : Setting → TraceContent → ℕ → ℕ → Played
rounds_played setting trace first count = record {
  batches = map (batch_at setting) (range_with_len first count);
  answers = map (raw_answers setting trace) (range_with_len first count);
  departures = map (departures_in setting) (range_with_len first count);
}

-- ---- what they are

-- the numbers under which refusals are told: by the lane of the endpoint that a packet names, so none is of another endpoint's
abbrev pub IsLaneRefusal : ℕ → Type 0
IsLaneRefusal number = ((1 ≤ number) × (number ≤ 12)) ⊎ (((21 ≤ number) × (number ≤ 24)) ⊎ (number ≡ 26))

abbrev pub EveryRefusalHasANumber : Type 0
EveryRefusalHasANumber = (setting : Setting) (trace : TraceContent) (round : ℕ) → All (λ answer. IfSome answer IsLaneRefusal) (raw_answers setting trace round)
