-- The run of a trace: in each round every endpoint is told its slots of the batch two windows before, and what all of them then record is the next batch. From this project's own profile.
use Rattle.std.specs.Prelude.{ℕ, zero, suc, ◌+◌, ◌-◌, ◌*◌, nat_le, List, [], ◌∷◌, ◌++◌, take, drop, Option, Some, None, if◌then◌else◌}
use Rattle.std.specs.List.{flat_map, range_with_len}
use Rattle.loss_world.specs.declared.fate.Fate.{Fate}
use Rattle.fcp_framing.specs.declared.packet.Told.{Told}
use Rattle.greedy_rules.specs.declared.flows.Flow.{Flow}
use Rattle.greedy_rules.specs.declared.limits.Limits.{Limits}
use Rattle.greedy_rules.specs.Batches.{DemandBatch}
use Rattle.greedy_rules.specs.SlotTable.{destination_of}
use Rattle.greedy_rules.specs.Schedule.{first_slot, schedule}
use Rattle.endpoint_history.specs.Packets.{UpPacket}
use Rattle.endpoint_history.specs.Rounds.{Round, entries_by}

-- what a trace says of each round and endpoint: the boots, each with its version; the asks, as destinations with slots; the fates of
-- its two packets; and the packets of raw rows that name it and are packets on the wire
pub record FromOutside : Type 0 where
  pub boots : (round endpoint : ℕ) → List ℕ
  pub asks : (round endpoint : ℕ) → List (ℕ × ℕ)
  pub up : (round endpoint : ℕ) → Option Fate
  pub down : (round endpoint : ℕ) → Option Fate
  pub raw : (round endpoint : ℕ) → List UpPacket

-- so many endpoints; the limits of the racks; b slots in a batch; g rounds in a window; the byte that names the core of a source's
-- packet in a slot; and the trace
pub record Setting : Type 0 where
  pub endpoints : ℕ
  pub limits : Limits
  pub b : ℕ
  pub g : ℕ
  pub cores : (slot source : ℕ) → ℕ
  pub outside : FromOutside

-- ---- what is told

-- the slots of batch k
abbrev pub slots_in_batch : ℕ → ℕ → List DemandBatch → List (List Flow)
slots_in_batch b k batches = take b (drop (k * b) (schedule b batches))

-- the endpoint's slots of these, of which the first has this offset
abbrev pub told_at : ℕ → ℕ → Option ℕ → List Told
told_at offset core None = []
told_at offset core (Some dst) = record { offset = offset; core = core; dst = dst } ∷ []

abbrev pub slots_told_from : (ℕ → ℕ) → ℕ → ℕ → List (List Flow) → List Told
slots_told_from core endpoint offset [] = []
slots_told_from core endpoint offset (slot ∷ slots) = told_at offset (core offset) (destination_of slot endpoint) ++ slots_told_from core endpoint (offset + 1) slots

-- its slots of batch k of the schedule of these batches
abbrev pub told_of : Setting → List DemandBatch → ℕ → ℕ → List Told
told_of setting batches k endpoint =
    slots_told_from (λ offset. setting.cores (first_slot setting.b k + offset) endpoint) endpoint 0 (slots_in_batch setting.b k batches)

-- what it is told in a round: the slots of the batch 2 g rounds before, where there is one. Those of a batch below the endpoint's
-- last reset are told to no one: its lane sees to that
abbrev pub told_in : Setting → List DemandBatch → ℕ → ℕ → List Told
told_in setting batches round endpoint =
    if nat_le (2 * setting.g) round then told_of setting batches (round - 2 * setting.g) endpoint else []

-- ---- round after round

-- an endpoint's round, where these are the batches recorded before it
abbrev pub round_of : Setting → List DemandBatch → ℕ → ℕ → Round
round_of setting batches round endpoint = record {
  boots = setting.outside.boots round endpoint;
  asks = setting.outside.asks round endpoint;
  up = setting.outside.up round endpoint;
  down = setting.outside.down round endpoint;
  raw = setting.outside.raw round endpoint;
  told = told_in setting batches round endpoint;
}

-- the batches recorded, the first one first, and each endpoint's rounds, the latest first
pub record Run : Type 0 where
  pub batches : List DemandBatch
  pub rounds : (endpoint : ℕ) → List Round

-- what the endpoints record together in their last rounds: the entries of endpoint 0, then those of endpoint 1, and so on
abbrev pub recorded_together : Setting → (ℕ → List Round) → DemandBatch
recorded_together setting rounds = record {
  entries = flat_map (λ endpoint. entries_by endpoint setting.endpoints setting.g (rounds endpoint)) (range_with_len 0 setting.endpoints);
  limits = setting.limits;
}

abbrev pub next_rounds : Setting → ℕ → Run → ℕ → List Round
next_rounds setting round before endpoint = round_of setting before.batches round endpoint ∷ before.rounds endpoint

abbrev pub after_round : Setting → ℕ → Run → Run
after_round setting round before = record {
  batches = before.batches ++ recorded_together setting (next_rounds setting round before) ∷ [];
  rounds = next_rounds setting round before;
}

-- the run after so many rounds, which are numbered from 0. Endpoints share nothing but the batches
abbrev pub replayed : Setting → ℕ → Run
replayed setting zero = record { batches = []; rounds = λ endpoint. [] }
replayed setting (suc rounds) = after_round setting rounds (replayed setting rounds)
