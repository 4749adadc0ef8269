-- The asks of one round as a table of slots by flow, and which flows are marked in it.
use Rattle.std.specs.Prelude.{◌≡◌, ◌≢◌, ℕ, ◌+◌, ◌*◌, ◌/◌, ◌%◌, ◌<◌, ◌==◌, ◌&&◌, List, [], length, slice_index, true, nat_lt, if◌then◌else◌}
use Rattle.std.specs.List.{slice_index_or}
use Rattle.line_marks.specs.Places.{Places, is_marked}
use Rattle.trace_text.specs.declared.ask.Ask.{Ask}
use Rattle.trace_text.specs.declared.flow_sums.FlowSums.{FlowSums}

-- flows are numbered by source and then destination, of at most 256 endpoints
abbrev pub flow_number : Ask → ℕ
flow_number ask = ask.src * 256 + ask.dst

-- the slots of a flow in a table for this round
abbrev pub slots_for_round : ℕ → List ℕ → ℕ → ℕ → ℕ → ℕ
slots_for_round own slots round src dst = if (own == round) && nat_lt src 256 && nat_lt dst 256 then slice_index slots (src * 256 + dst) else 0

abbrev pub held_sum : FlowSums → ℕ → ℕ → ℕ → ℕ
held_sum sums round src dst = slots_for_round sums.round sums.slots.items round src dst

-- no flow has slots
abbrev pub holds_none : FlowSums → Type 0
holds_none sums = (flow : ℕ) → flow < 65536 → slice_index sums.slots.items flow ≡ 0

-- no destination is marked
abbrev pub unmarked : Places
unmarked = record { words = [] }

-- a flow is marked where it has slots
pub record IsTidy (sums : FlowSums) : Type 0 where
  pub flows : length sums.slots.items ≡ 65536
  pub rows : length sums.destinations.items ≡ 256
  pub marked : (flow : ℕ) → flow < 65536 → is_marked (slice_index_or sums.destinations.items (flow / 256) unmarked) (flow % 256) ≡ nat_lt 0 (slice_index sums.slots.items flow)
  pub asking : (flow : ℕ) → flow < 65536 → 0 < slice_index sums.slots.items flow → is_marked sums.sources (flow / 256) ≡ true

-- each flow that has slots is between two of so many endpoints
abbrev pub HoldsAmong : ℕ → FlowSums → Type 0
HoldsAmong endpoints sums = (flow : ℕ) → flow < 65536 → 0 < slice_index sums.slots.items flow → (flow / 256 < endpoints) × (flow % 256 < endpoints) × (flow / 256 ≢ flow % 256)
