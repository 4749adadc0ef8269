-- Marks for the flows of a batch's entries: a flow without a mark has none (this project's own profile).
use Rattle.std.specs.Prelude.{◌≡◌, ℕ, ◌+◌, ◌*◌, ◌/◌, ◌%◌, List, length, Bool, true, not, ◌&&◌, ◌||◌, nat_lt, All}
use Rattle.std.specs.List.{slice_index_or}
use Rattle.greedy_rules.specs.declared.flows.Flow.{Flow}
use Rattle.greedy_rules.specs.declared.flows.Entry.{Entry}
use Rattle.endpoint_bitmaps.specs.Slots.{has_slot}

-- each endpoint has a word of marks as a source, and behind those one as a destination; a flow has the same bit in those of
-- its ends
abbrev pub source_place : Flow → ℕ
source_place flow = flow.src

abbrev pub destination_place : Flow → ℕ
destination_place flow = flow.dst + 256

abbrev pub mark_bit : Flow → ℕ
mark_bit flow = (flow.src + flow.dst) % 64

-- the word at this place has the bit, or there is no word
abbrev pub has_bit : List ℕ → ℕ → ℕ → Bool
has_bit words place bit = not (nat_lt place (length words)) || has_slot (slice_index_or words place 0) bit

-- a flow past the words counts as marked
abbrev pub is_flow_marked : List ℕ → Flow → Bool
is_flow_marked words flow = has_bit words (source_place flow) (mark_bit flow) && has_bit words (destination_place flow) (mark_bit flow)

-- the flow of each entry has its mark
abbrev pub AreMarked : List Entry → List ℕ → Type 0
AreMarked entries words = All (λ entry. is_flow_marked words entry.flow ≡ true) entries

-- in the 1,024 words of a window's marks each flow between 256 endpoints has a bit of its own, in one of four words of its source;
-- past them flows share bits: a flow may be marked without an entry, never the other way round
abbrev pub own_place : Flow → ℕ
own_place flow = (flow.src * 4 + flow.dst / 64) % 1024

abbrev pub own_bit : Flow → ℕ
own_bit flow = flow.dst % 64

abbrev pub has_own_bit : List ℕ → Flow → Bool
has_own_bit words flow = has_bit words (own_place flow) (own_bit flow)

-- the flow of each entry has its own bit
abbrev pub HaveOwnBits : List Entry → List ℕ → Type 0
HaveOwnBits entries words = All (λ entry. has_own_bit words entry.flow ≡ true) entries

-- what contracts see of the marks of a window: their words, and whether there are any
pub record WindowMarks : Type 0 where
  pub words : List ℕ
  pub some : Bool

abbrev pub has_mark : WindowMarks → Flow → Bool
has_mark marks flow = marks.some && has_own_bit marks.words flow
