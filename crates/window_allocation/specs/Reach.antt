-- The test that none of the items that are set aside could be chosen: in each slot flows that go ahead keep them out (this
-- project's own profile).
use Rattle.std.specs.Prelude.{◌≡◌, ◌<◌, ◌≤◌, ℕ, ◌+◌, ◌*◌, List, [], ◌∷◌, Bool, true, false, not, ◌&&◌, ◌||◌, ◌⊎◌, nat_lt, All}
use Rattle.std.specs.List.{slice_index_or}
use Rattle.greedy_rules.specs.declared.flows.Flow.{Flow}
use Rattle.greedy_rules.specs.declared.flows.Item.{Item}
use Rattle.greedy_rules.specs.declared.flows.Entry.{Entry}
use Rattle.greedy_rules.specs.Slot.{has_flow}
use Rattle.greedy_rules.specs.Demands.{is_listed}
use Rattle.greedy_rules.specs.Batches.{DemandBatch}
use Rattle.greedy_rules.specs.Schedule.{slot_in}
use Rattle.endpoint_bitmaps.specs.Slots.{has_slot}
use Rattle.slot_batches.specs.Feeding.{was_served}
use Rattle.slot_batches.specs.Beyond.{seen_with}
use Rattle.window_allocation.specs.Needs.{place_of}
use Rattle.window_allocation.specs.declared.end_words.EndWords.{EndWords}

-- the flow is served in this slot, and in no slot of an earlier batch
pub record IsEarliest (b : ℕ) (slots : List (List Flow)) (at : ℕ) (flow : Flow) : Type 0 where
  pub batch : ℕ
  pub from : batch * b ≤ at
  pub before : at < batch * b + b
  pub served : has_flow (slot_in slots at) flow ≡ true
  pub first : (earlier : ℕ) → earlier < batch * b → has_flow (slot_in slots earlier) flow ≡ false

-- the slot is of the first batch that has a slot of the word
pub record IsFirstBatch (b : ℕ) (slots at : ℕ) : Type 0 where
  pub batch : ℕ
  pub from : batch * b ≤ at
  pub before : at < batch * b + b
  pub none : (earlier : ℕ) → earlier < batch * b → has_slot slots earlier ≡ false

-- there are words for both ends of the flow
abbrev pub HasWords : EndWords → Flow → Type 0
HasWords words flow = (flow.src < words.endpoints) × (flow.dst < words.endpoints)

-- the words name this slot at the source, and at the destination
abbrev pub names_source : EndWords → ℕ → ℕ → Bool
names_source words src at = has_slot (slice_index_or words.sources.items src 0) at

abbrev pub names_destination : EndWords → ℕ → ℕ → Bool
names_destination words dst at = has_slot (slice_index_or words.destinations.items dst 0) at

-- wherever they name a slot, a flow with this end that goes ahead is served in it for the first time
pub record AreAhead (b : ℕ) (slots : List (List Flow)) (ahead : Flow → Bool) (words : EndWords) : Type 0 where
  pub sources : (src at : ℕ) → names_source words src at ≡ true → (flow : Flow) × (flow.src ≡ src) × IsEarliest b slots at flow × (ahead flow ≡ true)
  pub destinations : (dst at : ℕ) → names_destination words dst at ≡ true → (flow : Flow) × (flow.dst ≡ dst) × IsEarliest b slots at flow × (ahead flow ≡ true)

-- the word of each flow between the endpoints names those of the first so many slots in which it is served
abbrev pub ShowSlots : ℕ → ℕ → List (List Flow) → List ℕ → Type 0
ShowSlots endpoints count slots words =
    (flow : Flow) (at : ℕ) → flow.src < endpoints → flow.dst < endpoints → has_slot (slice_index_or words (place_of endpoints flow.src flow.dst) 0) at ≡ (nat_lt at count && has_flow (slot_in slots at) flow)

-- a flow that goes ahead, and has the item's source or its destination, is served in this slot for the first time
pub record HasRival (b : ℕ) (slots : List (List Flow)) (ahead : Flow → Bool) (item : Item) (at : ℕ) : Type 0 where
  pub flow : Flow
  pub end : (flow.src ≡ item.flow.src) ⊎ (flow.dst ≡ item.flow.dst)
  pub earliest : IsEarliest b slots at flow
  pub goes : ahead flow ≡ true

-- it stood before the item, or is new where the item was served before
abbrev pub stands_ahead : List Item → (Flow → Bool) → Item → Flow → Bool
stands_ahead whole seen item flow = seen flow || (was_served item && not (is_listed whole flow))

-- the item needs nothing, or has a rival in each of the first so many slots
abbrev pub IsOut : ℕ → ℕ → List (List Flow) → List Item → (Flow → Bool) → Item → Type 0
IsOut b count slots whole seen item = (item.need ≡ 0) ⊎ ((at : ℕ) → at < count → HasRival b slots (stands_ahead whole seen item) item at)

-- so are all items that are set aside
abbrev pub AreOut : ℕ → ℕ → List (List Flow) → List Item → (Item → Bool) → (Flow → Bool) → List Item → Type 0
AreOut b count slots whole aside seen [] = Unit {0}
AreOut b count slots whole aside seen (item ∷ list) = (aside item ≡ true → IsOut b count slots whole seen item) × AreOut b count slots whole aside (seen_with aside seen item) list

-- the item needs nothing, or the words name one of its ends in each of the first so many slots
abbrev pub IsNamed : EndWords → ℕ → Item → Type 0
IsNamed words count item = (item.need ≡ 0) ⊎ ((at : ℕ) → at < count → (names_source words item.flow.src at || names_destination words item.flow.dst at) ≡ true)

-- the flows that the batches open go ahead
abbrev pub OpenAhead : (Flow → Bool) → List DemandBatch → Type 0
OpenAhead ahead batches = All (λ batch. All (λ entry. entry.opens ≡ true → ahead entry.flow ≡ true) batch.entries) batches

-- a batch opens no flow of the list
abbrev pub OpensNew : List Item → List Entry → Type 0
OpensNew list entries = All (λ entry. entry.opens ≡ true → is_listed list entry.flow ≡ false) entries

-- a batch of the window opens no flow of the list
abbrev pub OpenNew : List Item → List DemandBatch → Type 0
OpenNew list batches = All (λ batch. OpensNew list batch.entries) batches
