-- How what is told of a window lies in memory (this project's own layout): for each batch and endpoint a list, in places of its own.
use Rattle.std.specs.Prelude.{◌≡◌, ◌<◌, ◌≤◌, ◌+◌, ◌*◌, ◌/◌, ◌%◌, ◌==◌, ℕ, List, map, take, drop, find, Option, None, Some, All, filter_map, option_map, if◌then◌else◌}
use Rattle.std.specs.List.{range_with_len, slice_index_or}
use Rattle.greedy_rules.specs.declared.flows.Flow.{Flow}
use Rattle.greedy_rules.specs.SlotTable.{Slots, destination_of}
use Rattle.greedy_rules.specs.Schedule.{slot_in}
use Rattle.fcp_framing.specs.declared.packet.Told.{Told}
use Rattle.fcp_framing.specs.Spelling.{IsCore}
use Rattle.path_workers.specs.CoreTable.{CoreSlots, core_of}
use Rattle.slot_publisher.specs.Window.{RoutedFlow}
use Rattle.slot_publisher.specs.Told.{told_from}

-- where an endpoint sends in a slot, and by which core
pub record Hop : Type 0 where
  pub dst : ℕ
  pub core : Option ℕ

-- where a slot lets the endpoint send, by the core that is named for it
abbrev pub hop_of : (ℕ → Option ℕ) → List Flow → ℕ → Option Hop
hop_of core_of_source slot endpoint = option_map (λ dst. record { dst = dst; core = core_of_source endpoint }) (destination_of slot endpoint)

abbrev pub packet_by : ℕ → Hop → RoutedFlow
packet_by src hop = record { flow = record { src = src; dst = hop.dst }; core = hop.core }

-- the packets of a slot, by what each source sends: of so many sources from this one on
abbrev pub packets_by : (ℕ → Option Hop) → ℕ → ℕ → List RoutedFlow
packets_by hop_of_source src sources = filter_map (λ source. option_map (packet_by source) (hop_of_source source)) (range_with_len src sources)

-- what is told of an endpoint that sends so in slots of these offsets
abbrev pub told_of_offsets : (ℕ → Option Hop) → ℕ → List Told
told_of_offsets hop_at b = told_from 0 (map (λ offset. option_map (packet_by 0) (hop_at offset)) (range_with_len 0 b))

-- ---- what is told in a list

-- the core that a byte names
abbrev pub core_named : ℕ → Option ℕ
core_named byte = if byte == 255 then None else Some byte

-- where its endpoint sends in the slot at this offset
abbrev pub hop_in : List Told → ℕ → Option Hop
hop_in told offset = option_map (λ one. record { dst = one.dst; core = core_named one.core }) (find (λ one. one.offset == offset) told)

-- the list is what is told of the slots that it says, of at most b
pub record IsToldList (endpoints b : ℕ) (told : List Told) : Type 0 where
  pub is : told ≡ told_of_offsets (hop_in told) b
  pub names : All (λ one. (one.dst < endpoints) × IsCore one.core) told

-- ---- lists of at most b, one behind the other

abbrev pub count_at : List ℕ → ℕ → ℕ
count_at counts list = slice_index_or counts list 0

abbrev pub list_at : ℕ → List ℕ → List Told → ℕ → List Told
list_at b counts told list = take (count_at counts list) (drop (list * b) told)

-- the first so many lists are filled
pub record AreLists (endpoints b n : ℕ) (counts : List ℕ) (told : List Told) : Type 0 where
  pub few : (list : ℕ) → list < n → count_at counts list ≤ b
  pub each : (list : ℕ) → list < n → IsToldList endpoints b (list_at b counts told list)

-- the first n slots, of batches of b slots, each of which has a list for every endpoint
unfoldable pub slots_of_lists : ℕ → ℕ → ℕ → List ℕ → List Told → List (List RoutedFlow)
slots_of_lists endpoints b n counts told =
    map (λ slot. packets_by (λ source. hop_in (list_at b counts told (slot / b * endpoints + source)) (slot % b)) 0 endpoints) (range_with_len 0 n)

-- ---- what is put

-- where tables of slots and cores let an endpoint send, by the offset from a slot
abbrev pub hops_from : Slots → CoreSlots → ℕ → ℕ → ℕ → Option Hop
hops_from slots cores from endpoint offset = hop_of (core_of cores (from + offset)) (slot_in slots.slots (from + offset)) endpoint

-- of the lists of a batch from this slot on, that of the endpoint tells what the tables say of the first n slots
abbrev pub ListTells : Slots → CoreSlots → ℕ → ℕ → ℕ → List ℕ → List Told → ℕ → Type 0
ListTells slots cores from b n counts told endpoint =
    (count_at counts endpoint ≤ n) × (list_at b counts told endpoint ≡ told_of_offsets (hops_from slots cores from endpoint) n)

-- and so does each of them
abbrev pub ListsTell : Slots → CoreSlots → ℕ → ℕ → ℕ → List ℕ → List Told → Type 0
ListsTell slots cores from b n counts told =
    (endpoint : ℕ) → endpoint < slots.endpoints → ListTells slots cores from b n counts told endpoint

-- the first n lists tell what the tables say of each batch and endpoint
abbrev pub ListsArePut : Slots → CoreSlots → ℕ → ℕ → List ℕ → List Told → Type 0
ListsArePut slots cores b n counts told =
    (batch endpoint : ℕ) → endpoint < slots.endpoints → batch * slots.endpoints + endpoint < n →
    (count_at counts (batch * slots.endpoints + endpoint) ≤ b)
    × (list_at b counts told (batch * slots.endpoints + endpoint) ≡ told_of_offsets (hops_from slots cores (batch * b) endpoint) b)
