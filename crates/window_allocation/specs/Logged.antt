-- A window's demand list kept in logs, in which an item that is taken out leaves a gap (this project's own profile).
use Rattle.std.specs.Prelude.{◌≡◌, ◌≢◌, ◌<◌, ◌≤◌, ℕ, ◌+◌, ◌*◌, ◌/◌, List, ◌++◌, length, map, filter, Bool, true, false, not, ◌==◌, ◌||◌, All}
use Rattle.std.specs.List.{range_with_len, slice_index_or}
use Rattle.list_facts.specs.Bits.{names_place}
use Rattle.greedy_rules.specs.declared.flows.Flow.{Flow}
use Rattle.greedy_rules.specs.declared.flows.Item.{Item}
use Rattle.greedy_rules.specs.declared.flows.Entry.{Entry}
use Rattle.greedy_rules.specs.Demands.{is_listed, HasEachFlowOnce, AreBelow}
use Rattle.endpoint_bitmaps.specs.Slots.{has_slot}
use Rattle.slot_batches.specs.Feeding.{IsInOrder, was_served}
use Rattle.slot_batches.specs.Woven.{picked, places_from}
use Rattle.window_allocation.specs.Needs.{place_of}

-- what contracts see of such a list: its items in order, and those picked last
pub record Logged : Type 0 where
  pub endpoints : ℕ
  pub items : List Item
  pub picked : List Item

-- an item stays where it is whose flow is none of those picked
abbrev pub is_left : List Item → Item → Bool
is_left picked item = not (is_listed picked item.flow)

-- the lists that may be kept so
pub record MayBeLogged (endpoints : ℕ) (list : List Item) : Type 0 where
  pub once : HasEachFlowOnce list
  pub below : AreBelow endpoints list
  pub order : IsInOrder list
  pub few : length list ≤ endpoints * endpoints

-- a gap: an item of no source
abbrev pub gap : Item
gap = record { flow = record { src = 65535; dst = 65535 }; need = 0; last = 0 }

abbrev pub is_gap : Item → Bool
is_gap item = item.flow.src == 65535

-- the items that are no gaps
abbrev pub standing : List Item → List Item
standing items = filter (λ item. not (is_gap item)) items

-- the item at this place; a gap past the end
abbrev pub item_at : List Item → ℕ → Item
item_at items place = slice_index_or items place gap

abbrev pub items_at : List Item → List ℕ → List Item
items_at items places = map (λ place. item_at items place) places

-- of a log with gaps
abbrev pub is_passed : List Item → Item → Bool
is_passed picked item = is_gap item || is_left picked item

-- the flow has its item at this place by the table
pub record IsPlaced (endpoints : ℕ) (table : List ℕ) (flow : Flow) (place : ℕ) : Type 0 where
  pub src : flow.src < endpoints
  pub dst : flow.dst < endpoints
  pub there : slice_index_or table (place_of endpoints flow.src flow.dst) 0 ≡ place

abbrev pub ArePlaced : ℕ → List ℕ → List Item → Type 0
ArePlaced endpoints table items = (place : ℕ) → is_gap (item_at items place) ≡ false → IsPlaced endpoints table (item_at items place).flow place

-- each item that needs something has its bit
abbrev pub NeedsHaveBits : List ℕ → List Item → Type 0
NeedsHaveBits words items = (place : ℕ) → names_place words place ≡ false → (item_at items place).need ≡ 0

-- an item of the flow has its bit
abbrev pub HasBit : List ℕ → List Item → Flow → Type 0
HasBit words items flow = (place : ℕ) → is_gap (item_at items place) ≡ false → (item_at items place).flow ≡ flow → names_place words place ≡ true

abbrev pub HaveBits : List ℕ → List Item → List Entry → Type 0
HaveBits words items entries = All (λ entry. HasBit words items entry.flow) entries

-- the places of these bits at which items stand, the first bit's place being `from`
abbrev pub bits_of : ℕ → List ℕ
bits_of word = filter (has_slot word) (range_with_len 0 64)

abbrev pub standing_at : List Item → List ℕ → List ℕ
standing_at items places = filter (λ place. not (is_gap (item_at items place))) places

abbrev pub places_of_bits : List Item → ℕ → ℕ → List ℕ
places_of_bits items from word = standing_at items (map (λ bit. from + bit) (bits_of word))

-- the places that have their bit, of the first so many
abbrev pub busy_places : List Item → List ℕ → ℕ → List ℕ
busy_places items words count = standing_at items (filter (names_place words) (range_with_len 0 count))

-- no item of the list has the flow of an item that stands
abbrev pub AreNew : List Item → List Item → Type 0
AreNew items list = (place : ℕ) → is_gap (item_at items place) ≡ false → All (λ item. item.flow ≢ (item_at items place).flow) list

-- how the parts of a log fit together
pub record IsLog (endpoints count : ℕ) (items : List Item) (table busy places : List ℕ) : Type 0 where
  pub few : endpoints ≤ 256
  pub long : length table ≡ endpoints * endpoints
  pub words : length busy ≡ endpoints * endpoints / 32 + 1
  pub room : length items ≤ 2 * (endpoints * endpoints)
  pub number : count ≡ length (standing items)
  pub placed : ArePlaced endpoints table items
  pub bits : NeedsHaveBits busy items
  pub picked : places ≡ places_from (is_passed (items_at items places)) 0 items

-- two logs are a list in order: the items never served, and those once served
pub record AreParts (never served : Logged) : Type 0 where
  pub few : never.endpoints ≤ 256
  pub same : served.endpoints ≡ never.endpoints
  pub may : MayBeLogged never.endpoints (never.items ++ served.items)
  pub never_served : All (λ item. was_served item ≡ false) never.items
  pub once_served : All (λ item. was_served item ≡ true) served.items
  pub never_picked : never.picked ≡ picked (is_left never.picked) never.items
  pub once_picked : served.picked ≡ picked (is_left served.picked) served.items
