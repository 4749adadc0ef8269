-- The places of a batch's slots, counted from 0, that a flow is not kept out of, and which of them an item takes (this project's own way to the greedy slots).
use Rattle.std.specs.Prelude.{◌≡◌, ◌<◌, ◌≤◌, ℕ, ◌+◌, List, length, Bool, true, ◌==◌, ◌&&◌, not, nat_lt, IsTrue, IsFalse, if◌then◌else◌}
use Rattle.std.specs.List.{list_any}
use Rattle.greedy_rules.specs.declared.flows.Flow.{Flow}
use Rattle.greedy_rules.specs.declared.flows.Item.{Item}
use Rattle.greedy_rules.specs.Slot.{Bar, slot_with}
use Rattle.greedy_rules.specs.Limits.{leaving, entering}
use Rattle.greedy_rules.specs.Schedule.{slot_in}
use Rattle.slot_batches.specs.FlowByFlow.{slots_with, item_after}
use Rattle.endpoint_bitmaps.specs.Slots.{count_below, is_among_lowest}
use Rattle.endpoint_bitmaps.specs.FreeSlots.{FreeSlots, is_free_to_send, may_receive, counts_links, leaving_in, entering_in}

-- the source sends in the slot
abbrev pub has_source : ℕ → List Flow → Bool
has_source src slot = list_any (λ chosen. chosen.src == src) slot

-- the destination receives in the slot
abbrev pub has_destination : ℕ → List Flow → Bool
has_destination dst slot = list_any (λ chosen. chosen.dst == dst) slot

-- there is a slot at this place, and it does not keep the flow out
abbrev pub is_free : Bar → Flow → List (List Flow) → ℕ → Bool
is_free bar flow slots place = nat_lt place (length slots) && not (bar (slot_in slots place) flow)

-- the item takes the slot at this place
abbrev pub is_chosen : Bar → Item → List (List Flow) → ℕ → Bool
is_chosen bar item slots place = is_among_lowest (is_free bar item.flow slots) item.need place

-- the slots at these places have the flow too, and the others are as they were
pub record HasAdded (flow : Flow) (places : ℕ → Bool) (old new : List (List Flow)) : Type 0 where
  pub count : length new ≡ length old
  pub each : (place : ℕ) → place < length old → slot_in new place ≡ (if places place then slot_with flow (slot_in old place) else slot_in old place)

-- an item takes the lowest free places, as many as it needs: its need falls by their number, and it was last served in the
-- greatest of them
pub record TakesLowestFree (bar : Bar) (number : ℕ) (item : Item) (slots : List (List Flow)) : Type 0 where
  pub slots_then : HasAdded item.flow (is_chosen bar item slots) slots (slots_with bar number item slots)
  pub flow : (item_after bar number item slots).flow ≡ item.flow
  pub need : (n : ℕ) → length slots ≤ n → (item_after bar number item slots).need + count_below (is_chosen bar item slots) n ≡ item.need
  pub last : (place : ℕ) → IsTrue (is_chosen bar item slots place) → ((later : ℕ) → place < later → IsFalse (is_chosen bar item slots later)) → (item_after bar number item slots).last ≡ number + place
  pub unserved : ((place : ℕ) → IsFalse (is_chosen bar item slots place)) → item_after bar number item slots ≡ item

abbrev pub EachItemTakesItsLowestFreePlaces : Type 0
EachItemTakesItsLowestFreePlaces = (bar : Bar) (number : ℕ) (item : Item) (slots : List (List Flow)) → TakesLowestFree bar number item slots

-- the maps say at which places of the slots an endpoint does not send, and at which it does not receive; and, where they count
-- links, how many flows leave a rack for others there, and come into it from others
pub record ShowsFree (endpoints : ℕ) (maps : FreeSlots) (slots : List (List Flow)) : Type 0 where
  pub senders : (src place : ℕ) → src < endpoints → is_free_to_send maps src place ≡ (nat_lt place (length slots) && not (has_source src (slot_in slots place)))
  pub receivers : (dst place : ℕ) → dst < endpoints → may_receive maps dst place ≡ (nat_lt place (length slots) && not (has_destination dst (slot_in slots place)))
  pub leaving_is : counts_links maps.limits ≡ true → (rack place : ℕ) → place < length slots → leaving_in maps rack place ≡ leaving maps.limits.hosts rack (slot_in slots place)
  pub entering_is : counts_links maps.limits ≡ true → (rack place : ℕ) → place < length slots → entering_in maps rack place ≡ entering maps.limits.hosts rack (slot_in slots place)
