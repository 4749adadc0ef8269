-- How many items a batch serves: each takes a place in one of its slots, and a slot has at most a place for each endpoint.
use Rattle.std.specs.Prelude.{◌<◌, ◌≤◌, ℕ, ◌*◌, List, [], replicate, Bool, not, nat_lt, All}
use Rattle.std.specs.List.{count_by}
use Rattle.greedy_rules.specs.declared.flows.Item.{Item}
use Rattle.greedy_rules.specs.Slot.{Bar}
use Rattle.greedy_rules.specs.SlotTable.{IsSlotOf}
use Rattle.slot_batches.specs.FlowByFlow.{slots_after, items_after}

-- the item was served in the slot of this number, or later
abbrev pub is_served_from : ℕ → Item → Bool
is_served_from number item = not (nat_lt item.last number)

abbrev pub ServedFitPlaces : Type 0
ServedFitPlaces =
    (bar : Bar) (endpoints number b : ℕ) (list : List Item) → All (λ item. item.last < number) list → All (IsSlotOf endpoints) (slots_after bar number list (replicate b []))
    → count_by (is_served_from number) (items_after bar number list (replicate b [])) ≤ b * endpoints
