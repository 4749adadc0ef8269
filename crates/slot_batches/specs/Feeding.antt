-- Feeding a batch the demand list item by item: what is taken up, and when, so that in the end it is the list with the batch
-- applied (this project's own profile).
use Rattle.std.specs.Prelude.{◌≡◌, ◌<◌, ◌≤◌, ◌+◌, ◌⊎◌, length, ℕ, List, [], ◌∷◌, ◌++◌, map, filter, Bool, true, not, nat_lt, if◌then◌else◌}
use Rattle.std.specs.List.{list_any}
use Rattle.std.specs.List.Sorted.{IsNonDecreasingBy}
use Rattle.greedy_rules.specs.declared.flows.Flow.{Flow}
use Rattle.greedy_rules.specs.declared.flows.Item.{Item}
use Rattle.greedy_rules.specs.declared.flows.Entry.{Entry}
use Rattle.greedy_rules.specs.Slot.{Bar}
use Rattle.greedy_rules.specs.Demands.{with_batch, opened, after_batch, by_last}
use Rattle.slot_batches.specs.FlowByFlow.{item_after, items_after}

-- the item was served in some slot
abbrev pub was_served : Item → Bool
was_served item = nat_lt 0 item.last

abbrev pub has_served : List Item → Bool
has_served list = list_any was_served list

-- the items taken up of those fed so far, with the batch applied: the flows that open come before the first item that was
-- served, or at the end of the list where there is none
abbrev pub taken_up : List Entry → List Item → Bool → List Item
taken_up batch [] finished = if finished then opened batch else []
taken_up batch (item ∷ fed) finished =
    if was_served item then opened batch ++ map (with_batch batch) (item ∷ fed) else with_batch batch item ∷ taken_up batch fed finished

-- the list is in the order of the slots in which its flows were last served
abbrev pub IsInOrder : List Item → Type 0
IsInOrder list = IsNonDecreasingBy (λ item. item.last) list

-- of the items after a batch whose first slot has this number: those that it did not serve, and those that it served
abbrev pub unserved : ℕ → List Item → List Item
unserved number items = filter (λ item. nat_lt item.last number) items

abbrev pub newly_served : ℕ → List Item → List Item
newly_served number items = filter (λ item. not (nat_lt item.last number)) items

-- a list fed to its end is the list with the batch applied
abbrev pub FeedingAppliesTheBatch : Type 0
FeedingAppliesTheBatch = (batch : List Entry) (list : List Item) → IsInOrder list → taken_up batch list true ≡ after_batch batch list

-- the list after the batch: first the items that it did not serve, as they stood, then those that it served
abbrev pub ServedItemsFollow : Type 0
ServedItemsFollow =
    (bar : Bar) (number : ℕ) (list : List Item) (slots : List (List Flow)) → IsInOrder list
    → by_last (items_after bar number list slots) ≡ unserved number (items_after bar number list slots) ++ by_last (newly_served number (items_after bar number list slots))

-- its last slot is one of these
abbrev pub IsServedWithin : ℕ → ℕ → Item → Type 0
IsServedWithin number count item = (number ≤ item.last) × (item.last < number + count)

-- each item is as it was, or was last served in a slot of the batch
abbrev pub AnItemIsServedOrAsItWas : Type 0
AnItemIsServedOrAsItWas =
    (bar : Bar) (number : ℕ) (item : Item) (slots : List (List Flow)) → (item_after bar number item slots ≡ item) ⊎ IsServedWithin number (length slots) (item_after bar number item slots)
