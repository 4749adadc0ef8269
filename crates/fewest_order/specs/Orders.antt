-- Batches by an order (this project's own profile).
use Rattle.std.specs.Prelude.{◌≡◌, ℕ, ◌+◌, List, [], ◌∷◌}
use Rattle.greedy_rules.specs.declared.flows.Flow.{Flow}
use Rattle.greedy_rules.specs.declared.flows.Item.{Item}
use Rattle.greedy_rules.specs.declared.flows.Entry.{Entry}
use Rattle.greedy_rules.specs.declared.limits.Limits.{Limits}
use Rattle.greedy_rules.specs.Batches.{DemandBatch}
use Rattle.greedy_rules.specs.Demands.{Key, after_batch, after_batch_by}
use Rattle.greedy_rules.specs.Limits.{is_barred}
use Rattle.greedy_rules.specs.Allocation.{served, batch_slots, list_after_slots, list_after_slots_by}
use Rattle.greedy_rules.specs.Schedule.{schedule, schedule_by, rest, rest_by}

-- an item after these slots, the first of which has this number
abbrev pub served_through : ℕ → List (List Flow) → Item → Item
served_through number [] item = item
served_through number (slot ∷ slots) item = served_through (number + 1) slots (served number slot item)

-- the slots of a batch by this key, and the list that it leaves, are those of the plain allocator; and so are whole schedules
abbrev pub IsThePlainOrder : Key → Type 0
IsThePlainOrder key =
    ((limits : Limits) (number count : ℕ) (entries : List Entry) (list : List Item)
    → (batch_slots (is_barred limits) number count (after_batch_by key entries list) ≡ batch_slots (is_barred limits) number count (after_batch entries list))
    × (list_after_slots_by key (is_barred limits) number count (after_batch_by key entries list) ≡ list_after_slots (is_barred limits) number count (after_batch entries list)))
    × ((b : ℕ) (batches : List DemandBatch) → (schedule_by key b batches ≡ schedule b batches) × (rest_by key b batches ≡ rest b batches))

-- the item as if it had never been served
abbrev pub as_unserved : Item → Item
as_unserved item = record item { last = 0 }
