-- The schedule of a list of batches and the demand that is left: batch after batch from the empty list, each by its own
-- limits (one-thread greedy allocation). Batch k, counted from 0, has the b slots from k * b + 1 on.
use Rattle.std.specs.Prelude.{ℕ, ◌+◌, ◌-◌, ◌*◌, List, [], ◌∷◌, ◌++◌, replicate}
use Rattle.std.specs.List.{slice_index_or}
use Rattle.greedy_rules.specs.declared.flows.Flow.{Flow}
use Rattle.greedy_rules.specs.declared.flows.Item.{Item}
use Rattle.greedy_rules.specs.declared.limits.Limits.{Limits}
use Rattle.greedy_rules.specs.Batches.{DemandBatch}
use Rattle.greedy_rules.specs.Demands.{Key, last_served, item_of, need_in, after_batch_by}
use Rattle.greedy_rules.specs.Limits.{is_barred}
use Rattle.greedy_rules.specs.Allocation.{batch_slots, batch_lists, list_after_slots_by}

abbrev pub first_slot : ℕ → ℕ → ℕ
first_slot b k = k * b + 1

-- by a key: the slots of batch k, the list before each, and the list after them, where the batch finds this list
abbrev pub slots_then_by : Key → ℕ → ℕ → DemandBatch → List Item → List (List Flow)
slots_then_by key b k batch list = batch_slots (is_barred batch.limits) (first_slot b k) b (after_batch_by key batch.entries list)

abbrev pub lists_then_by : Key → ℕ → ℕ → DemandBatch → List Item → List (List Item)
lists_then_by key b k batch list = batch_lists (is_barred batch.limits) (first_slot b k) b (after_batch_by key batch.entries list)

abbrev pub list_then_by : Key → ℕ → ℕ → DemandBatch → List Item → List Item
list_then_by key b k batch list = list_after_slots_by key (is_barred batch.limits) (first_slot b k) b (after_batch_by key batch.entries list)

-- from batch k on, with the list that it finds
abbrev pub schedule_from_by : Key → ℕ → ℕ → List Item → List DemandBatch → List (List Flow)
schedule_from_by key b k list [] = []
schedule_from_by key b k list (batch ∷ batches) = slots_then_by key b k batch list ++ schedule_from_by key b (k + 1) (list_then_by key b k batch list) batches

abbrev pub lists_from_by : Key → ℕ → ℕ → List Item → List DemandBatch → List (List Item)
lists_from_by key b k list [] = []
lists_from_by key b k list (batch ∷ batches) = lists_then_by key b k batch list ++ lists_from_by key b (k + 1) (list_then_by key b k batch list) batches

abbrev pub rest_from_by : Key → ℕ → ℕ → List Item → List DemandBatch → List Item
rest_from_by key b k list [] = list
rest_from_by key b k list (batch ∷ batches) = rest_from_by key b (k + 1) (list_then_by key b k batch list) batches

-- every slot, the one of number 1 first, and the demand that is left
abbrev pub schedule_by : Key → ℕ → List DemandBatch → List (List Flow)
schedule_by key b batches = schedule_from_by key b 0 [] batches

abbrev pub rest_by : Key → ℕ → List DemandBatch → List Item
rest_by key b batches = rest_from_by key b 0 [] batches

-- the same by the slot in which a flow was last served
abbrev pub slots_then : ℕ → ℕ → DemandBatch → List Item → List (List Flow)
slots_then b k batch list = slots_then_by last_served b k batch list

abbrev pub lists_then : ℕ → ℕ → DemandBatch → List Item → List (List Item)
lists_then b k batch list = lists_then_by last_served b k batch list

abbrev pub list_then : ℕ → ℕ → DemandBatch → List Item → List Item
list_then b k batch list = list_then_by last_served b k batch list

abbrev pub schedule_from : ℕ → ℕ → List Item → List DemandBatch → List (List Flow)
schedule_from b k list batches = schedule_from_by last_served b k list batches

abbrev pub lists_from : ℕ → ℕ → List Item → List DemandBatch → List (List Item)
lists_from b k list batches = lists_from_by last_served b k list batches

abbrev pub rest_from : ℕ → ℕ → List Item → List DemandBatch → List Item
rest_from b k list batches = rest_from_by last_served b k list batches

abbrev pub schedule : ℕ → List DemandBatch → List (List Flow)
schedule b batches = schedule_by last_served b batches

abbrev pub rest : ℕ → List DemandBatch → List Item
rest b batches = rest_by last_served b batches

-- the limits of each slot: those of its batch
abbrev pub slot_limits : ℕ → List DemandBatch → List Limits
slot_limits b [] = []
slot_limits b (batch ∷ batches) = replicate b batch.limits ++ slot_limits b batches

-- the slot at a place, counted from 0
abbrev pub slot_in : List (List Flow) → ℕ → List Flow
slot_in slots at = slice_index_or slots at []

-- the slot of a number, the list when it is taken, and its limits
abbrev pub slot_at : List (List Flow) → ℕ → List Flow
slot_at slots number = slot_in slots (number - 1)

abbrev pub list_before_by : Key → ℕ → List DemandBatch → ℕ → List Item
list_before_by key b batches number = slice_index_or (lists_from_by key b 0 [] batches) (number - 1) []

abbrev pub list_before : ℕ → List DemandBatch → ℕ → List Item
list_before b batches number = list_before_by last_served b batches number

abbrev pub limits_at : ℕ → List DemandBatch → ℕ → Limits
limits_at b batches number = slice_index_or (slot_limits b batches) (number - 1) (record { hosts = 0; cores = 0 })

-- a flow's need before the slot of a number
abbrev pub need_before_by : Key → ℕ → List DemandBatch → ℕ → Flow → ℕ
need_before_by key b batches number flow = need_in (item_of (list_before_by key b batches number) flow)

abbrev pub need_before : ℕ → List DemandBatch → ℕ → Flow → ℕ
need_before b batches number flow = need_before_by last_served b batches number flow
