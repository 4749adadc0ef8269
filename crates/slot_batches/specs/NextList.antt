-- What a list has that a batch can be fed, and the list has again that the batch leaves (this project's own profile).
use Rattle.std.specs.Prelude.{◌≡◌, ◌<◌, ℕ, ◌+◌, List, [], length, replicate, All}
use Rattle.greedy_rules.specs.declared.flows.Item.{Item}
use Rattle.greedy_rules.specs.declared.flows.Entry.{Entry}
use Rattle.greedy_rules.specs.Batches.{IsBatch}
use Rattle.greedy_rules.specs.Slot.{Bar}
use Rattle.greedy_rules.specs.Demands.{HasEachFlowOnce, OpensNewFlows, opened, after_batch}
use Rattle.greedy_rules.specs.Allocation.{batch_slots, list_after_slots}
use Rattle.slot_batches.specs.Feeding.{IsInOrder}

-- the list before the slot of this number
pub record IsListBefore (number : ℕ) (list : List Item) : Type 0 where
  pub in_order : IsInOrder list
  pub below : All (λ item. item.last < number) list
  pub once : HasEachFlowOnce list

-- a batch of so many slots leaves the list before the slot that follows them
abbrev pub EveryBatchLeavesAList : Type 0
EveryBatchLeavesAList =
    (bar : Bar) (number count : ℕ) (batch : List Entry) (list : List Item) → 0 < number → IsBatch batch → OpensNewFlows batch list → IsListBefore number list
    → IsListBefore (number + count) (list_after_slots bar number count (after_batch batch list))

-- longer by the flows that open
abbrev pub EveryBatchKeepsItsFlows : Type 0
EveryBatchKeepsItsFlows =
    (bar : Bar) (number count : ℕ) (batch : List Entry) (list : List Item) → length (list_after_slots bar number count (after_batch batch list)) ≡ length list + length (opened batch)

-- where no item needs a slot and no entry comes, the slots are empty, and the list stays
abbrev pub AnIdleListStays : Type 0
AnIdleListStays =
    (bar : Bar) (number count : ℕ) (list : List Item) → IsInOrder list → All (λ item. item.need ≡ 0) list
    → (batch_slots bar number count (after_batch [] list) ≡ replicate count []) × (list_after_slots bar number count (after_batch [] list) ≡ list)
