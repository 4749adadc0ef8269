-- A batch flow by flow is the greedy allocation slot by slot.
use Rattle.std.specs.Prelude.{◌≡◌, ℕ, List, [], replicate}
use Rattle.greedy_rules.specs.declared.flows.Item.{Item}
use Rattle.greedy_rules.specs.Slot.{Bar}
use Rattle.greedy_rules.specs.Demands.{HasEachFlowOnce}
use Rattle.greedy_rules.specs.Allocation.{batch_slots, list_through}
use Rattle.slot_batches.specs.FlowByFlow.{slots_after, items_after}

-- the b slots from a number on, filled flow by flow, are those of the slot by slot walk, and so are the items then
pub record IsSlotBySlot (bar : Bar) (number : ℕ) (b : ℕ) (list : List Item) : Type 0 where
  pub slots : slots_after bar number list (replicate b []) ≡ batch_slots bar number b list
  pub items : items_after bar number list (replicate b []) ≡ list_through bar number b list

abbrev pub FlowByFlowIsSlotBySlot : Type 0
FlowByFlowIsSlotBySlot = (bar : Bar) (number b : ℕ) (list : List Item) → HasEachFlowOnce list → IsSlotBySlot bar number b list
