-- Why a waiting flow is not in a slot: flows of items that stand before its own keep it out (this project's own profile).
use Rattle.std.specs.Prelude.{◌≡◌, ◌<◌, ℕ, List, [], ◌∷◌, ◌++◌, map, true, false, IsTrue, All}
use Rattle.std.specs.List.{slice_index_or}
use Rattle.greedy_rules.specs.declared.flows.Item.{Item}
use Rattle.greedy_rules.specs.declared.limits.Limits.{Limits}
use Rattle.greedy_rules.specs.Demands.{is_listed}
use Rattle.greedy_rules.specs.Slot.{has_flow, greedy_slot}
use Rattle.greedy_rules.specs.Limits.{is_barred}
use Rattle.greedy_rules.specs.Allocation.{batch_lists}

-- the items before one put these flows into the slot, each a flow of one of them, and where the slot has not that one's flow,
-- which needs it, they keep it out
pub record IsFilledInOrder (limits : Limits) (front : List Item) (item : Item) (later : List Item) : Type 0 where
  pub chosen : All (λ flow. has_flow (greedy_slot (is_barred limits) (front ++ item ∷ later)) flow ≡ true) (greedy_slot (is_barred limits) front)
  pub listed : All (λ flow. is_listed front flow ≡ true) (greedy_slot (is_barred limits) front)
  pub left_out : 0 < item.need → has_flow (greedy_slot (is_barred limits) (front ++ item ∷ later)) item.flow ≡ false → IsTrue (is_barred limits (greedy_slot (is_barred limits) front) item.flow)

abbrev pub EverySlotIsFilledInOrder : Type 0
EverySlotIsFilledInOrder = (limits : Limits) (front : List Item) (item : Item) (later : List Item) → IsFilledInOrder limits front item later

-- the list before each slot of a batch has the flows of the batch's start list, in their order
abbrev pub EveryBatchKeepsItsOrder : Type 0
EveryBatchKeepsItsOrder =
    (limits : Limits) (number count at : ℕ) (list : List Item) → at < count
    → map (λ (item : Item). item.flow) (slice_index_or (batch_lists (is_barred limits) number count list) at []) ≡ map (λ item. item.flow) list
