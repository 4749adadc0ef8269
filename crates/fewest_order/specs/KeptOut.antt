-- Why a flow that waits is not in a slot of a batch by an order: flows of the slot keep it out that stand before it in the
-- batch's start list (this project's own profile).
use Rattle.std.specs.Prelude.{◌≡◌, ◌<◌, ◌≤◌, ℕ, List, [], ◌∷◌, ◌++◌, true, false, IsTrue, All}
use Rattle.std.specs.List.{slice_index_or}
use Rattle.greedy_rules.specs.declared.flows.Flow.{Flow}
use Rattle.greedy_rules.specs.declared.flows.Item.{Item}
use Rattle.greedy_rules.specs.declared.flows.Entry.{Entry}
use Rattle.greedy_rules.specs.declared.limits.Limits.{Limits}
use Rattle.greedy_rules.specs.Demands.{Key, HasEachFlowOnce, is_listed, item_of, need_in, after_batch_by}
use Rattle.greedy_rules.specs.Slot.{has_flow}
use Rattle.greedy_rules.specs.Limits.{is_barred}
use Rattle.greedy_rules.specs.Matching.{AreMaximalMatchings}
use Rattle.greedy_rules.specs.Allocation.{batch_slots, batch_lists}
use Rattle.greedy_rules.specs.Schedule.{slot_in}
use Rattle.greedy_rules.specs.Examples.{remaining}

-- the slots of a batch by this key are matchings within the limits that no waiting demand could join
abbrev pub BatchesHaveMaximalMatchings : Key → Type 0
BatchesHaveMaximalMatchings key =
    (limits : Limits) (number count : ℕ) (entries : List Entry) (list : List Item) → AreMaximalMatchings limits number count (after_batch_by key entries list)

-- a batch's start list has this item at a place: these items before it, and these behind; and at a slot of the batch, counted
-- from 0, the item's flow waits and is not in the slot
pub record IsLeftOut (limits : Limits) (number count at : ℕ) (start front : List Item) (item : Item) (later : List Item) : Type 0 where
  pub once : HasEachFlowOnce start
  pub place : start ≡ front ++ item ∷ later
  pub within : at < count
  pub waits : 0 < need_in (item_of (slice_index_or (batch_lists (is_barred limits) number count start) at []) item.flow)
  pub left_out : has_flow (slot_in (batch_slots (is_barred limits) number count start) at) item.flow ≡ false

-- these flows are in the slot, stand in front of the flow, and keep it out
pub record AreBarring (limits : Limits) (front : List Item) (slot : List Flow) (flow : Flow) (flows : List Flow) : Type 0 where
  pub chosen : All (λ f. has_flow slot f ≡ true) flows
  pub before : All (λ f. is_listed front f ≡ true) flows
  pub barred : IsTrue (is_barred limits flows flow)

-- flows of the slot that stand before it keep it out, and no item before it has a greater number
abbrev pub FlowsBeforeItBar : Key → Type 0
FlowsBeforeItBar key =
    (limits : Limits) (number count at : ℕ) (entries : List Entry) (list front : List Item) (item : Item) (later : List Item)
    → IsLeftOut limits number count at (after_batch_by key entries list) front item later
    → ((flows : List Flow) × AreBarring limits front (slot_in (batch_slots (is_barred limits) number count (after_batch_by key entries list)) at) item.flow flows)
    × All (λ other. key other.need other.last ≤ key item.need item.last) front

-- by need: none of the flows that keep it out needed more as the batch began
abbrev pub NoneThatNeedsMoreBars : Type 0
NoneThatNeedsMoreBars =
    (limits : Limits) (number count at : ℕ) (entries : List Entry) (list front : List Item) (item : Item) (later : List Item)
    → IsLeftOut limits number count at (after_batch_by remaining entries list) front item later
    → (flows : List Flow) × AreBarring limits front (slot_in (batch_slots (is_barred limits) number count (after_batch_by remaining entries list)) at) item.flow flows
    × All (λ flow. need_in (item_of (after_batch_by remaining entries list) flow) ≤ item.need) flows
