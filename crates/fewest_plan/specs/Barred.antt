-- Why a flow that waits is not in a slot of a schedule by need: flows of the slot keep it out that stand before it in the batch's
-- start list, and none of them needed more as the batch began (this project's own profile).
use Rattle.std.specs.Prelude.{◌≡◌, ◌<◌, ◌≤◌, ℕ, ◌+◌, List, ◌∷◌, ◌++◌, length, take, false, All, slice_index_or}
use Rattle.greedy_rules.specs.declared.flows.Flow.{Flow}
use Rattle.greedy_rules.specs.declared.flows.Item.{Item}
use Rattle.greedy_rules.specs.Batches.{DemandBatch}
use Rattle.greedy_rules.specs.Demands.{item_of, need_in, after_batch_by}
use Rattle.greedy_rules.specs.Slot.{has_flow}
use Rattle.greedy_rules.specs.Schedule.{first_slot, schedule_by, rest_by, slot_at, need_before_by}
use Rattle.greedy_rules.specs.Examples.{remaining}
use Rattle.fewest_order.specs.KeptOut.{AreBarring}
use Rattle.trace_text.specs.Trace.{TraceContent}
use Rattle.trace_text.specs.Valid.{IsTrace}
use Rattle.plan_rounds.specs.Batches.{plan_batches}
use Rattle.run_lines.specs.Text.{no_batch}

abbrev pub batch_of_round : List DemandBatch → ℕ → DemandBatch
batch_of_round batches k = slice_index_or batches k no_batch

-- batch k's start list: what the batches before it left, with its entries applied, by need
abbrev pub start_of : ℕ → List DemandBatch → ℕ → List Item
start_of b batches k = after_batch_by remaining (batch_of_round batches k).entries (rest_by remaining b (take k batches))

-- at a slot of batch k, both counted from 0, this item's flow waits and is not in the slot; the start list has these items before
-- it and those behind
pub record IsLeftOutOf (b : ℕ) (batches : List DemandBatch) (k at : ℕ) (front : List Item) (item : Item) (later : List Item) : Type 0 where
  pub batch : k < length batches
  pub slot : at < b
  pub place : start_of b batches k ≡ front ++ item ∷ later
  pub waits : 0 < need_before_by remaining b batches (first_slot b k + at) item.flow
  pub left_out : has_flow (slot_at (schedule_by remaining b batches) (first_slot b k + at)) item.flow ≡ false

-- flows of the slot that stand before it keep it out, and none of them needed more as the batch began
abbrev pub NoneThatNeedsMoreBarsIn : ℕ → List DemandBatch → Type 0
NoneThatNeedsMoreBarsIn b batches =
    (k at : ℕ) (front : List Item) (item : Item) (later : List Item) → IsLeftOutOf b batches k at front item later
    → (flows : List Flow) × AreBarring (batch_of_round batches k).limits front (slot_at (schedule_by remaining b batches) (first_slot b k + at)) item.flow flows
    × All (λ flow. need_in (item_of (start_of b batches k) flow) ≤ item.need) flows

-- so it is in every plan by need
abbrev pub NoneThatNeedsMoreBarsInPlans : Type 0
NoneThatNeedsMoreBarsInPlans = (b : ℕ) (trace : TraceContent) → IsTrace trace → NoneThatNeedsMoreBarsIn b (plan_batches trace)
