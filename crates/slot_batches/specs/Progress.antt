-- How far a batch is that goes flow by flow (this project's own profile).
use Rattle.std.specs.Prelude.{◌≡◌, ℕ, List, [], replicate}
use Rattle.greedy_rules.specs.declared.flows.Flow.{Flow}
use Rattle.greedy_rules.specs.declared.flows.Item.{Item}
use Rattle.greedy_rules.specs.Slot.{Bar}
use Rattle.slot_batches.specs.FlowByFlow.{slots_after, items_after}
use Rattle.slot_batches.specs.Feeding.{unserved, newly_served}

-- a batch of so many slots, the first of this number, stands so once the items of the list had their turns: its slots, the
-- items that it did not serve, and those that it served, in the order of the list
pub record StandsAfter (bar : Bar) (number count : ℕ) (list : List Item) (slots : List (List Flow)) (waiting served : List Item) : Type 0 where
  pub slots_are : slots ≡ slots_after bar number list (replicate count [])
  pub waiting_are : waiting ≡ unserved number (items_after bar number list (replicate count []))
  pub served_are : served ≡ newly_served number (items_after bar number list (replicate count []))
