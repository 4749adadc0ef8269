-- Small lists, fed and served.
use Rattle.std.specs.Prelude.{◌≡◌, [], ◌∷◌, false}
use Rattle.greedy_rules.specs.Slot.{is_taken}
use Rattle.greedy_rules.specs.Demands.{by_last}
use Rattle.greedy_rules.specs.Examples.{opening_entry, waiting}
use Rattle.slot_batches.specs.FlowByFlow.{items_after}
use Rattle.slot_batches.specs.Feeding.{taken_up}

-- A flow that opens waits for the first item that was served before.
abbrev pub AnOpenedFlowWaitsForAServedOne : Type 0
AnOpenedFlowWaitsForAServedOne = taken_up (opening_entry 0 3 1 ∷ []) (waiting 0 1 2 0 ∷ []) false ≡ waiting 0 1 2 0 ∷ []

abbrev pub AnOpenedFlowGoesBeforeAServedOne : Type 0
AnOpenedFlowGoesBeforeAServedOne =
    taken_up (opening_entry 0 3 1 ∷ opening_entry 0 5 3 ∷ []) (waiting 0 1 2 0 ∷ waiting 0 2 1 5 ∷ waiting 0 4 2 6 ∷ []) false
    ≡ waiting 0 1 2 0 ∷ waiting 0 3 1 0 ∷ waiting 0 5 3 0 ∷ waiting 0 2 1 5 ∷ waiting 0 4 2 6 ∷ []

-- Of three items the first takes both slots of its source, the second finds none left, and the third takes the lower one.
abbrev pub TheItemWithoutASlotStandsFirst : Type 0
TheItemWithoutASlotStandsFirst =
    by_last (items_after is_taken 7 (waiting 0 1 3 3 ∷ waiting 0 2 1 5 ∷ waiting 4 2 1 6 ∷ []) ([] ∷ [] ∷ []))
    ≡ waiting 0 2 1 5 ∷ waiting 4 2 0 7 ∷ waiting 0 1 1 8 ∷ []
