-- Small batches, flow by flow, in full.
use Rattle.std.specs.Prelude.{◌≡◌, true, false, [], ◌∷◌, map, replicate}
use Rattle.greedy_rules.specs.Examples.{flow, waiting}
use Rattle.greedy_rules.specs.Slot.{is_taken}
use Rattle.slot_batches.specs.FlowByFlow.{slots_after, items_after}
use Rattle.slot_batches.specs.FreePlaces.{is_free, is_chosen}

-- 0 sends to 1 in both slots of the batch, which leaves nothing to 0 to 2; slots 5 and 6.
abbrev pub TheFirstFlowTakesBothSlots : Type 0
TheFirstFlowTakesBothSlots =
    (slots_after is_taken 5 (waiting 0 1 3 1 ∷ waiting 0 2 1 4 ∷ []) (replicate 2 []) ≡ (flow 0 1 ∷ []) ∷ (flow 0 1 ∷ []) ∷ [])
    × (items_after is_taken 5 (waiting 0 1 3 1 ∷ waiting 0 2 1 4 ∷ []) (replicate 2 []) ≡ waiting 0 1 1 6 ∷ waiting 0 2 1 4 ∷ [])

-- 0 sends to 1 in the first slot, so 3 sends to 1 in the second, and 0 to 2 beside it.
abbrev pub ThreeFlowsShareTwoSlots : Type 0
ThreeFlowsShareTwoSlots =
    (slots_after is_taken 5 (waiting 0 1 1 0 ∷ waiting 3 1 2 0 ∷ waiting 0 2 2 0 ∷ []) (replicate 2 []) ≡ (flow 0 1 ∷ []) ∷ (flow 0 2 ∷ flow 3 1 ∷ []) ∷ [])
    × (items_after is_taken 5 (waiting 0 1 1 0 ∷ waiting 3 1 2 0 ∷ waiting 0 2 2 0 ∷ []) (replicate 2 []) ≡ waiting 0 1 0 5 ∷ waiting 3 1 1 6 ∷ waiting 0 2 1 6 ∷ [])

-- Of four slots the second is taken by another flow of the source, and the third by one to the destination; one is needed.
abbrev pub TheLowestFreePlaceIsTaken : Type 0
TheLowestFreePlaceIsTaken =
    (map (is_free is_taken (flow 0 1) ([] ∷ (flow 0 2 ∷ []) ∷ (flow 3 1 ∷ []) ∷ (flow 2 0 ∷ []) ∷ [])) (0 ∷ 1 ∷ 2 ∷ 3 ∷ 4 ∷ []) ≡ true ∷ false ∷ false ∷ true ∷ false ∷ [])
    × (map (is_chosen is_taken (waiting 0 1 1 0) ([] ∷ (flow 0 2 ∷ []) ∷ (flow 3 1 ∷ []) ∷ (flow 2 0 ∷ []) ∷ [])) (0 ∷ 1 ∷ 2 ∷ 3 ∷ 4 ∷ []) ≡ true ∷ false ∷ false ∷ false ∷ false ∷ [])
