-- How long a demand list grows: each flow has one item, so as many as there are pairs of two different endpoints are enough.
use Rattle.std.specs.Prelude.{ℕ, ◌+◌, ◌-◌, ◌*◌, ◌≤◌, List, ◌++◌, length}
use Rattle.greedy_rules.specs.declared.flows.Item.{Item}
use Rattle.greedy_rules.specs.declared.flows.Entry.{Entry}
use Rattle.greedy_rules.specs.Batches.{IsBatch}
use Rattle.greedy_rules.specs.Demands.{HasEachFlowOnce, AreBelow, HaveTwoEnds, OpensNewFlows, opened}

abbrev pub FlowsFitPairs : Type 0
FlowsFitPairs =
    (endpoints : ℕ) (batch : List Entry) (list : List Item) → IsBatch batch → OpensNewFlows batch list → HasEachFlowOnce list → AreBelow endpoints (list ++ opened batch)
    → HaveTwoEnds (list ++ opened batch) → length list + length (opened batch) ≤ endpoints * (endpoints - 1)
