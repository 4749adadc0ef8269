use Rattle.std.proofs.Common.{◌≤◌, ◌-◌, ◌++◌, ℕ, List, false, length, take}
use Rattle.greedy_rules.specs.declared.flows.Item.{Item}
use Rattle.slot_batches.specs.ArrayStands.{array_endpoints, array_size, array_first, array_number, IsSameArrayWork, MayBeFed, ArrayStands}
use Rattle.slot_batches.proofs.array_stage.ArrayStage.feed_items.Given as goal

abbrev pub invariant-loop-from : goal.invariant-loop-from
invariant-loop-from l = record {
  within : l.from ≤ length l.items;
  stands : (fed : List Item) → (given : ℕ) → ArrayStands l.batch fed false given l.fn.self → MayBeFed l.batch.entries (array_endpoints l.fn.self) (array_first l.fn.self) (fed ++ l.items)
      → ArrayStands l.batch (fed ++ take l.from l.items) false given l.self;
  work : IsSameArrayWork (array_endpoints l.fn.self) (array_size l.fn.self) (array_number l.fn.self) (array_first l.fn.self) l.self;
}

abbrev pub decreases-loop-from : goal.decreases-loop-from
decreases-loop-from l = length l.items - l.from
