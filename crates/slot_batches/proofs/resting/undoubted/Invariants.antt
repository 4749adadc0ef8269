use Rattle.std.proofs.Common.{◌≤◌, ◌-◌, List, All, length, take}
use Rattle.greedy_rules.specs.declared.flows.Entry.{Entry}
use Rattle.slot_batches.specs.Marks.{AreMarked}
use Rattle.slot_batches.specs.Rests.{ItemRests}
use Rattle.slot_batches.proofs.resting.undoubted.Given as goal

abbrev pub invariant-loop-at : goal.invariant-loop-at
invariant-loop-at l = record {
  within : l.at ≤ length l.items;
  rest : (entries : List Entry) → AreMarked entries l.marks → All (ItemRests entries 0 l.filling.maps) (take l.at l.items);
}

abbrev pub decreases-loop-at : goal.decreases-loop-at
decreases-loop-at l = length l.items - l.at
