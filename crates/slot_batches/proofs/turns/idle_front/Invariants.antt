use Rattle.std.proofs.Common.{◌≤◌, ◌-◌, All, length, take}
use Rattle.slot_batches.specs.Rests.{TakesNone}
use Rattle.slot_batches.proofs.turns.idle_front.Given as goal

abbrev pub invariant-loop-at : goal.invariant-loop-at
invariant-loop-at l = record {
  within : l.at ≤ length l.items;
  none : All (TakesNone l.filling.maps) (take l.at l.items);
}

abbrev pub decreases-loop-at : goal.decreases-loop-at
decreases-loop-at l = length l.items - l.at
