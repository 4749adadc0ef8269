use Rattle.std.proofs.Common.{◌≤◌, ◌-◌, length, take}
use Rattle.slot_batches.specs.Filled.{HasTakenUp}
use Rattle.slot_batches.specs.Parts.{fill_of, FillingHasRoom, IsSameBatch}
use Rattle.slot_batches.proofs.turns.take_all.Given as goal

abbrev pub invariant-loop-from : goal.invariant-loop-from
invariant-loop-from l = record {
  within : l.from ≤ length l.items;
  room : FillingHasRoom l.filling;
  same : IsSameBatch l.fn.filling.maps.limits l.fn.filling.endpoints l.fn.filling.b l.fn.filling.first_slot l.filling;
  taken_up : HasTakenUp (take l.from l.items) (fill_of l.filling);
}

abbrev pub decreases-loop-from : goal.decreases-loop-from
decreases-loop-from l = length l.items - l.from
