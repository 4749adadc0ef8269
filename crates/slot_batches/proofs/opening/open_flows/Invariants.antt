use Rattle.std.proofs.Common.{List, ◌++◌, take}
use Rattle.greedy_rules.specs.declared.flows.Item.{Item}
use Rattle.greedy_rules.specs.Demands.{opened}
use Rattle.slot_batches.specs.Filled.{HasTakenUp, MayBeTakenUp}
use Rattle.slot_batches.specs.Parts.{fill_of, FillingHasRoom, IsSameBatch}
use Rattle.slot_batches.proofs.opening.open_flows.Given as goal

abbrev pub invariant-loop-at : goal.invariant-loop-at
invariant-loop-at l = record {
  room : FillingHasRoom l.filling;
  same : IsSameBatch l.fn.filling.maps.limits l.fn.filling.endpoints l.fn.filling.b l.fn.filling.first_slot l.filling;
  taken_up : (taken : List Item) → HasTakenUp taken (fill_of l.fn.filling) → MayBeTakenUp l.fn.filling.endpoints l.fn.filling.first_slot (taken ++ opened (take l.entries l.batch.entries))
      → HasTakenUp (taken ++ opened (take l.at l.batch.entries)) (fill_of l.filling);
}
