use Rattle.std.proofs.Common.{◌≡◌}
use Rattle.window_allocation.specs.Reach.{ShowSlots}
use Rattle.window_allocation.proofs.flow_slots.FlowSlots.note.Given as goal

abbrev pub invariant-loop-slot : goal.invariant-loop-slot
invariant-loop-slot l = record {
  endpoints : l.self.endpoints ≡ l.fn.self.endpoints;
  named : ShowSlots l.fn.self.endpoints l.slot l.out.slots l.self.words.items;
}
