use Rattle.std.proofs.Common.{◌≡◌, ◌+◌, ◌++◌, take, drop}
use Rattle.greedy_rules.proofs.slots.SlotTable.copy.Given as goal

abbrev pub invariant-loop-slot : goal.invariant-loop-slot
invariant-loop-slot l = record {
  slots : l.self.slots ≡ take l.to l.initial.self.slots ++ (take l.slot l.from.slots ++ drop (l.to + l.slot) l.initial.self.slots);
  endpoints : l.self.endpoints ≡ l.initial.self.endpoints;
}
