use Rattle.std.proofs.Common.{◌≡◌}
use Rattle.std.specs.Prelude.{vec_len}
use Rattle.greedy_rules.specs.SlotTable.{IsTable, slots_of_rows}
use Rattle.greedy_rules.specs.Senders.{TellSenders}
use Rattle.greedy_rules.proofs.rows.Rows.clear.Given as goal

abbrev pub invariant-loop-slot : goal.invariant-loop-slot
invariant-loop-slot l = record {
  table : IsTable l.self;
  senders : TellSenders l.self.endpoints (slots_of_rows l.self) l.senders;
  count : vec_len l.self.places ≡ vec_len l.fn.self.places;
  endpoints : l.self.endpoints ≡ l.fn.self.endpoints;
}

abbrev pub decreases-loop-slot : goal.decreases-loop-slot
decreases-loop-slot l = vec_len l.self.owners
