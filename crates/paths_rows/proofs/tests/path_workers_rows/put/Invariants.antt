use Rattle.std.proofs.Common.{◌≢◌, ◌<◌, ℕ, Some}
use Rattle.greedy_rules.specs.Schedule.{slot_in}
use Rattle.greedy_rules.specs.SlotTable.{destination_of}
use Rattle.paths_rows.proofs.tests.path_workers_rows.put.Given as goal

abbrev pub invariant-loop-other : goal.invariant-loop-other
invariant-loop-other g l = (source : ℕ) → source < l.other → destination_of (slot_in l.slots.slots l.slot) source ≢ Some l.destination
