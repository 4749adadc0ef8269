use Rattle.std.proofs.Common.{◌≡◌, ◌<◌, ◌≤◌, ℕ}
use Rattle.greedy_rules.specs.Schedule.{slot_in}
use Rattle.clos_topology.specs.Network.{endpoints_of}
use Rattle.path_workers.specs.Coloured.{IsWithinCores}
use Rattle.paths_rows.proofs.tests.path_workers_rows.check_degrees.Given as goal

abbrev pub invariant-loop-slot : goal.invariant-loop-slot
invariant-loop-slot g l = record {
  within : (at : ℕ) → at < l.slot → IsWithinCores l.net (slot_in l.slots.slots at);
  net : l.table.net ≡ l.net;
  room : endpoints_of l.net ≤ l.graph.room;
}
