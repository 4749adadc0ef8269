use Rattle.std.proofs.Common.{◌≡◌, ◌≤◌, ◌*◌, length, take}
use Rattle.greedy_rules.specs.SlotTable.{flows_from}
use Rattle.clos_topology.specs.RackGraph.{rack_edges}
use Rattle.clos_topology.proofs.graph.add_all.Given as goal

abbrev pub invariant-loop-word : goal.invariant-loop-word
invariant-loop-word l = record {
  count : l.count ≤ length (take (l.word * 64) l.row);
  edges : take l.count l.places ≡ rack_edges l.net.hosts (flows_from 0 (take (l.word * 64) l.row));
  length : length l.places ≡ length l.fn.places;
}
