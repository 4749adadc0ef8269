use Rattle.std.proofs.Common.{◌≡◌, ◌≤◌, ◌+◌, ◌++◌, length, take}
use Rattle.list_facts.proofs.Bits.{kept, IsWithin}
use Rattle.greedy_rules.specs.SlotTable.{flows_from}
use Rattle.clos_topology.specs.RackGraph.{rack_edges}
use Rattle.clos_topology.proofs.graph.add_word.Given as goal

abbrev pub invariant-loop-rest : goal.invariant-loop-rest
invariant-loop-rest l = record {
  within : IsWithin l.row l.rest;
  edges : take l.count l.places ++ rack_edges l.net.hosts (flows_from l.from (kept l.rest l.row)) ≡ take l.before l.fn.places ++ rack_edges l.net.hosts (flows_from l.from l.row);
  room : l.count + length (flows_from l.from (kept l.rest l.row)) ≤ l.before + length l.row;
  length : length l.places ≡ length l.fn.places;
}

abbrev pub decreases-loop-rest : goal.decreases-loop-rest
decreases-loop-rest l = l.rest
